-- `sheet` meets its contract: what is refused leaves everything as it was, and the sheet is found where the rest passed.
use mathlib.Core.Path.{◌≡◌, sym}
use lib.ListN.{length}
use Rattle.std.proofs.Common.{rules}
use Rattle.std.specs.Prelude.{Err}
use Rattle.day_skyline.proofs.Answering.{passed, sheet_refused, sheet_found}
use Rattle.day_skyline.proofs.sheet.Goals as goal

pub returns-in_err-judge : goal.returns-in_err-judge
returns-in_err-judge c =
    let e : c.from_residual.result ≡ Err c.in_err-judge.field-0.0 = search rules in
    rw e (sheet_refused _ _ _ _ _ c.in_err-judge.field-0.0 c.in_err-judge.ensures)

pub invariant_of-day : goal.invariant_of-day
invariant_of-day c =
    let f = passed c.args.d c.args.directions c.args.count (length c.args.columns.now) (sym c.in_ok-judge.ensures) in
    record { few_columns = f.few_columns; not_too_long = f.not_too_long; quotes_held = f.quotes_held }

pub returns : goal.returns
returns c = sheet_found _ _ _ _ _ (sym c.in_ok-judge.ensures) c.sheet_in.ensures
