-- `find` meets its contract: the frames gathered, their refusals, then the sheet and its own.
use mathlib.Core.Path.{◌≡◌}
use native.Mathlib.Omega.{arith}
use Rattle.std.proofs.Common.{rules}
use Rattle.std.specs.Prelude.{Err}
use Rattle.day_frames.proofs.Gathering.{early_line, sheet_line, sheet_fits}
use Rattle.day_frames.proofs.find.Goals as goal

pub returns-in_err-judge-clause-said : goal.returns-in_err-judge-clause-said
returns-in_err-judge-clause-said c =
    let e : c.from_residual.result ≡ Err c.in_err-judge.field-0.0 = search rules in
    rw e (early_line _ _ _ _ _ c.gather-gathered.ensures c.in_err-judge.field-0.0 c.args.out.now c.in_err-judge.ensures)

pub returns-clause-said : goal.returns-clause-said
returns-clause-said c = sheet_line _ _ _ _ _ c.gather-gathered.ensures c.in_ok-judge.ensures c.sheet.result c.sheet.ensures

pub returns-clause-fits : goal.returns-clause-fits
returns-clause-fits c = omega (arith, sheet_fits _ _ _ _ _ c.sheet.result c.sheet.ensures, c.sheet.auto.out)
