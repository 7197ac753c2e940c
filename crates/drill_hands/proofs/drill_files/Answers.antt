-- `drill_files` meets its contract.
use mathlib.Core.Path.{◌≡◌}
use Rattle.std.proofs.Common.{rules}
use Rattle.std.specs.Prelude.{Err}
use Rattle.drill_hands.proofs.Lines.{first_refused, second_refused, both_taken}
use Rattle.drill_hands.proofs.drill_files.Goals as goal

pub returns-in_err-mine : goal.returns-in_err-mine
returns-in_err-mine c =
    let e : c.from_residual.result ≡ Err c.in_err-mine.field-0.0.refusal = search rules in
    rw e (first_refused c.args.rules c.args.first.now c.args.second.now c.in_err-mine.field-0.0 c.in_err-mine.ensures)

pub returns-in_err-theirs : goal.returns-in_err-theirs
returns-in_err-theirs c =
    let e : c.from_residual-in_err-theirs.result ≡ Err c.in_err-theirs.field-0.0.refusal = search rules in
    rw e (second_refused c.args.rules c.args.first.now c.args.second.now c.in_ok-mine.mine c.in_ok-mine.ensures c.in_err-theirs.field-0.0 c.in_err-theirs.ensures)

pub returns : goal.returns
returns c =
    both_taken c.args.rules c.args.first.now c.args.second.now c.in_ok-mine.mine c.in_ok-mine.ensures
    c.in_ok-theirs.theirs c.in_ok-theirs.ensures c.drill.ensures
