-- `put_line2` meets its contract: the line of the second letter is laid behind the first.
use native.Mathlib.Omega.{arith}
use Rattle.text.specs.Text.{line2}
use Rattle.text.proofs.Lines.{behind_first, of_front, line_short, line2_short}
use Rattle.text.proofs.put_line2.Goals as goal

pub overflow_add-result : goal.overflow_add-result
overflow_add-result c = omega (arith, c.put_line.ensures.counted, line_short c.args.second c.args.numbers.now)

pub returns : goal.returns
unfolding line2
returns c = of_front (behind_first _ _ (omega (arith, line2_short c.args.first c.args.second c.args.numbers.now)) c.put_line.ensures)
