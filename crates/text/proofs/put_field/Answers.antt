-- `put_field` meets its contract: the number is laid behind the space.
use native.Mathlib.Omega.{arith}
use Rattle.text.specs.Text.{field}
use Rattle.text.proofs.Digits.{at_most_ten}
use Rattle.text.proofs.Lines.{behind_first, of_front}
use Rattle.text.proofs.put_field.Goals as goal

pub returns : goal.returns
unfolding field
returns c = of_front (behind_first 32 _ (omega (arith, at_most_ten c.args.n)) c.put_number.ensures)
