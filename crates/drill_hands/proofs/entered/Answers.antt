-- `entered` meets its contract.
use native.Mathlib.Omega.{arith}
use Rattle.drill_hands.proofs.Handing.{entered_is}
use Rattle.drill_hands.proofs.entered.Goals as goal

pub returns : goal.returns
returns c = rw c.copy_from_slice.ensures.after (entered_is c.args.cells c.args.at c.args.quote (omega arith) (omega arith) c.requires)
