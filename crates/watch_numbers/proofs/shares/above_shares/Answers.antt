-- `above_shares` meets its contract.
use native.Mathlib.Omega.{arith}
use Rattle.head.specs.declared.Desk.TheVariants.{One, Two}
use Rattle.model.specs.Shares.{above_shares}
use Rattle.watch_numbers.proofs.Counting.{bounded_of_desk}
use Rattle.watch_numbers.proofs.shares.above_shares.Goals as goal

pub overflow_add-result : goal.overflow_add-result
overflow_add-result c = omega (arith, bounded_of_desk One c.args.watches, bounded_of_desk Two c.args.watches)

pub returns : goal.returns
unfolding above_shares
returns c = omega arith
