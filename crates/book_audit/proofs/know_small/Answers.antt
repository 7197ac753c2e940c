-- `know_small` meets its contract: the type of the cells says it.
use native.Mathlib.Omega.{arith}
use Rattle.book_audit.proofs.know_small.Goals as goal

pub returns : goal.returns
returns c = λ i. omega (arith, c.type_inv.cells i)
