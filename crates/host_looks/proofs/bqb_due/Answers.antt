-- `bqb_due` meets its contract: the promise of the call at the head that the cells hold.
use mathlib.Core.Path.{refl}
use Rattle.host_looks.proofs.Told.{due_told}
use Rattle.host_looks.proofs.bqb_due.Goals as goal

pub returns : goal.returns
returns c = due_told c.head_of.ensures c.due-rows.ensures c.number_of.ensures refl
