-- `bqb_past` meets its contract: the promise of the call at the head that the cells hold.
use mathlib.Core.Path.{refl}
use Rattle.host_looks.proofs.Told.{past_told}
use Rattle.host_looks.proofs.bqb_past.Goals as goal

pub returns : goal.returns
returns c = past_told c.head_of.ensures c.past-past_list.ensures c.number_of.ensures refl
