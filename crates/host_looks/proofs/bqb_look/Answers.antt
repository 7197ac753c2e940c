-- `bqb_look` meets its contract: the promise of the call at the head that the cells hold.
use mathlib.Core.Path.{refl}
use Rattle.host_looks.proofs.Told.{look_told_lem}
use Rattle.host_looks.proofs.bqb_look.Goals as goal

pub returns : goal.returns
returns c = look_told_lem c.head_of.ensures c.look-listed.ensures c.number_of.ensures refl
