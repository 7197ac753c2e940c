-- `record_of` meets its contract.
use mathlib.Core.Path.{refl}
use Rattle.head.specs.Desks.{record_of}
use Rattle.host_plays.proofs.record_of.Goals as goal

pub returns : goal.returns
unfolding record_of
returns c = refl
