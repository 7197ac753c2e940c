-- `settle_upper_ends` meets its contract.
use mathlib.Core.Path.{refl}
use Rattle.call_settling.specs.Settled.{uppers_settled}
use Rattle.call_settling.proofs.Putting.{ready_same, places_below}
use Rattle.call_settling.proofs.settle_upper_ends.Goals as goal

pub store_at-requires : goal.store_at-requires
store_at-requires c = places_below c.requires.ready c.requires.below

pub settle-requires : goal.settle-requires
settle-requires c =
    record {
      ready = ready_same c.requires.ready c.store_at.auto.cells;
      row_len = refl;
    }

pub returns : goal.returns
unfolding uppers_settled
returns c = rw c.store_at.ensures at c.settle.ensures
