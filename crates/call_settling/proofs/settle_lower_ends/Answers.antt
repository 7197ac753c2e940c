-- `settle_lower_ends` meets its contract.
use mathlib.Core.Path.{refl}
use native.Mathlib.Omega.{arith}
use native.Mathlib.Nat.{mul-one}
use Rattle.call_settling.specs.Settled.{lowers_settled}
use Rattle.call_settling.proofs.Putting.{ready_same}
use Rattle.call_settling.proofs.settle_lower_ends.Goals as goal

pub rename-requires : goal.rename-requires
rename-requires c = omega (arith, c.requires.named_le_held, c.requires.ready.held_fit, c.requires.ready.long, mul-one c.args.head.capacity)

pub settle-requires : goal.settle-requires
settle-requires c =
    record {
      ready = ready_same c.requires.ready c.rename.auto.cells;
      row_len = refl;
    }

pub returns : goal.returns
unfolding lowers_settled
returns c = rw c.rename.ensures at c.settle.ensures
