-- `skip_unequal` meets its contract: each turn passes a block.
use Prim.Native.Nat.{◌-◌}
use Rattle.table_changes.specs.Sought.{Unequal}
use Rattle.table_changes.proofs.seeking.skip_unequal.Given as goal

abbrev pub invariant-loop-i : goal.invariant-loop-i
invariant-loop-i l = Unequal l.cells l.x l.from l.to l.i

abbrev pub decreases-loop-i : goal.decreases-loop-i
decreases-loop-i l = l.to - l.i
