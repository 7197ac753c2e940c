-- `shift` meets its contract: each turn moves one piece.
use Prim.Native.Nat.{◌-◌}
use Rattle.table_cells.proofs.Shifting.{Shifting}
use Rattle.table_cells.proofs.shift.Given as goal

abbrev pub invariant-loop-at : goal.invariant-loop-at
invariant-loop-at l = Shifting l.initial.cells l.by l.count l.cells l.at

abbrev pub decreases-loop-at : goal.decreases-loop-at
decreases-loop-at l = l.count - l.by - l.at
