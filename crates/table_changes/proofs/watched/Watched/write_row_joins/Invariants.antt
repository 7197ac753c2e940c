-- `write_row_joins` meets its contract: at each turn the joins of the rows below the next place stand at the front of the output.
use Prim.Native.Nat.{◌-◌}
use Rattle.table_changes.specs.Sought.{place_or}
use Rattle.table_changes.proofs.Joining.{JoiningAt}
use Rattle.table_changes.proofs.watched.Watched.write_row_joins.Given as goal

abbrev pub invariant-loop-next : goal.invariant-loop-next
invariant-loop-next l = JoiningAt l.self l.initial.out l.out l.at l.next

abbrev pub decreases-loop-next : goal.decreases-loop-next
decreases-loop-next l = l.self.before.now.head.held - place_or l.self.before.now.head.held l.next
