-- `write_dropped` meets its contract: at each turn the leaves of the rows below the next place stand at the front of the output.
use Prim.Native.Nat.{◌-◌}
use lib.Dec.{ltb}
use lib.ListN.{get_or}
use Rattle.model.specs.Changes.{pair_leave}
use Rattle.table_changes.specs.Sought.{place_or}
use Rattle.table_pair_changes.proofs.Seeking.{SeekingAt}
use Rattle.table_pair_changes.proofs.pair_window.PairWindow.write_dropped.Given as goal

abbrev pub invariant-loop-next : goal.invariant-loop-next
invariant-loop-next l =
    SeekingAt pair_leave l.self.upper_ends.now l.self.end.after (λ k. ltb (get_or l.self.lower_ends.now k 0) l.self.start.before) l.self.first
    (l.self.start.after - l.self.first) (l.self.end.after - l.self.first) l.initial.out l.out l.at l.next

abbrev pub decreases-loop-next : goal.decreases-loop-next
decreases-loop-next l = l.self.end.after - l.self.first - place_or (l.self.end.after - l.self.first) l.next
