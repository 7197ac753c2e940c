-- `write_gained` meets its contract: at each turn the joins of the rows below the next place stand at the front of the output.
use Prim.Native.Nat.{◌-◌}
use lib.ListN.{get_or}
use Rattle.model.specs.Changes.{pair_join}
use Rattle.table_changes.specs.Sought.{place_or}
use Rattle.table_pair_changes.specs.Pairs.{lasts}
use Rattle.table_pair_changes.proofs.Seeking.{SeekingAt}
use Rattle.table_pair_changes.proofs.pair_window.PairWindow.write_gained.Given as goal

abbrev pub invariant-loop-next : goal.invariant-loop-next
invariant-loop-next l =
    SeekingAt pair_join l.self.lower_ends.now l.self.start.before (λ k. lasts l.self.end.after (get_or l.self.upper_ends.now k 0)) l.self.first
    (l.self.start.after - l.self.first) (l.self.end.after - l.self.first) l.initial.out l.out l.at l.next

abbrev pub decreases-loop-next : goal.decreases-loop-next
decreases-loop-next l = l.self.end.after - l.self.first - place_or (l.self.end.after - l.self.first) l.next
