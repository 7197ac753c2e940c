-- The frames of the pair's changes, by what is known of its window.
use Rattle.std.specs.Prelude.{ℕ, List, map}
use Rattle.model.specs.Changes.{pair_leave, pair_join, frames}
use Rattle.table_pair_changes.specs.declared.pair_window.PairWindow.{PairWindow}
use Rattle.table_pair_changes.specs.Pairs.{dropped, gained, leaving, joining}

-- the leaves of the rows that the new end is over, and all leaves
abbrev pub dropped_frames : PairWindow → List ℕ
dropped_frames w = frames (map pair_leave (dropped w.first w.lower_ends.now w.upper_ends.now w.start w.end))

abbrev pub leave_frames : PairWindow → List ℕ
leave_frames w = frames (map pair_leave (leaving w.first w.lower_ends.now w.upper_ends.now w.start w.end))

-- the joins of the rows that are gained, and all joins
abbrev pub gained_frames : PairWindow → List ℕ
gained_frames w = frames (map pair_join (gained w.first w.lower_ends.now w.upper_ends.now w.start w.end))

abbrev pub join_frames : PairWindow → List ℕ
join_frames w = frames (map pair_join (joining w.first w.lower_ends.now w.upper_ends.now w.start w.end))
