-- `write_leaves` meets its contract: the leave of the row at the window's old start stands at the front, the others behind it.
use mathlib.Core.Path.{◌≡◌}
use Prim.Native.Nat.{ℕ, ◌+◌, ◌≤◌}
use native.Mathlib.Omega.{arith}
use mathlib.Core.List.{List, ◌++◌}
use lib.ListN.{length, length-append}
use Rattle.lists.proofs.Filters.{map-append}
use Rattle.lists.proofs.Laying.{Front, front_one, front_room, front_rest, front_more}
use Rattle.model.proofs.ChangeFrames.{frames_append}
use Rattle.table_changes.specs.declared.watched.Watched.{Watched}
use Rattle.table_changes.specs.Frames.{fallen_frames, dropped_frames, leave_frames}
use Rattle.table_changes.proofs.watched.Watched.write_leaves.Goals as goal
use Rattle.table_changes.proofs.watched.Watched.write_leaves.Goals.{After-write_fallen-at, Start}

-- the leave of the row at the window's old start, and those of the rows that the quote retires
abbrev L : Start → List ℕ
L c = fallen_frames c.args.self.now

abbrev R : Start → List ℕ
R c = dropped_frames c.args.self.now

both : (w : Watched) → leave_frames w ≡ fallen_frames w ++ dropped_frames w
both w = rw (map-append, frames_append)

room : (c : Start) → length (L c ++ R c) ≤ length c.args.out.now
room c = rw (both c.args.self.now) at c.requires

fallen-room : (c : Start) → length (L c) ≤ length c.args.out.now
fallen-room c = omega (arith, room c, length-append (L c) (R c))

-- the function's start, from where the first leave was written
abbrev start : After-write_fallen-at → Start
start c = (goal.at.After-write_fallen-at c).Start

-- the first leave stands at the front
front : (c : After-write_fallen-at) → Front (L (start c)) c.args.out.now c.write_fallen-at.new.out c.write_fallen-at.result
front c = front_one (L (start c)) c.args.out.now (fallen-room (start c)) c.write_fallen-at.ensures.value c.write_fallen-at.ensures.out_after

-- there is room for the others
others-room : (c : After-write_fallen-at) → c.write_fallen-at.result + length (R (start c)) ≤ length c.write_fallen-at.new.out
others-room c = front_room (front c) (R (start c)) (room (start c))

pub write_fallen-at-requires : goal.write_fallen-at-requires
write_fallen-at-requires c = fallen-room (goal.at.write_fallen-at-requires c).Start

pub slice_bounds-write_dropped-count : goal.slice_bounds-write_dropped-count
slice_bounds-write_dropped-count c = omega (arith, others-room (goal.at.slice_bounds-write_dropped-count c).After-write_fallen-at)

pub slice_bounds-write_dropped-start : goal.slice_bounds-write_dropped-start
slice_bounds-write_dropped-start c = omega (arith, others-room (goal.at.slice_bounds-write_dropped-start c).After-write_fallen-at)

pub write_dropped-used-requires : goal.write_dropped-used-requires
write_dropped-used-requires c =
    front_rest (front (goal.at.write_dropped-used-requires c).After-write_fallen-at) (R (goal.at.write_dropped-used-requires c).Start) (room (goal.at.write_dropped-used-requires c).Start)

pub overflow_add-result : goal.overflow_add-result
overflow_add-result c =
    omega (arith, others-room (goal.at.overflow_add-result c).After-write_fallen-at, (front (goal.at.overflow_add-result c).After-write_fallen-at).long, c.well_formed, c.write_dropped-used.ensures.value)

pub returns : goal.returns
returns c =
    let v = front_more (front (goal.at.returns c).After-write_fallen-at) (R (goal.at.returns c).Start) (room (goal.at.returns c).Start) c.write_dropped-used.ensures.value c.write_dropped-used.ensures.out_after in
    record { value = rw (both c.args.self.now) v.place; out_after = rw (both c.args.self.now) v.cells }
