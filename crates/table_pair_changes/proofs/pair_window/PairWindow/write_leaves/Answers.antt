-- `write_leaves` meets its contract: the leave of the row at the window's old start stands at the front, the others behind it.
use mathlib.Core.Path.{◌≡◌}
use Prim.Native.Nat.{ℕ, ◌+◌, ◌≤◌}
use native.Mathlib.Omega.{arith}
use mathlib.Core.List.{List, [], ◌++◌, map}
use lib.ListN.{length, length-append}
use Rattle.lists.specs.Lists.{keep}
use Rattle.lists.proofs.Laying.{Front, front_one, front_room, front_rest, front_more}
use Rattle.model.specs.Changes.{pair_leave, frames}
use Rattle.table_pair_changes.specs.Frames.{dropped_frames, leave_frames}
use Rattle.table_pair_changes.proofs.Sliding.{leaving_frames}
use Rattle.table_pair_changes.proofs.pair_window.PairWindow.write_leaves.Goals as goal
use Rattle.table_pair_changes.proofs.pair_window.PairWindow.write_leaves.Goals.{After-falls-fallen, After-write_one-at}

-- the leave of the row at the window's old start, and those of the rows that the new end is over
abbrev F : After-falls-fallen → List ℕ
F c = frames (map pair_leave (keep c.falls-fallen.result c.args.self.now.start.before []))

abbrev D : After-falls-fallen → List ℕ
D c = dropped_frames c.args.self.now

both : (c : After-falls-fallen) → leave_frames c.args.self.now ≡ F c ++ D c
both c =
    let w = c.args.self.now in
    leaving_frames w.first w.lower_ends.now w.upper_ends.now w.start w.end c.falls-fallen.ensures

room : (c : After-falls-fallen) → length (F c ++ D c) ≤ length c.args.out.now
room c = rw (both c) at c.requires

first-room : (c : After-falls-fallen) → length (F c) ≤ length c.args.out.now
first-room c = omega (arith, room c, length-append (F c) (D c))

-- where the first leave is known, from behind the first writer
abbrev begin : After-write_one-at → After-falls-fallen
begin c = (goal.at.After-write_one-at c).After-falls-fallen

-- the output behind it
abbrev out1 : After-write_one-at → List ℕ
out1 c = c.write_one-at.new.out

-- the first leave stands at the front
front : (c : After-write_one-at) → Front (F (begin c)) c.args.out.now (out1 c) c.write_one-at.result
front c = front_one (F (begin c)) c.args.out.now (first-room (begin c)) c.write_one-at.ensures.value c.write_one-at.ensures.out_after

-- there is room for the others
others-room : (c : After-write_one-at) → c.write_one-at.result + length (D (begin c)) ≤ length (out1 c)
others-room c = front_room (front c) (D (begin c)) (room (begin c))

pub write_one-at-requires : goal.write_one-at-requires
write_one-at-requires c = first-room (goal.at.write_one-at-requires c).After-falls-fallen

pub slice_bounds-write_dropped-count : goal.slice_bounds-write_dropped-count
slice_bounds-write_dropped-count c = omega (arith, others-room (goal.at.slice_bounds-write_dropped-count c).After-write_one-at)

pub slice_bounds-write_dropped-start : goal.slice_bounds-write_dropped-start
slice_bounds-write_dropped-start c = omega (arith, others-room (goal.at.slice_bounds-write_dropped-start c).After-write_one-at)

pub write_dropped-used-requires : goal.write_dropped-used-requires
write_dropped-used-requires c =
    let b = (goal.at.write_dropped-used-requires c).After-write_one-at in
    front_rest (front b) (D (begin b)) (room (begin b))

pub overflow_add-result : goal.overflow_add-result
overflow_add-result c =
    omega (arith, others-room (goal.at.overflow_add-result c).After-write_one-at, (front (goal.at.overflow_add-result c).After-write_one-at).long, c.well_formed, c.write_dropped-used.ensures.value)

pub returns : goal.returns
returns c =
    let b = (goal.at.returns c).After-write_one-at in
    let v = front_more (front b) (D (begin b)) (room (begin b)) c.write_dropped-used.ensures.value c.write_dropped-used.ensures.out_after in
    record { value = rw (both (begin b)) v.place; out_after = rw (both (begin b)) v.cells }
