-- `write_joins` meets its contract: the joins of the rows that are gained stand at the front, that of the new end behind them.
use mathlib.Core.Path.{◌≡◌, refl}
use Prim.Native.Nat.{ℕ, ◌+◌, ◌-◌, ◌≤◌}
use native.Mathlib.Omega.{arith}
use mathlib.Core.List.{List, [], ◌++◌, map}
use lib.Dec.{ltb}
use lib.ListN.{length, get_or, length-append}
use Rattle.lists.specs.Lists.{keep}
use Rattle.lists.proofs.Laying.{Front, front_one, front_room, front_rest, front_more}
use Rattle.model.specs.Changes.{pair_join, frames}
use Rattle.table_pair_changes.specs.declared.pair_window.PairWindow.{PairWindow}
use Rattle.table_pair_changes.specs.Frames.{gained_frames, join_frames}
use Rattle.table_pair_changes.proofs.Sliding.{joining_frames}
use Rattle.table_pair_changes.proofs.pair_window.PairWindow.write_joins.Goals as goal
use Rattle.table_pair_changes.proofs.pair_window.PairWindow.write_joins.Goals.{After-write_gained-at, Start}

-- the join of the row at the new end, if it is one
abbrev last : PairWindow → List ℕ
last w = frames (map pair_join (keep (ltb (get_or w.lower_ends.now (w.end.after - w.first) 0) w.start.after) w.end.after []))

both : (w : PairWindow) → join_frames w ≡ gained_frames w ++ last w
both w = joining_frames w.first w.lower_ends.now w.upper_ends.now w.start w.end w.ready refl

room : (c : Start) → length (gained_frames c.args.self.now ++ last c.args.self.now) ≤ length c.args.out.now
room c = rw (both c.args.self.now) at c.requires

gained-room : (c : Start) → length (gained_frames c.args.self.now) ≤ length c.args.out.now
gained-room c = omega (arith, room c, length-append (gained_frames c.args.self.now) (last c.args.self.now))

-- the function's start, from behind the first writer
abbrev begin : After-write_gained-at → Start
begin c = (goal.at.After-write_gained-at c).Start

-- the output behind it
abbrev out1 : After-write_gained-at → List ℕ
out1 c = c.write_gained-at.new.out

-- the joins of the rows that are gained stand at the front
front : (c : After-write_gained-at) → Front (gained_frames c.args.self.now) c.args.out.now (out1 c) c.write_gained-at.result
front c = front_one (gained_frames c.args.self.now) c.args.out.now (gained-room (begin c)) c.write_gained-at.ensures.value c.write_gained-at.ensures.out_after

-- there is room for the last
last-room : (c : After-write_gained-at) → c.write_gained-at.result + length (last c.args.self.now) ≤ length (out1 c)
last-room c = front_room (front c) (last c.args.self.now) (room (begin c))

pub write_gained-at-requires : goal.write_gained-at-requires
write_gained-at-requires c = gained-room (goal.at.write_gained-at-requires c).Start

pub slice_bounds-write_one-count : goal.slice_bounds-write_one-count
slice_bounds-write_one-count c = omega (arith, last-room (goal.at.slice_bounds-write_one-count c).After-write_gained-at)

pub slice_bounds-write_one-start : goal.slice_bounds-write_one-start
slice_bounds-write_one-start c = omega (arith, last-room (goal.at.slice_bounds-write_one-start c).After-write_gained-at)

pub write_one-used-requires : goal.write_one-used-requires
write_one-used-requires c =
    let b = (goal.at.write_one-used-requires c).After-write_gained-at in
    front_rest (front b) (last c.args.self.now) (room (begin b))

pub overflow_add-result : goal.overflow_add-result
overflow_add-result c =
    omega (arith, last-room (goal.at.overflow_add-result c).After-write_gained-at, (front (goal.at.overflow_add-result c).After-write_gained-at).long, c.well_formed, c.write_one-used.ensures.value)

pub returns : goal.returns
returns c =
    let b = (goal.at.returns c).After-write_gained-at in
    let v = front_more (front b) (last c.args.self.now) (room (begin b)) c.write_one-used.ensures.value c.write_one-used.ensures.out_after in
    record { value = rw (both c.args.self.now) v.place; out_after = rw (both c.args.self.now) v.cells }
