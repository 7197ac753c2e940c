-- `write_changes` meets its contract: the leaves stand at the front, the joins behind them, and the new row's join last.
use Prim.Native.Nat.{ℕ, ◌+◌, ◌-◌, ◌≤◌, ◌<◌}
use mathlib.Core.Path.{◌≡◌, sym, ap}
use mathlib.Core.List.{List, ◌++◌, map}
use native.Mathlib.Omega.{arith}
use lib.ListN.{length, length-append}
use borrow.Rule.Slice.PartMut.{put_mid}
use Rattle.lists.proofs.Laying.{Front, front_one, front_room, front_rest, front_more}
use Rattle.frames.specs.Frames.{frame}
use Rattle.frames.specs.declared.Message.TheVariants.{Change}
use Rattle.frames.proofs.RoundTrips.{change_length_lem}
use Rattle.model.specs.Changes.{frames}
use Rattle.table_changes.specs.declared.watched.Watched.{Watched}
use Rattle.table_changes.specs.Frames.{held_by, change_frames}
use Rattle.table_changes.specs.Frames as specs
use Rattle.table_changes.proofs.Stepping.{leaves_are}
use Rattle.table_changes.proofs.Moving.{leave_frames, join_frames, new_frame, changed_listed, changed_unlisted, rows_fit}
use Rattle.table_changes.proofs.Known.{retired_by}
use Rattle.table_changes.proofs.watched.Watched.write_changes.Goals as goal
use Rattle.table_changes.proofs.watched.Watched.write_changes.Goals.{After-write_leaves-leaves, After-write_row_joins-joins, Else-self, Start}

-- the frames of the rows that leave, of those that join, and of the new row
abbrev leaving : Watched → List ℕ
leaving w = leave_frames (held_by w.before.now) w.shift w.before.now.lower w.kinds w.n

abbrev joining : Watched → List ℕ
joining w = join_frames (held_by w.before.now) w.shift w.before.now.lower w.kinds w.n

abbrev new : Watched → List ℕ
new w = new_frame (held_by w.before.now) w.shift w.before.now.lower w.kinds w.n

-- the leaves by their parts
parts : (w : Watched) → leaving w ≡ specs.leave_frames w
parts w = ap (λ (l : List ℕ). frames (map (Change w.kinds.leave w.n) l)) (leaves_are (held_by w.before.now) w.shift w.ready w.before.now.retired.now (retired_by w))

-- all frames, where the new row is listed and where it is not
listed : (w : Watched) → w.before.now.lower < w.shift.after → change_frames w ≡ (leaving w ++ joining w) ++ new w
listed w h = changed_listed (held_by w.before.now) w.shift w.before.now.lower w.kinds w.n h

unlisted : (w : Watched) → w.shift.after ≤ w.before.now.lower → change_frames w ≡ leaving w ++ joining w
unlisted w h = changed_unlisted (held_by w.before.now) w.shift w.before.now.lower w.kinds w.n h

rows-room : (c : Start) → length (leaving c.args.self.now ++ joining c.args.self.now) ≤ length c.args.out.now
rows-room c = rows_fit (held_by c.args.self.now.before.now) _ c.args.self.now.before.now.lower _ _ _ c.requires

leaves-room : (c : Start) → length (leaving c.args.self.now) ≤ length c.args.out.now
leaves-room c = omega (arith, rows-room c, length-append (leaving c.args.self.now) (joining c.args.self.now))

-- the function's start, from where the leaves were written, and from where the joins were
abbrev start : After-write_leaves-leaves → Start
start c = (goal.at.After-write_leaves-leaves c).Start

abbrev leaves : After-write_row_joins-joins → After-write_leaves-leaves
leaves c = (goal.at.After-write_row_joins-joins c).After-write_leaves-leaves

abbrev start2 : After-write_row_joins-joins → Start
start2 c = start (leaves c)

-- the output behind each call
abbrev out1 : After-write_leaves-leaves → List ℕ
out1 c = c.write_leaves-leaves.new.out

abbrev out2 : After-write_row_joins-joins → List ℕ
out2 c = put_mid c.write_leaves-leaves.result (length (out1 (leaves c)) - c.write_leaves-leaves.result) (out1 (leaves c)) c.write_row_joins-joins.new.out

-- the leaves stand at the front
front : (c : After-write_leaves-leaves) → Front (leaving c.args.self.now) c.args.out.now (out1 c) c.write_leaves-leaves.result
front c =
    front_one (leaving c.args.self.now) c.args.out.now (leaves-room (start c)) (rw (parts c.args.self.now) c.write_leaves-leaves.ensures.value) (rw (parts c.args.self.now) c.write_leaves-leaves.ensures.out_after)

-- there is room for the joins
joins_room : (c : After-write_leaves-leaves) → c.write_leaves-leaves.result + length (joining c.args.self.now) ≤ length (out1 c)
joins_room c = front_room (front c) (joining c.args.self.now) (rows-room (start c))

-- the joins stand behind them
second : (c : After-write_row_joins-joins)
    → Front (leaving c.args.self.now ++ joining c.args.self.now) c.args.out.now (out2 c) (c.write_leaves-leaves.result + c.write_row_joins-joins.result)
second c =
    front_more (front (leaves c)) (joining c.args.self.now) (rows-room (start2 c)) c.write_row_joins-joins.ensures.value c.write_row_joins-joins.ensures.out_after

abbrev joins : Else-self → After-write_row_joins-joins
joins c = (goal.at.Else-self c).After-write_row_joins-joins

all_room : (c : Else-self) → length ((leaving c.args.self.now ++ joining c.args.self.now) ++ new c.args.self.now) ≤ length c.args.out.now
all_room c = rw (listed c.args.self.now c.if-self.false) at c.requires

-- a new row that is listed has room for its join
fits : (c : Else-self) → c.write_leaves-leaves.result + c.write_row_joins-joins.result + 7 ≤ length (out2 (joins c))
fits c = rw change_length_lem at (front_room (second (joins c)) (new c.args.self.now) (all_room c))

pub write_leaves-leaves-requires : goal.write_leaves-leaves-requires
write_leaves-leaves-requires c = rw (← parts c.args.self.now) (leaves-room (goal.at.write_leaves-leaves-requires c).Start)

pub slice_bounds-write_row_joins-count : goal.slice_bounds-write_row_joins-count
slice_bounds-write_row_joins-count c = omega (arith, joins_room (goal.at.slice_bounds-write_row_joins-count c).After-write_leaves-leaves)

pub slice_bounds-write_row_joins-start : goal.slice_bounds-write_row_joins-start
slice_bounds-write_row_joins-start c = omega (arith, joins_room (goal.at.slice_bounds-write_row_joins-start c).After-write_leaves-leaves)

pub write_row_joins-joins-requires : goal.write_row_joins-joins-requires
write_row_joins-joins-requires c =
    front_rest (front (goal.at.write_row_joins-joins-requires c).After-write_leaves-leaves) (joining c.args.self.now) (rows-room (goal.at.write_row_joins-joins-requires c).Start)

pub overflow_add-at : goal.overflow_add-at
overflow_add-at c =
    omega (arith, joins_room (goal.at.overflow_add-at c).After-write_leaves-leaves, (front (goal.at.overflow_add-at c).After-write_leaves-leaves).long, c.well_formed, c.write_row_joins-joins.ensures.value)

pub returns-then-self : goal.returns-then-self
returns-then-self c =
    let v = second (goal.at.returns-then-self c).After-write_row_joins-joins in
    let e = unlisted c.args.self.now c.if-self.true in
    record { value = rw e v.place; out_after = rw e v.cells }

pub slice_bounds-lay_change-count : goal.slice_bounds-lay_change-count
slice_bounds-lay_change-count c = omega (arith, fits (goal.at.slice_bounds-lay_change-count c).Else-self)

pub slice_bounds-lay_change-start : goal.slice_bounds-lay_change-start
slice_bounds-lay_change-start c = omega (arith, fits (goal.at.slice_bounds-lay_change-start c).Else-self)

pub lay_change-requires : goal.lay_change-requires
lay_change-requires c =
    rw change_length_lem at (front_rest (second (goal.at.lay_change-requires c).After-write_row_joins-joins) (new c.args.self.now) (all_room (goal.at.lay_change-requires c).Else-self))

pub overflow_add-result : goal.overflow_add-result
overflow_add-result c =
    omega (arith, fits (goal.at.overflow_add-result c).Else-self, (second (goal.at.overflow_add-result c).After-write_row_joins-joins).long, c.well_formed)

pub returns : goal.returns
unfolding frame
returns c =
    let w = c.args.self.now in
    let v = front_more (second (goal.at.returns c).After-write_row_joins-joins) (new w) (all_room (goal.at.returns c).Else-self) (sym (change_length_lem w.kinds.join w.n (w.before.now.first + w.before.now.head.held))) c.lay_change.ensures in
    let e = listed w c.if-self.false in
    record { value = rw e v.place; out_after = rw e v.cells }
