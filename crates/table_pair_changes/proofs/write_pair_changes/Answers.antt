-- `write_pair_changes` meets its contract: the leaves stand at the front, the joins behind them.
use mathlib.Core.Path.{◌≡◌, refl, sym, ◌∙◌}
use Prim.Native.Nat.{ℕ, ◌+◌, ◌≤◌, ◌<◌}
use native.Mathlib.Omega.{arith}
use mathlib.Core.Bool.{true}
use mathlib.Core.List.{List, ◌++◌, map}
use lib.ListN.{length, length-append}
use Rattle.lists.specs.Lists.{laid}
use Rattle.lists.proofs.Laying.{Front, front_one, front_room, front_rest, front_more}
use Rattle.model.specs.Changes.{pair_leave, pair_join, frames}
use Rattle.table_pair_changes.specs.Pairs.{leaving, joining, Ready, Sound, begun, pair_frames}
use Rattle.table_pair_changes.proofs.Sliding.{begun_low, end_held, ready_of, moved_frames, sound_at, from_unequal, gains_none, pair_none, pair_some}
use Rattle.table_pair_changes.proofs.write_pair_changes.Goals as goal
use Rattle.table_pair_changes.proofs.write_pair_changes.Goals.{After-end_of-end, After-write_leaves-leaves, Else-not-begun}

-- the pair has begun
has : (c : Else-not-begun) → begun c.args.head ≡ true
has c = sym c.begun.ensures ∙ c.if-not-begun.false

-- where the pair has begun, from behind the window's end
abbrev some : After-end_of-end → Else-not-begun
some c = (goal.at.After-end_of-end c).Else-not-begun

-- the window lies within the rows
ready : (c : After-end_of-end) → Ready c.start_of-first.result c.args.tables.now.lower_ends.now c.args.tables.now.upper_ends.now c.shift_of-start.result c.end_of-end.result
ready c =
    ready_of c.requires.paired (has (some c)) c.start_of-first.ensures c.shift_of-start.ensures c.end_of-end.ensures

-- the row at its new end is held
held : (c : After-end_of-end) → c.end_of-end.result.after < c.start_of-first.result + c.args.head.held
held c =
    end_held c.requires.paired (has (some c)) c.start_of-first.ensures c.shift_of-start.ensures c.end_of-end.ensures

-- what is known of a sound book
known : (c : After-end_of-end) → c.args.sound ≡ true
    → Sound c.start_of-first.result c.args.head.held c.args.tables.now.lower_ends.now c.args.tables.now.upper_ends.now
known c e = sound_at c.start_of-first.ensures (c.requires.sound e)

-- the leaves, and the joins
abbrev L : After-end_of-end → List ℕ
L c = frames (map pair_leave (leaving c.start_of-first.result c.args.tables.now.lower_ends.now c.args.tables.now.upper_ends.now c.shift_of-start.result c.end_of-end.result))

abbrev J : After-end_of-end → List ℕ
J c = frames (map pair_join (joining c.start_of-first.result c.args.tables.now.lower_ends.now c.args.tables.now.upper_ends.now c.shift_of-start.result c.end_of-end.result))

both : (c : After-end_of-end) → pair_frames c.args.head c.args.tables.now.lower_ends.now c.args.tables.now.upper_ends.now ≡ L c ++ J c
both c =
    pair_some c.args.head c.args.tables.now.lower_ends.now c.args.tables.now.upper_ends.now (has (some c)) c.start_of-first.ensures c.shift_of-start.ensures c.end_of-end.ensures
    ∙ moved_frames c.start_of-first.result c.args.tables.now.lower_ends.now c.args.tables.now.upper_ends.now c.shift_of-start.result c.end_of-end.result

room : (c : After-end_of-end) → length (L c ++ J c) ≤ length c.args.out.now
room c = rw (both c) at c.requires.upper_ends_in_bounds

leaves-room : (c : After-end_of-end) → length (L c) ≤ length c.args.out.now
leaves-room c = omega (arith, room c, length-append (L c) (J c))

-- the window's end, from behind the first writer
abbrev window : After-write_leaves-leaves → After-end_of-end
window c = (goal.at.After-write_leaves-leaves c).After-end_of-end

-- the output behind it
abbrev out1 : After-write_leaves-leaves → List ℕ
out1 c = c.write_leaves-leaves.new.out

-- the leaves stand at the front
front : (c : After-write_leaves-leaves) → Front (L (window c)) c.args.out.now (out1 c) c.write_leaves-leaves.result
front c = front_one (L (window c)) c.args.out.now (leaves-room (window c)) c.write_leaves-leaves.ensures.value c.write_leaves-leaves.ensures.out_after

-- there is room for the joins
joins_room : (c : After-write_leaves-leaves) → c.write_leaves-leaves.result + length (J (window c)) ≤ length (out1 c)
joins_room c = front_room (front c) (J (window c)) (room (window c))

pub returns-then-not-begun : goal.returns-then-not-begun
unfolding laid
returns-then-not-begun c =
    record {
      value = rw (pair_none c.args.head c.args.tables.now.lower_ends.now c.args.tables.now.upper_ends.now (sym c.begun.ensures ∙ c.if-not-begun.true)) refl;
      out_after = rw (pair_none c.args.head c.args.tables.now.lower_ends.now c.args.tables.now.upper_ends.now (sym c.begun.ensures ∙ c.if-not-begun.true)) refl;
    }

pub end_of-end-requires : goal.end_of-end-requires
end_of-end-requires c =
    record {
      newest_lt_last_position = c.requires.paired.space;
      n1_bound = begun_low c.requires.paired (has (goal.at.end_of-end-requires c).Else-not-begun);
    }

pub invariant_of-window : goal.invariant_of-window
invariant_of-window c =
    let a = (goal.at.invariant_of-window c).After-end_of-end in
    record {
      ready = ready a;
      late = from_unequal _ _ _ _ _ (ready a) (known a) (held a);
      gains = λ none. gains_none _ _ _ _ _ (ready a) (known a) (held a) refl none;
    }

pub write_leaves-leaves-requires : goal.write_leaves-leaves-requires
write_leaves-leaves-requires c = leaves-room (goal.at.write_leaves-leaves-requires c).After-end_of-end

pub slice_bounds-write_joins-count : goal.slice_bounds-write_joins-count
slice_bounds-write_joins-count c = omega (arith, joins_room (goal.at.slice_bounds-write_joins-count c).After-write_leaves-leaves)

pub slice_bounds-write_joins-start : goal.slice_bounds-write_joins-start
slice_bounds-write_joins-start c = omega (arith, joins_room (goal.at.slice_bounds-write_joins-start c).After-write_leaves-leaves)

pub write_joins-joins-requires : goal.write_joins-joins-requires
write_joins-joins-requires c =
    let b = (goal.at.write_joins-joins-requires c).After-write_leaves-leaves in
    front_rest (front b) (J (window b)) (room (window b))

pub overflow_add-result : goal.overflow_add-result
overflow_add-result c =
    omega (arith, joins_room (goal.at.overflow_add-result c).After-write_leaves-leaves, (front (goal.at.overflow_add-result c).After-write_leaves-leaves).long, c.well_formed, c.write_joins-joins.ensures.value)

pub returns : goal.returns
returns c =
    let v = front_more (front (goal.at.returns c).After-write_leaves-leaves) (J (goal.at.returns c).After-end_of-end) (room (goal.at.returns c).After-end_of-end) c.write_joins-joins.ensures.value c.write_joins-joins.ensures.out_after in
    record {
      value = rw (both (goal.at.returns c).After-end_of-end) v.place;
      out_after = rw (both (goal.at.returns c).After-end_of-end) v.cells;
    }
