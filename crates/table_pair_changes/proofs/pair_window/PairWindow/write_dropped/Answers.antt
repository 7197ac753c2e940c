-- `write_dropped` meets its contract: at each turn the leaves of the rows below the next place stand at the front of the output.
use mathlib.Core.Path.{◌≡◌, refl, sym}
use Prim.Native.Nat.{suc, ◌+◌, ◌-◌, ◌≤◌}
use native.Mathlib.Omega.{arith}
use borrow.Author.Tests.{lt-ltb, le-ltb}
use lib.ListN.{length, length-take, length-drop}
use Rattle.frames.specs.Frames.{frame}
use Rattle.frame_kinds.specs.Kinds.{pair_leave_kind}
use Rattle.frames.proofs.RoundTrips.{position_length}
use Rattle.table_pair_changes.specs.declared.pair_window.PairWindow.{PairWindow}
use Rattle.table_pair_changes.specs.Pairs.{dropped}
use Rattle.table_pair_changes.proofs.Seeking.{found_first, turn_fits, turn_pass, turn_more, all_found}
use Rattle.table_pair_changes.proofs.Sliding.{places_are}
use Rattle.table_pair_changes.proofs.pair_window.PairWindow.write_dropped.Goals as goal
use Rattle.table_pair_changes.proofs.pair_window.PairWindow.write_dropped.Goals.{Then-leaves}

-- the places of the window but its new end
places : (w : PairWindow) → (w.start.after - w.first) + (suc w.end.before - w.start.after) ≡ w.end.after - w.first
places w = places_are w.first w.lower_ends.now w.upper_ends.now w.start w.end w.ready

pub next_equal-next-requires : goal.next_equal-next-requires
next_equal-next-requires c =
    let w = c.args.self.now in
    record {
      from_le_to = rw c.dropped_from.ensures w.late.high;
      to_in_bounds = omega (arith, w.ready.starts, w.ready.forth, w.ready.near, w.ready.upper_room);
    }

pub loop-next-init : goal.loop-next-init
unfolding dropped
loop-next-init c =
    let w = c.args.self.now in
    found_first _ (suc w.end.before - w.start.after) (places w) c.requires (rw c.dropped_from.ensures w.late) c.next_equal-next.ensures

-- a row that leaves has room for its leave
fits : (c : Then-leaves) → c.loop-next.at + 5 ≤ length c.loop-next.out
fits c = turn_fits (position_length pair_leave_kind) c.loop-next.invariant c.in-Some.is c.next_equal-next-in-Some.ensures (sym (lt-ltb _ _ c.if-leaves.true)) refl

pub slice_bounds-lay_position-count : goal.slice_bounds-lay_position-count
slice_bounds-lay_position-count c = omega (arith, fits (goal.at.slice_bounds-lay_position-count c).Then-leaves)

pub slice_bounds-lay_position-start : goal.slice_bounds-lay_position-start
slice_bounds-lay_position-start c = omega (arith, fits (goal.at.slice_bounds-lay_position-start c).Then-leaves)

pub lay_position-requires : goal.lay_position-requires
lay_position-requires c = simp (length-take, length-drop) (omega (arith, fits (goal.at.lay_position-requires c).Then-leaves))

pub overflow_add-at : goal.overflow_add-at
overflow_add-at c = omega (arith, fits (goal.at.overflow_add-at c).Then-leaves, c.loop-next.invariant.seeking.writing.laying.front.long, c.well_formed)

pub loop-next-preserved-then-leaves : goal.loop-next-preserved-then-leaves
unfolding frame
loop-next-preserved-then-leaves c =
    turn_more (position_length pair_leave_kind) c.loop-next.invariant c.in-Some.is c.next_equal-next-in-Some.ensures (sym (lt-ltb _ _ c.if-leaves.true)) c.lay_position.ensures refl

pub loop-next-preserved : goal.loop-next-preserved
loop-next-preserved c = turn_pass (position_length pair_leave_kind) c.loop-next.invariant c.in-Some.is c.next_equal-next-in-Some.ensures (sym (le-ltb _ _ c.if-leaves.false)) refl

pub returns : goal.returns
unfolding dropped
returns c =
    let w = c.args.self.now in
    let both = all_found (suc w.end.before - w.start.after) (places w) c.loop-next.invariant c.in_default.is in
    record { value = both.0; out_after = both.1 }
