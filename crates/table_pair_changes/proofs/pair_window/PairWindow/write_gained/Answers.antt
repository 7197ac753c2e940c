-- `write_gained` meets its contract: at each turn the joins of the rows below the next place stand at the front of the output.
use mathlib.Core.Path.{◌≡◌, refl}
use Prim.Native.Nat.{suc, ◌+◌, ◌-◌, ◌≤◌}
use native.Mathlib.Omega.{arith}
use mathlib.Core.Bool.{Bool, true, false, ◌||◌, not}
use mathlib.Core.List.{[], map}
use lib.Dec.{leb}
use lib.ListN.{length, get_or, length-take, length-drop}
use Rattle.lists.specs.Lists.{flat, laid}
use Rattle.frames.specs.Frames.{frame}
use Rattle.frame_kinds.specs.Kinds.{pair_join_kind}
use Rattle.frames.proofs.RoundTrips.{position_length}
use Rattle.model.specs.Changes.{pair_join, frames}
use Rattle.table_changes.proofs.Passing.{unequal_none}
use Rattle.table_pair_changes.specs.declared.pair_window.PairWindow.{PairWindow}
use Rattle.table_pair_changes.specs.Pairs.{lasts, sought, falls}
use Rattle.table_pair_changes.specs.Frames.{gained_frames}
use Rattle.table_pair_changes.proofs.Seeking.{found_first, turn_fits, turn_pass, turn_more, all_found}
use Rattle.table_pair_changes.proofs.Sliding.{places_are, nothing_gained, gained_are}
use Rattle.table_pair_changes.proofs.pair_window.PairWindow.write_gained.Goals as goal
use Rattle.table_pair_changes.proofs.pair_window.PairWindow.write_gained.Goals.{Then-joins}

-- the places of the window but its new end
places : (w : PairWindow) → (w.start.after - w.first) + (suc w.end.before - w.start.after) ≡ w.end.after - w.first
places w = places_are w.first w.lower_ends.now w.upper_ends.now w.start w.end w.ready

-- where rows may not be gained, or the window does not move on, none is
none_gained : (w : PairWindow) (fallen : Bool) → fallen ≡ falls w.first w.upper_ends.now w.start w.end
    → not (fallen || not w.sound) || leb w.start.after w.start.before ≡ true → gained_frames w ≡ []
unfolding frames flat
none_gained w fallen e t =
    rw (nothing_gained w.first w.lower_ends.now w.upper_ends.now w.start w.end (fallen || not w.sound) (λ n. w.gains (rw e at n)) t)

-- else the rows that the old start was over
some_gained : (w : PairWindow) (fallen : Bool) → not (fallen || not w.sound) || leb w.start.after w.start.before ≡ false
    → gained_frames w ≡ frames (map pair_join (sought w.first w.lower_ends.now w.start.before (λ i. lasts w.end.after (get_or w.upper_ends.now i 0)) (w.start.after - w.first) (suc w.end.before - w.start.after)))
some_gained w fallen t = rw (gained_are w.first w.lower_ends.now w.upper_ends.now w.start w.end (fallen || not w.sound) t)

pub returns-then-gains-self : goal.returns-then-gains-self
unfolding laid
returns-then-gains-self c =
    let e = none_gained c.args.self.now c.falls.result c.falls.ensures c.if-gains-self.true in
    record { value = rw e refl; out_after = rw e refl }

pub loop-next-init : goal.loop-next-init
loop-next-init c =
    let w = c.args.self.now in
    found_first _ (suc w.end.before - w.start.after) (places w) (rw (some_gained w c.falls.result c.if-gains-self.false) at c.requires)
    (unequal_none _ _ _ _ (omega (arith, w.ready.starts, w.ready.forth, w.ready.near))) c.next_equal-next.ensures

-- a row that joins has room for its join
fits : (c : Then-joins) → c.loop-next.at + 5 ≤ length c.loop-next.out
fits c = turn_fits (position_length pair_join_kind) c.loop-next.invariant c.in-Some.is c.next_equal-next-in-Some.ensures c.lasts-joins.ensures c.if-joins.true

pub slice_bounds-lay_position-count : goal.slice_bounds-lay_position-count
slice_bounds-lay_position-count c = omega (arith, fits (goal.at.slice_bounds-lay_position-count c).Then-joins)

pub slice_bounds-lay_position-start : goal.slice_bounds-lay_position-start
slice_bounds-lay_position-start c = omega (arith, fits (goal.at.slice_bounds-lay_position-start c).Then-joins)

pub lay_position-requires : goal.lay_position-requires
lay_position-requires c = simp (length-take, length-drop) (omega (arith, fits (goal.at.lay_position-requires c).Then-joins))

pub overflow_add-at : goal.overflow_add-at
overflow_add-at c = omega (arith, fits (goal.at.overflow_add-at c).Then-joins, c.loop-next.invariant.seeking.writing.laying.front.long, c.well_formed)

pub loop-next-preserved-then-joins : goal.loop-next-preserved-then-joins
unfolding frame
loop-next-preserved-then-joins c =
    turn_more (position_length pair_join_kind) c.loop-next.invariant c.in-Some.is c.next_equal-next-in-Some.ensures c.lasts-joins.ensures c.lay_position.ensures c.if-joins.true

pub loop-next-preserved : goal.loop-next-preserved
loop-next-preserved c =
    turn_pass (position_length pair_join_kind) c.loop-next.invariant c.in-Some.is c.next_equal-next-in-Some.ensures c.lasts-joins.ensures c.if-joins.false

pub returns : goal.returns
returns c =
    let w = c.args.self.now in
    let e = some_gained w c.falls.result c.if-gains-self.false in
    let both = all_found (suc w.end.before - w.start.after) (places w) c.loop-next.invariant c.in_default.is in
    record { value = rw e both.0; out_after = rw e both.1 }
