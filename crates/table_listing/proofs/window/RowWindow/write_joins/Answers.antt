-- `write_joins` meets its contract: each turn writes the join of the row at one place of the window, if it is listed.
use Prim.Native.Nat.{◌+◌, ◌≤◌}
use mathlib.Core.List.{[]}
use native.Mathlib.Omega.{arith}
use lib.ListN.{length, length-take, length-drop}
use Rattle.frames.specs.Frames.{frame}
use Rattle.table_listing.specs.Picked.{listed_in}
use Rattle.table_listing.specs.Joins.{join_of}
use Rattle.table_listing.proofs.Writing.{writing_fits, writing_more, writing_pass, writing_all}
use Rattle.table_listing.proofs.Framing.{frames_cells}
use Rattle.table_listing.proofs.Windows.{listing_start}
use Rattle.table_listing.proofs.Listing.{listed_inside, listed_early}
use Rattle.table_listing.proofs.window.RowWindow.write_joins.Goals as goal
use Rattle.table_listing.proofs.window.RowWindow.write_joins.Goals.{Else-not-lists}

pub loop-i-init : goal.loop-i-init
unfolding listed_in
loop-i-init c =
    rw c.first_place-i.ensures
    (listing_start _ _ _ _ c.args.self.now.within.low c.args.self.now.within.near (listed_early _ _ _ _ _) _ _ (rw (← frames_cells) c.requires))

-- a position that is listed has room for its frame
fits : (c : Else-not-lists) → c.loop-i.at + length (frame (join_of c.args.follower (c.args.self.now.first + c.loop-i.i)) []) ≤ length c.loop-i.out
fits c =
    writing_fits c.loop-i.invariant.writing (omega (arith, c.places_end-i-end.ensures))
    (listed_inside _ _ _ _ _ _ c.loop-i.invariant.reached (omega (arith, c.places_end-i-end.ensures)) c.lists.ensures) c.if-not-lists.false

pub slice_bounds-lay_join-count : goal.slice_bounds-lay_join-count
slice_bounds-lay_join-count c = omega (arith, fits (goal.at.slice_bounds-lay_join-count c).Else-not-lists)

pub slice_bounds-lay_join-start : goal.slice_bounds-lay_join-start
slice_bounds-lay_join-start c = omega (arith, fits (goal.at.slice_bounds-lay_join-start c).Else-not-lists)

pub lay_join-at-requires : goal.lay_join-at-requires
lay_join-at-requires c = simp (length-take, length-drop) (omega (arith, fits (goal.at.lay_join-at-requires c).Else-not-lists))

pub overflow_add-at : goal.overflow_add-at
overflow_add-at c = omega (arith, fits (goal.at.overflow_add-at c).Else-not-lists, c.lay_join-at.ensures.value)

pub loop-i-preserved : goal.loop-i-preserved
loop-i-preserved c =
    record {
      reached = omega (arith, c.loop-i.invariant.reached);
      writing =
          writing_more c.loop-i.invariant.writing (omega (arith, c.places_end-i-end.ensures))
          (listed_inside _ _ _ _ _ _ c.loop-i.invariant.reached (omega (arith, c.places_end-i-end.ensures)) c.lists.ensures)
          c.lay_join-at.ensures.value c.lay_join-at.ensures.out_after c.if-not-lists.false;
    }

pub loop-i-preserved-then-not-lists : goal.loop-i-preserved-then-not-lists
loop-i-preserved-then-not-lists c =
    record {
      reached = omega (arith, c.loop-i.invariant.reached);
      writing =
          writing_pass c.loop-i.invariant.writing (omega (arith, c.places_end-i-end.ensures))
          (listed_inside _ _ _ _ _ _ c.loop-i.invariant.reached (omega (arith, c.places_end-i-end.ensures)) c.lists.ensures) c.if-not-lists.true;
    }

pub returns : goal.returns
unfolding listed_in
returns c =
    let all = writing_all c.loop-i.invariant.writing (omega (arith, c.places_end-i-end.ensures)) in
    record {
      value = rw frames_cells all.0;
      out_after = rw frames_cells all.1;
    }
