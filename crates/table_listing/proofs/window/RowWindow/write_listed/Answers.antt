-- `write_listed` meets its contract: each turn writes the row at one place of the window, if it is listed.
use Prim.Native.Nat.{◌+◌, ◌≤◌}
use mathlib.Core.Path.{refl}
use native.Mathlib.Omega.{arith}
use lib.ListN.{length}
use Rattle.table_listing.specs.Picked.{listed_in}
use Rattle.table_listing.proofs.Writing.{cells_same, writing_fits, writing_store, writing_pass, writing_all}
use Rattle.table_listing.proofs.Windows.{listing_start}
use Rattle.table_listing.proofs.Listing.{listed_inside, listed_early}
use Rattle.table_listing.proofs.window.RowWindow.write_listed.Goals as goal
use Rattle.table_listing.proofs.window.RowWindow.write_listed.Goals.{Else-not-lists}

pub loop-i-init : goal.loop-i-init
unfolding listed_in
loop-i-init c =
    rw c.first_place-i.ensures
    (listing_start _ _ _ _ c.args.self.now.within.low c.args.self.now.within.near (listed_early _ _ _ _ _) _ _ (rw cells_same c.requires))

-- a position that is listed has room for its cell
fits : (c : Else-not-lists) → c.loop-i.at + 1 ≤ length c.loop-i.out
fits c =
    writing_fits c.loop-i.invariant.writing (omega (arith, c.places_end-i-end.ensures))
    (listed_inside _ _ _ _ _ _ c.loop-i.invariant.reached (omega (arith, c.places_end-i-end.ensures)) c.lists.ensures) c.if-not-lists.false

pub offset_bounds-out-at : goal.offset_bounds-out-at
offset_bounds-out-at c = omega (arith, fits (goal.at.offset_bounds-out-at c).Else-not-lists)

pub bounds-out-at : goal.bounds-out-at
bounds-out-at c = omega (arith, fits (goal.at.bounds-out-at c).Else-not-lists)

pub overflow_add-at : goal.overflow_add-at
overflow_add-at c = omega (arith, fits (goal.at.overflow_add-at c).Else-not-lists)

pub loop-i-preserved : goal.loop-i-preserved
loop-i-preserved c =
    record {
      reached = omega (arith, c.loop-i.invariant.reached);
      writing =
          writing_store c.loop-i.invariant.writing (omega (arith, c.places_end-i-end.ensures))
          (listed_inside _ _ _ _ _ _ c.loop-i.invariant.reached (omega (arith, c.places_end-i-end.ensures)) c.lists.ensures) _ refl c.if-not-lists.false;
    }

pub loop-i-preserved-then-not-lists : goal.loop-i-preserved-then-not-lists
loop-i-preserved-then-not-lists c =
    record {
      reached = omega (arith, c.loop-i.invariant.reached);
      writing =
          writing_pass c.loop-i.invariant.writing (omega (arith, c.places_end-i-end.ensures))
          (listed_inside _ _ _ _ _ _ c.loop-i.invariant.reached (omega (arith, c.places_end-i-end.ensures)) c.lists.ensures) c.if-not-lists.true;
    }

pub returns : goal.returns
unfolding listed_in
returns c =
    let all = writing_all c.loop-i.invariant.writing (omega (arith, c.places_end-i-end.ensures)) in
    record {
      value = rw cells_same at all.0;
      out_after = rw cells_same at all.1;
    }
