-- `write_due` meets its contract: each turn writes the two cells of the row at one place, if it is due.
use Prim.Native.Nat.{◌+◌, ◌≤◌}
use mathlib.Core.Path.{refl}
use native.Mathlib.Omega.{arith}
use lib.ListN.{length, length-set}
use borrow.Author.Tests.{lt-ltb, le-ltb}
use Rattle.table_listing.specs.Due.{due_positions}
use Rattle.table_listing.proofs.Writing.{writing_fits, writing_two, writing_pass, writing_all}
use Rattle.table_listing.proofs.Windows.{listing_start}
use Rattle.table_listing.proofs.DueRows.{due_inside, due_early, due_length}
use Rattle.table_listing.proofs.window.RowWindow.write_due.Goals as goal
use Rattle.table_listing.proofs.window.RowWindow.write_due.Goals.{Else-window-i}

pub loop-i-init : goal.loop-i-init
unfolding due_positions
loop-i-init c =
    rw c.first_place-i.ensures
    (listing_start _ _ _ _ c.args.self.now.within.low c.args.self.now.within.near (due_early _ _ _ _) _ _ (rw due_length c.requires.out_in_bounds))

-- a position that is due has room for its cells
fits : (c : Else-window-i) → c.loop-i.at + 2 ≤ length c.loop-i.out
fits c =
    writing_fits c.loop-i.invariant.writing (omega (arith, c.places_end-i-end.ensures)) (due_inside _ _ _ _ _ c.loop-i.invariant.reached) (lt-ltb _ _ c.if-window-i.false)

pub offset_bounds-out-at : goal.offset_bounds-out-at
offset_bounds-out-at c = omega (arith, fits (goal.at.offset_bounds-out-at c).Else-window-i)

pub bounds-out-at : goal.bounds-out-at
bounds-out-at c = omega (arith, fits (goal.at.bounds-out-at c).Else-window-i)

pub overflow_add-out-in-loop-i-2 : goal.overflow_add-out-in-loop-i-2
overflow_add-out-in-loop-i-2 c = omega (arith, fits (goal.at.overflow_add-out-in-loop-i-2 c).Else-window-i)

pub offset_bounds-out-at-in-loop-i : goal.offset_bounds-out-at-in-loop-i
offset_bounds-out-at-in-loop-i c = omega (arith, fits (goal.at.offset_bounds-out-at-in-loop-i c).Else-window-i)

pub bounds-out-at-in-loop-i : goal.bounds-out-at-in-loop-i
bounds-out-at-in-loop-i c = simp length-set (omega (arith, fits (goal.at.bounds-out-at-in-loop-i c).Else-window-i))

pub overflow_add-at : goal.overflow_add-at
overflow_add-at c = omega (arith, fits (goal.at.overflow_add-at c).Else-window-i)

pub loop-i-preserved : goal.loop-i-preserved
loop-i-preserved c =
    record {
      reached = omega (arith, c.loop-i.invariant.reached);
      writing =
          writing_two c.loop-i.invariant.writing (omega (arith, c.places_end-i-end.ensures)) (due_inside _ _ _ _ _ c.loop-i.invariant.reached) _ _ refl
          (lt-ltb _ _ c.if-window-i.false);
    }

pub loop-i-preserved-then-window-i : goal.loop-i-preserved-then-window-i
loop-i-preserved-then-window-i c =
    record {
      reached = omega (arith, c.loop-i.invariant.reached);
      writing =
          writing_pass c.loop-i.invariant.writing (omega (arith, c.places_end-i-end.ensures)) (due_inside _ _ _ _ _ c.loop-i.invariant.reached)
          (le-ltb _ _ c.if-window-i.true);
    }

pub returns : goal.returns
unfolding due_positions
returns c = (writing_all c.loop-i.invariant.writing (omega (arith, c.places_end-i-end.ensures))).1
