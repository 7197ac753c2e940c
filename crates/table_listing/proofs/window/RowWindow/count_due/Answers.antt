-- `count_due` meets its contract: each turn counts the row at one place.
use native.Mathlib.Omega.{arith}
use Rattle.table_listing.specs.Due.{due_positions}
use Rattle.table_listing.proofs.Picking.{counted_all}
use Rattle.table_listing.proofs.Windows.{counting_start, counting_more}
use Rattle.table_listing.proofs.DueRows.{due_inside, due_early}
use Rattle.table_listing.proofs.window.RowWindow.count_due.Goals as goal

pub loop-i-init : goal.loop-i-init
loop-i-init c = rw c.first_place-i.ensures (counting_start _ _ _ _ c.args.self.now.within.low c.args.self.now.within.near (due_early _ _ _ _))

pub loop-i-preserved : goal.loop-i-preserved
loop-i-preserved c =
    rw c.from-n.ensures
    (counting_more _ _ _ _ c.loop-i.invariant (omega (arith, c.places_end-i-end.ensures)) _ (due_inside _ _ _ _ _ c.loop-i.invariant.reached))

pub returns : goal.returns
unfolding due_positions
returns c = counted_all c.loop-i.invariant.counted (omega (arith, c.places_end-i-end.ensures))
