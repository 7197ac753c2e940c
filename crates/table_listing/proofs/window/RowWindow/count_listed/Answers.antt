-- `count_listed` meets its contract: each turn counts the row at one place of the window.
use native.Mathlib.Omega.{arith}
use Rattle.table_listing.specs.Picked.{listed_in}
use Rattle.table_listing.proofs.Picking.{counted_all}
use Rattle.table_listing.proofs.Windows.{counting_start, counting_more}
use Rattle.table_listing.proofs.Listing.{listed_inside, listed_early}
use Rattle.table_listing.proofs.window.RowWindow.count_listed.Goals as goal

pub loop-i-init : goal.loop-i-init
loop-i-init c =
    rw c.first_place-i.ensures (counting_start _ _ _ _ c.args.self.now.within.low c.args.self.now.within.near (listed_early _ _ _ _ _))

pub loop-i-preserved : goal.loop-i-preserved
loop-i-preserved c =
    rw c.from-n.ensures
    (counting_more _ _ _ _ c.loop-i.invariant (omega (arith, c.places_end-i-end.ensures)) c.lists-listed.result
    (listed_inside _ _ _ _ _ _ c.loop-i.invariant.reached (omega (arith, c.places_end-i-end.ensures)) c.lists-listed.ensures))

pub returns : goal.returns
unfolding listed_in
returns c = counted_all c.loop-i.invariant.counted (omega (arith, c.places_end-i-end.ensures))
