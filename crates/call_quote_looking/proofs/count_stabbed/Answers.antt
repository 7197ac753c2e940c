-- `count_stabbed` meets its contract: each turn counts the row at one of the places.
use mathlib.Core.Path.{refl}
use Prim.Native.Nat.{◌+◌, ◌-◌}
use native.Mathlib.Omega.{arith}
use mathlib.Core.Bool.{◌&&◌}
use lib.Dec.{ltb, leb}
use lib.ListN.{get_or}
use Rattle.table_listing.proofs.Picking.{byte_small}
use Rattle.call_quote_looking.proofs.Counting.{counting_start, counting_more, counting_all}
use borrow.Author.Rules.{rules}
use Rattle.call_quote_looking.proofs.count_stabbed.Goals as goal

pub loop-place-init : goal.loop-place-init
loop-place-init c = counting_start _ _ _ _

pub bounds-lower_ends-i : goal.bounds-lower_ends-i
bounds-lower_ends-i c = c.requires.below.low _ c.loop-place-test.true

pub overflow_add-count : goal.overflow_add-count
overflow_add-count c =
    let i = get_or c.args.places.now c.loop-place.place-index 0 in
    let small = byte_small (ltb (get_or c.args.lower_ends.now i 0) c.args.start && leb c.args.start (c.args.first + i)) in
    omega (arith, small, c.loop-place.invariant.bounded, c.loop-place-test.true)

pub loop-place-preserved : goal.loop-place-preserved
loop-place-preserved c = counting_more _ _ _ _ c.loop-place.invariant c.loop-place-test.true refl

pub returns : goal.returns
returns c = counting_all _ _ _ _ c.loop-place.invariant c.loop-place-test.false
