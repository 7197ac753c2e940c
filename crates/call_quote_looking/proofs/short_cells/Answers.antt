-- `short_cells` meets its contract: with space for n nothing is counted, else the rows of the new window, less the retired ones.
use native.Mathlib.Omega.{arith}
use lib.Dec.{ltb}
use lib.ListN.{length-drop}
use Rattle.skyline.specs.Skyline.{window_start}
use Rattle.table_listing.proofs.Picking.{byte_small}
use Rattle.call_quote_looking.specs.Looks.{count_after}
use Rattle.call_quote_looking.proofs.Counting.{wide_enough, short_by, stabbed_few, listed_few}
use Rattle.call_quote_looking.proofs.Lists.{rest_is}
use Rattle.call_quote_looking.proofs.short_cells.Goals as goal

pub returns-then-n-space : goal.returns-then-n-space
returns-then-n-space c = wide_enough _ c.if-n-space.true

pub start_of-first-requires : goal.start_of-first-requires
start_of-first-requires c = omega (arith, c.requires.countable.below)

pub invariant_of-window : goal.invariant_of-window
invariant_of-window c = record { within = rw c.start_of-first.ensures c.requires.countable.window }

pub count_stabbed-lost-requires : goal.count_stabbed-lost-requires
unfolding window_start
count_stabbed-lost-requires c =
    record {
      first_le_last_position = omega (arith, c.start_of-first.ensures, c.requires.countable.below);
      below = rw (rest_is c.args.found.at c.args.places.now) c.requires.countable.held;
    }

pub overflow_add-result : goal.overflow_add-result
overflow_add-result c =
    let few = rw (rest_is c.args.found.at c.args.places.now) at (stabbed_few _ _ _ _ c.count_stabbed-lost.ensures) in
    omega (arith, few, length-drop c.args.found.at c.args.places.now, c.if-n-space.false, c.well_formed, c.ranges)

pub overflow_add-result-2 : goal.overflow_add-result-2
overflow_add-result-2 c =
    let few = listed_few _ _ _ _ _ c.count_listed-stabbed.ensures in
    omega (arith, few, byte_small (ltb c.args.found.lower c.args.start), c.well_formed)

pub returns : goal.returns
unfolding count_after
returns c =
    let joins = ltb c.args.found.lower c.args.start in
    short_by c.args.space c.args.n c.count_listed-stabbed.result c.count_stabbed-lost.result joins
    (rw (
      c.count_listed-stabbed.ensures,
      c.count_stabbed-lost.ensures,
      c.start_of-first.ensures,
      rest_is c.args.found.at c.args.places.now,
    ))
    c.if-n-space.false
