-- `look_after` meets its contract: the list is written by the ends of the rows from their place on.
use mathlib.Core.Path.{◌≡◌}
use native.Mathlib.Omega.{arith}
use lib.ListN.{drop}
use Rattle.call_quote_looking.specs.Looks.{first_place, list_after}
use Rattle.call_quote_looking.proofs.Lists.{rest_is}
use Rattle.call_quote_looking.proofs.look_after.Goals as goal

pub start_of-first-requires : goal.start_of-first-requires
start_of-first-requires c = c.requires.low_newest

pub slice_bounds-window-start : goal.slice_bounds-window-start
slice_bounds-window-start c = omega (arith, c.first_place-from.ensures, c.requires.lower_from)

pub slice_bounds-window-start-2 : goal.slice_bounds-window-start-2
slice_bounds-window-start-2 c = omega (arith, c.first_place-from.ensures, c.requires.upper_from)

pub invariant_of-window : goal.invariant_of-window
invariant_of-window c =
    let from = first_place c.args.reachable c.args.entered.by in
    record {
      within = rw (c.start_of-first.ensures, c.first_place-from.ensures, rest_is from c.args.tables.now.lower_ends.now, rest_is from c.args.tables.now.upper_ends.now) c.requires.window;
    }

pub write_listed-requires : goal.write_listed-requires
unfolding list_after
write_listed-requires c =
    let from = first_place c.args.reachable c.args.entered.by in
    rw (c.start_of-first.ensures, c.first_place-from.ensures, rest_is from c.args.tables.now.lower_ends.now, rest_is from c.args.tables.now.upper_ends.now) c.requires.fits

pub returns : goal.returns
unfolding list_after
returns c =
    let from = first_place c.args.reachable c.args.entered.by in
    let value = rw (c.start_of-first.ensures, c.first_place-from.ensures, rest_is from c.args.tables.now.lower_ends.now, rest_is from c.args.tables.now.upper_ends.now) at c.write_listed.ensures.value in
    let out_after = rw (c.start_of-first.ensures, c.first_place-from.ensures, rest_is from c.args.tables.now.lower_ends.now, rest_is from c.args.tables.now.upper_ends.now) at c.write_listed.ensures.out_after in
    record { value = rw value; cells_after = out_after }
