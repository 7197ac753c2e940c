-- `short_list` meets its contract: with space for all of the window nothing is counted.
use mathlib.Core.Path.{◌∙◌}
use borrow.Author.Tests.{le-ltb}
use Rattle.call_looking.proofs.Listing.{wide_enough}
use Rattle.call_looking.proofs.short_list.Goals as goal

pub returns-else-space-most : goal.returns-else-space-most
returns-else-space-most c =
    le-ltb _ _ c.if-space-most.false ∙ wide_enough _ _ _ _ _ c.args.window.now.within.low c.args.window.now.within.near c.if-space-most.false
