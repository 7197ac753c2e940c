-- `shift_of` meets its contract: the window moves by one position exactly if n is not above the newest.
use native.Mathlib.Omega.{arith}
use lib.Dec.{leb}
use Rattle.skyline.specs.Skyline.{window_start}
use Rattle.table_listing.proofs.Picking.{byte_small}
use Rattle.table_changes.proofs.Watching.{shift_is}
use Rattle.table_changes.proofs.each_watch.shift_of.Goals as goal

pub overflow_add-result : goal.overflow_add-result
unfolding window_start
overflow_add-result c = omega (arith, c.start_of-before.ensures, c.from.ensures, byte_small (leb c.args.n c.args.head.newest), c.requires)

pub returns : goal.returns
returns c = rw c.from.ensures (shift_is _ _ c.start_of-before.ensures)
