-- `start_of` meets its contract: the start of a window is at most one more than the newest position.
use native.Mathlib.Omega.{arith}
use Rattle.skyline.specs.Skyline.{window_start}
use Rattle.table_listing.proofs.start_of.Goals as goal

pub overflow_cast-result : goal.overflow_cast-result
unfolding window_start
overflow_cast-result c = omega (arith, c.window_start.ensures)
