-- `slid` meets its contract.
use native.Mathlib.Omega.{arith}
use Rattle.table_starts.proofs.Rewinding.{bounded_cells}
use Rattle.table_starts.proofs.slid.Goals as goal

pub overflow_mul-result : goal.overflow_mul-result
overflow_mul-result c = omega (arith, bounded_cells c.args.head.dimensions c.requires.1, c.well_formed, c.ranges)

pub overflow_add-result-2 : goal.overflow_add-result-2
overflow_add-result-2 c = omega (arith, bounded_cells c.args.head.dimensions c.requires.1, c.requires.0.bounded, c.requires.0.near, c.well_formed, c.ranges)
