-- `take_line` meets its contract: the line stands within what has come, and its frame fits the output.
use Rattle.std.proofs.Common.{arith, refl}
use Rattle.line_writer.proofs.Laying.{laid_short, stop_inside, line_taken}
use Rattle.line_writer.proofs.take_line.Goals as goal

pub slice_bounds-lay_line-end : goal.slice_bounds-lay_line-end
slice_bounds-lay_line-end c = stop_inside _ _ _ c.requires.used_in_bounds.1 c.requires.stop_value.0

pub overflow_add-result : goal.overflow_add-result
overflow_add-result c = omega (arith, laid_short c.lay_line-count.ensures, c.requires.used_in_bounds)

pub returns : goal.returns
returns c = line_taken _ _ _ c.requires.used_in_bounds.0 c.requires.stop_value.0 c.lay_line-count.ensures refl (stop_inside _ _ _ c.requires.used_in_bounds.1 c.requires.stop_value.0) c.min.ensures
