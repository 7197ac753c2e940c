-- `flush` meets its contract.
use Rattle.std.proofs.Common.{arith, length-take}
use Rattle.line_writer.proofs.flush.Goals as goal

pub slice_bounds-put_out-end : goal.slice_bounds-put_out-end
slice_bounds-put_out-end g c = simp length-take (omega arith)
