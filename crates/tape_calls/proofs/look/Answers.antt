-- `look` meets its contract: n and the positions behind it are a line.
use native.Mathlib.Omega.{arith}
use mathlib.Core.List.{append-nil}
use lib.ListN.{length-take}
use Rattle.tape_calls.proofs.CellRooms.{look_fits, cells_room}
use Rattle.line_answers.proofs.Turning.{look_turned}
use Rattle.tape_calls.proofs.look.Goals as goal

pub overflow_add-cells : goal.overflow_add-cells
overflow_add-cells c = omega (arith, look_fits c.look-reply.ensures)

pub slice_bounds-cells-end-2 : goal.slice_bounds-cells-end-2
slice_bounds-cells-end-2 c = cells_room c.look-reply.new.out (look_fits c.look-reply.ensures) c.look-reply.auto.out

pub slice_bounds-line-end : goal.slice_bounds-line-end
slice_bounds-line-end c = simp (append-nil, length-take) (omega (arith, look_fits c.look-reply.ensures, c.look-reply.auto.out))

pub put_reply-requires : goal.put_reply-requires
put_reply-requires c = (omega arith, simp (append-nil, length-take) (omega (arith, look_fits c.look-reply.ensures)))

pub returns : goal.returns
returns c = λ bytes. rw c.put_reply.ensures.turn (look_turned _ _ _ bytes _ c.look-reply.ensures c.put_reply.ensures.laid)
