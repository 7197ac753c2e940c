-- `past` meets its contract: n1, n2 and the positions behind them are a line.
use native.Mathlib.Omega.{arith}
use mathlib.Core.List.{append-nil}
use lib.ListN.{length-take}
use Rattle.tape_calls.proofs.CellRooms.{past_fits, past_cells_room}
use Rattle.line_answers.proofs.Turning.{past_turned}
use Rattle.tape_calls.proofs.past.Goals as goal

pub overflow_add-cells : goal.overflow_add-cells
overflow_add-cells c = omega (arith, past_fits c.past-reply.ensures)

pub slice_bounds-cells-end-2 : goal.slice_bounds-cells-end-2
slice_bounds-cells-end-2 c = past_cells_room c.past-reply.new.out (past_fits c.past-reply.ensures) c.past-reply.auto.out

pub slice_bounds-line-end : goal.slice_bounds-line-end
slice_bounds-line-end c = simp (append-nil, length-take) (omega (arith, past_fits c.past-reply.ensures, c.past-reply.auto.out))

pub put_reply-requires : goal.put_reply-requires
put_reply-requires c = (omega arith, simp (append-nil, length-take) (omega (arith, past_fits c.past-reply.ensures)))

pub returns : goal.returns
returns c = λ bytes. rw c.put_reply.ensures.turn (past_turned _ _ _ bytes _ _ c.past-reply.ensures c.put_reply.ensures.laid)
