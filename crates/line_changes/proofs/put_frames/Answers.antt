-- `put_frames` meets its contract: the line of each frame is laid behind those before.
use native.Mathlib.Omega.{arith}
use lib.ListN.{length-take, length-drop}
use Rattle.line_changes.proofs.Printing.{printing_start, next_inside, printing_at, printing_room, printing_used, printing_more, printing_finish}
use Rattle.line_changes.proofs.put_frames.Goals as goal

pub loop-next-init : goal.loop-next-init
loop-next-init c = printing_start _ _ (omega arith)

pub slice_bounds-put_change-count : goal.slice_bounds-put_change-count
slice_bounds-put_change-count c = printing_at _ c.loop-next.invariant c.in-Some.ensures.0 c.in-Some.ensures.1

pub slice_bounds-put_change-start : goal.slice_bounds-put_change-start
slice_bounds-put_change-start c = omega (arith, printing_at _ c.loop-next.invariant c.in-Some.ensures.0 c.in-Some.ensures.1)

pub put_change-at-requires-clause-place_bound_2 : goal.put_change-at-requires-clause-place_bound_2
put_change-at-requires-clause-place_bound_2 c =
    simp (length-take, length-drop) (omega (arith, printing_room _ c.loop-next.invariant c.in-Some.ensures.0 c.in-Some.ensures.1))

pub overflow_add-at : goal.overflow_add-at
overflow_add-at c = omega (arith, printing_used _ c.loop-next.invariant c.in-Some.ensures.0 c.in-Some.ensures.1 c.put_change-at.ensures)

pub loop-next-smaller : goal.loop-next-smaller
loop-next-smaller c = omega (arith, c.in-Some.ensures.0, next_inside _ c.loop-next.invariant c.in-Some.ensures.0 c.in-Some.ensures.1)

pub loop-next-preserved : goal.loop-next-preserved
loop-next-preserved c = printing_more _ c.loop-next.invariant c.in-Some.ensures.0 c.in-Some.ensures.1 c.put_change-at.ensures

pub returns : goal.returns
returns c = printing_finish _ c.loop-next.invariant c.in_default.ensures
