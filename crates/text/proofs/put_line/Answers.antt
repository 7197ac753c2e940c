-- `put_line` meets its contract: each field is laid behind those before, and the newline behind the last.
use native.Mathlib.Omega.{arith}
use lib.ListN.{length-set, length-take, length-drop}
use Rattle.text.proofs.Lines.{of_front, line_start, line_room, line_more, line_finish, laid_field}
use Rattle.text.proofs.put_line.Goals as goal

pub loop-n-init : goal.loop-n-init
loop-n-init c = line_start _ _ c.args.text.now c.requires

pub slice_bounds-put_field-count : goal.slice_bounds-put_field-count
slice_bounds-put_field-count c = omega (arith, line_room _ _ c.loop-n.invariant)

pub slice_bounds-put_field-start : goal.slice_bounds-put_field-start
slice_bounds-put_field-start c = omega (arith, line_room _ _ c.loop-n.invariant)

pub slice_bounds-put_field-end : goal.slice_bounds-put_field-end
slice_bounds-put_field-end c = omega (arith, line_room _ _ c.loop-n.invariant)

pub put_field-at-requires : goal.put_field-at-requires
put_field-at-requires c = simp (length-take, length-drop) (omega (arith, line_room _ _ c.loop-n.invariant))

pub overflow_add-at : goal.overflow_add-at
overflow_add-at c = omega (arith, length-set c.args.text.now 0 c.args.letter, line_room _ _ c.loop-n.invariant, laid_field _ c.put_field-at.ensures)

pub loop-n-preserved : goal.loop-n-preserved
loop-n-preserved c = line_more _ _ c.loop-n.invariant (omega arith) c.put_field-at.ensures

pub bounds-text-at : goal.bounds-text-at
bounds-text-at c = omega (arith, line_room _ _ c.loop-n.invariant)

pub overflow_add-result : goal.overflow_add-result
overflow_add-result c = omega (arith, length-set c.args.text.now 0 c.args.letter, line_room _ _ c.loop-n.invariant)

pub returns : goal.returns
returns c = of_front (line_finish _ _ c.loop-n.invariant (omega arith))
