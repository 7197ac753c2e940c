-- `put_yes` meets its contract.
use native.Mathlib.Omega.{arith}
use mathlib.Core.List.{[], ◌∷◌}
use lib.ListN.{length-set, length-take, length-drop}
use Rattle.text.proofs.Lines.{behind_first, of_front, line2_short}
use Rattle.drill_hands.specs.Files.{line_of}
use Rattle.drill_hands.proofs.put_yes.Goals as goal

pub slice_bounds-put_line2-count : goal.slice_bounds-put_line2-count
slice_bounds-put_line2-count c = simp length-set (omega arith)

pub slice_bounds-put_line2-start : goal.slice_bounds-put_line2-start
slice_bounds-put_line2-start c = simp length-set (omega arith)

pub put_line2-used-requires : goal.put_line2-used-requires
put_line2-used-requires c = simp (length-take, length-drop, length-set) (omega arith)

pub overflow_add-result : goal.overflow_add-result
overflow_add-result c = omega (arith, c.put_line2-used.ensures.counted, line2_short 101 115 (c.args.place ∷ []))

pub shape_of-text : goal.shape_of-text
shape_of-text c = (behind_first _ _ {before = c.args.text.now} (omega (arith, line2_short 101 115 (c.args.place ∷ []))) c.put_line2-used.ensures).long

pub returns : goal.returns
unfolding line_of
returns c = of_front (behind_first _ _ (omega (arith, line2_short 101 115 (c.args.place ∷ []))) c.put_line2-used.ensures)
