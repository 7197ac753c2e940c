-- `thin` meets its contract: those of the positions up to a place over which none of the others is are laid down.
use mathlib.Core.Path.{refl}
use native.Mathlib.Omega.{arith}
use Rattle.day_skyline.proofs.Thinning.{thinning_start, thinning_pass, thinning_keep, thinning_end, cells_length, end_behind, next_inside, others_rise}
use Rattle.day_skyline.proofs.Beaten.{all_inside}
use Rattle.day_skyline.proofs.day.Day.thin.Goals.{then-not-is_beaten, else-not-is_beaten}
use Rattle.day_skyline.proofs.day.Day.thin.Goals as goal

pub loop-i-init : goal.loop-i-init
loop-i-init c = thinning_start _ _ _ _ _ _ _ _ c.requires

pub is_beaten-requires-clause-inside : goal.is_beaten-requires-clause-inside
is_beaten-requires-clause-inside c = next_inside _ _ _ _ _ _ _ _ c.loop-i.invariant c.loop-i-test.true

pub is_beaten-requires-clause-others_inside : goal.is_beaten-requires-clause-others_inside
is_beaten-requires-clause-others_inside c = all_inside _ _ (others_rise _ _ _ _ _ _ _ _ c.loop-i.invariant)

pub offset_bounds-cells-end : goal.offset_bounds-cells-end
offset_bounds-cells-end c = omega (arith, cells_length _ _ _ _ _ _ _ _ c.loop-i.invariant, end_behind _ _ _ _ _ _ _ _ c.loop-i.invariant)

pub bounds-cells-end : goal.bounds-cells-end
bounds-cells-end c = omega (arith, cells_length _ _ _ _ _ _ _ _ c.loop-i.invariant, end_behind _ _ _ _ _ _ _ _ c.loop-i.invariant)

pub overflow_add-end : goal.overflow_add-end
overflow_add-end c = omega (arith, cells_length _ _ _ _ _ _ _ _ c.loop-i.invariant, end_behind _ _ _ _ _ _ _ _ c.loop-i.invariant)

pub loop-i-preserved : goal.loop-i-preserved
loop-i-preserved c =
    elim c.if-not-is_beaten.branch [
      | then-not-is_beaten w ↦ rw (w.cells-is, w.end-is) (thinning_keep _ _ _ _ _ _ _ _ c.loop-i.invariant c.loop-i-test.true refl c.is_beaten.ensures w.if-not-is_beaten.true)
      | else-not-is_beaten w ↦ rw (w.cells-is, w.end-is) (thinning_pass _ _ _ _ _ _ _ _ c.loop-i.invariant c.loop-i-test.true refl c.is_beaten.ensures w.if-not-is_beaten.false)
    ]

pub shape_of-cells : goal.shape_of-cells
shape_of-cells c = cells_length _ _ _ _ _ _ _ _ c.loop-i.invariant

pub returns : goal.returns
returns c =
    let w = c.requires.order in
    thinning_end _ _ _ _ _ _ _ _ c.loop-i.invariant (omega arith)
