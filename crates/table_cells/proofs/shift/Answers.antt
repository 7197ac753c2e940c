-- `shift` meets its contract: each turn moves one piece.
use Rattle.table_cells.proofs.Shifting.{start, more, finish, unmoved}
use Rattle.table_cells.proofs.shift.Goals as goal

pub returns-then-by-eq0 : goal.returns-then-by-eq0
returns-then-by-eq0 c = unmoved _ _ c.if-by-eq0.true

pub loop-at-init : goal.loop-at-init
loop-at-init c = start _ _ _ c.requires.by_le_count c.requires.count_in_bounds

pub loop-at-preserved : goal.loop-at-preserved
loop-at-preserved c = more c.loop-at.invariant c.min-n.ensures _ c.move_cells.ensures

pub shape_of-cells : goal.shape_of-cells
shape_of-cells c = c.loop-at.invariant.same_length

pub returns : goal.returns
returns c = finish c.loop-at.invariant c.loop-at-test.false
