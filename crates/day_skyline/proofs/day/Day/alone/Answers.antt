-- `alone` meets its contract: the sheet of one position is that position.
use Rattle.day_skyline.proofs.Over.{over_irreflexive}
use Rattle.day_skyline.proofs.Merging.{none_front, one_front}
use Rattle.day_skyline.proofs.day.Day.alone.Goals as goal

pub returns-then-cells-eq0 : goal.returns-then-cells-eq0
returns-then-cells-eq0 c = none_front _ _ _ c.args.cells.now c.requires.part c.if-cells-eq0.true

pub returns : goal.returns
returns c = one_front _ _ _ c.args.cells.now c.requires.part (over_irreflexive _) c.if-cells-eq0.false c.requires.cells_len_bound
