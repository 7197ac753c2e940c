-- `rename` meets its contract: each turn renames one cell, and where nothing expired none is renamed.
use Rattle.std.proofs.Common.{refl}
use Rattle.model.specs.Rows.{renamed}
use Rattle.table_cells.proofs.Renaming.{none_renamed, renamed_more, all_renamed}
use Rattle.table_cells.proofs.rename.Goals as goal

pub returns-then-gone-eq0 : goal.returns-then-gone-eq0
returns-then-gone-eq0 c = none_renamed c.args.count _ c.if-gone-eq0.true

pub loop-cell-init : goal.loop-cell-init
loop-cell-init c = refl

pub loop-cell-preserved : goal.loop-cell-preserved
unfolding renamed
loop-cell-preserved c = renamed_more _ _ _ _ c.loop-cell-test.true c.loop-cell.invariant _ c.chosen.ensures

pub returns : goal.returns
returns c = all_renamed _ _ _ _ c.loop-cell-test.false c.loop-cell.invariant _
