-- `rename` meets its contract: each turn renames one cell, and where nothing expired none is renamed.
use Rattle.std.proofs.Common.{◌≡◌, ◌++◌, map, take, drop}
use Rattle.model.specs.Rows.{renamed}
use Rattle.table_cells.proofs.rename.Given as goal

abbrev pub invariant-loop-cell : goal.invariant-loop-cell
invariant-loop-cell l = l.cell-items ≡ map (renamed l.gone) (take l.cell-index l.initial.cell-items) ++ drop l.cell-index l.initial.cell-items
