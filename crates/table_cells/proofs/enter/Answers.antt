-- `enter` meets its contract: the row put behind those that stay is the last, and zeros follow.
use Rattle.table_cells.proofs.Settling.{entered}
use Rattle.table_cells.proofs.enter.Goals as goal

pub returns : goal.returns
returns c =
    entered _ _ _ _ _ _ _ _ c.requires.by_le_count c.requires.count_le_places c.requires.row_bound c.requires.places_in_bounds c.shift.ensures c.shift.auto.cells c.put.ensures c.clear.ensures
