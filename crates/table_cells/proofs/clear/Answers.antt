-- `clear` meets its contract: what stands between the two places are zeros.
use Rattle.table_cells.proofs.Clearing.{cleared}
use Rattle.table_cells.proofs.clear.Goals as goal

pub returns : goal.returns
returns c = cleared _ _ _ _ c.requires.from_le_to c.requires.to_in_bounds (c.fill.ensures.after (λ y h. h))
