-- `store_at` meets its contract: each turn stores at one place.
use Rattle.std.proofs.Common.{refl}
use Rattle.table_cells.proofs.Marking.{start, more}
use Rattle.table_cells.proofs.store_at.Goals as goal

pub loop-place-init : goal.loop-place-init
loop-place-init c = start _ _ _ c.requires

pub loop-place-preserved : goal.loop-place-preserved
loop-place-preserved c = more c.loop-place.invariant c.loop-place-test.true _ refl
