-- `store_at` meets its contract: each turn stores at one place.
use Rattle.table_cells.proofs.Marking.{Marking}
use Rattle.table_cells.proofs.store_at.Given as goal

abbrev pub invariant-loop-place : goal.invariant-loop-place
invariant-loop-place l = Marking l.places l.x l.initial.cells l.cells l.place-index
