-- `records_of` meets its contract: each turn reads one record.
use Rattle.host_cells.proofs.Storing.{Same}
use Rattle.host_cells.proofs.records_of.Given as goal

abbrev pub invariant-loop-i : goal.invariant-loop-i
invariant-loop-i l = Same l.records l.cells l.i
