-- `next_said` meets its contract: each turn passes over one row that says nothing.
use Rattle.table_finding.specs.Found.{rows_of}
use Rattle.table_finding.proofs.Idling.{Passed}
use Rattle.table_finding.proofs.ComparedRows.next_said.Given as goal

abbrev pub invariant-loop-i : goal.invariant-loop-i
invariant-loop-i l = Passed (rows_of l.self) l.sought l.from l.to l.i
