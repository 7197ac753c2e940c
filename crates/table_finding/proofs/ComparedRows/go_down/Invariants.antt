-- `go_down` meets its contract: each turn goes through one row.
use Rattle.table_finding.specs.Found.{rows_of}
use Rattle.table_finding.proofs.Going.{Going}
use Rattle.table_finding.proofs.ComparedRows.go_down.Given as goal

abbrev pub invariant-loop-i : goal.invariant-loop-i
invariant-loop-i l = Going (rows_of l.self) l.self.sound l.from l.to l.initial.places l.initial.so_far l.places l.i l.so_far
