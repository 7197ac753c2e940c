-- `go_down_any` meets its contract: each turn passes over rows that say nothing, and goes through one more.
use Rattle.table_finding.specs.Found.{rows_of}
use Rattle.table_finding.proofs.Going.{Going}
use Rattle.table_finding.proofs.ComparedRows.go_down_any.Given as goal

abbrev pub invariant-loop-next : goal.invariant-loop-next
invariant-loop-next l = Going (rows_of l.self) l.self.sound l.from l.to l.initial.places l.initial.so_far l.places l.i l.so_far

abbrev pub decreases-loop-next : goal.decreases-loop-next
decreases-loop-next l = l.i
