-- `find_rows` meets its contract: each turn goes through one block.
use Rattle.std.proofs.Common.{None}
use lib.ListN.{length}
use Rattle.table_finding.specs.Found.{rows_of}
use Rattle.table_finding.proofs.Going.{Going}
use Rattle.table_finding.proofs.ComparedRows.find_rows.Given as goal

abbrev pub invariant-loop-i : goal.invariant-loop-i
invariant-loop-i l =
    Going (rows_of l.self) l.self.sound l.from l.to l.initial.places (record { at = length l.initial.places; last = None }) l.places l.i l.so_far

abbrev pub decreases-loop-i : goal.decreases-loop-i
decreases-loop-i l = l.i
