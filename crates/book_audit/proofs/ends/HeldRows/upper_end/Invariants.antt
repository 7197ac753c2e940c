-- `upper_end` meets its contract: each turn asks one row, from the next one on.
use Rattle.book_audit.proofs.Seeking.{Onward}
use Rattle.book_audit.proofs.ends.HeldRows.upper_end.Given as goal

abbrev pub invariant-loop-j : goal.invariant-loop-j
invariant-loop-j l = Onward l.self.dimensions l.self.directions l.self.count l.self.columns.now l.self.positions.now l.i l.j
