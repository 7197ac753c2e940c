-- `lower_end` meets its contract: each turn asks one row, from the youngest back.
use Rattle.book_audit.proofs.Seeking.{Back}
use Rattle.book_audit.proofs.ends.HeldRows.lower_end.Given as goal

abbrev pub invariant-loop-j : goal.invariant-loop-j
invariant-loop-j l = Back l.self.dimensions l.self.directions l.self.count l.self.columns.now l.self.positions.now l.i l.j
