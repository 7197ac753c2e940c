-- `right_ends` meets its contract: each turn judges one row.
use Rattle.book_audit.proofs.Judging.{Judging}
use Rattle.book_audit.proofs.ends.HeldRows.right_ends.Given as goal

abbrev pub invariant-loop-i : goal.invariant-loop-i
invariant-loop-i l =
    Judging l.self.dimensions l.self.directions l.self.count l.self.columns.now l.self.positions.now l.lower_ends l.upper_ends l.wrong l.i
