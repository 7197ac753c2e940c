-- `count_due` meets its contract: each turn counts the row at one place.
use Rattle.table_listing.specs.Due.{due_at}
use Rattle.table_listing.proofs.Windows.{Counting}
use Rattle.table_listing.proofs.window.RowWindow.count_due.Given as goal

abbrev pub invariant-loop-i : goal.invariant-loop-i
invariant-loop-i l = Counting (due_at l.self.start l.c l.self.first l.self.lower_ends.now) l.self.first l.self.start l.self.end l.n l.i
