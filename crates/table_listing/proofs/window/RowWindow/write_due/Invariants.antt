-- `write_due` meets its contract: each turn writes the two cells of the row at one place, if it is due.
use Rattle.table_listing.specs.Due.{due_at, due_of}
use Rattle.table_listing.proofs.Windows.{Listing}
use Rattle.table_listing.proofs.window.RowWindow.write_due.Given as goal

abbrev pub invariant-loop-i : goal.invariant-loop-i
invariant-loop-i l =
    Listing (due_at l.window.start l.c l.window.first l.window.lower_ends.now) l.window.first l.window.start l.window.end (due_of l.window.end l.n1) l.initial.out l.out l.at l.i
