-- `write_listed` meets its contract: each turn writes the row at one place of the window, if it is listed.
use Rattle.table_listing.specs.Picked.{listed_at}
use Rattle.table_listing.proofs.Writing.{one}
use Rattle.table_listing.proofs.Windows.{Listing}
use Rattle.table_listing.proofs.window.RowWindow.write_listed.Given as goal

abbrev pub invariant-loop-i : goal.invariant-loop-i
invariant-loop-i l =
    Listing (listed_at l.window.start l.window.end l.window.first l.window.lower_ends.now l.window.upper_ends.now) l.window.first l.window.start l.window.end one l.initial.out l.out l.at l.i
