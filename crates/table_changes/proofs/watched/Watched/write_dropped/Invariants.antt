-- `write_dropped` meets its contract: each turn writes the leave of the row at one of the places, if it is one.
use Rattle.table_changes.proofs.Leaving.{Leaving}
use Rattle.table_changes.proofs.watched.Watched.write_dropped.Given as goal

abbrev pub invariant-loop-i : goal.invariant-loop-i
invariant-loop-i l =
    Leaving l.self.kinds.leave l.self.n l.self.before.now.first l.self.before.now.tables.lower_ends.now l.self.shift l.self.before.now.retired.now
    l.initial.out l.out l.at l.i-index
