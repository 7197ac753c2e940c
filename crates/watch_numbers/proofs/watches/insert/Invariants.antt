-- `insert` meets its contract.

use Rattle.watch_numbers.proofs.Inserting.{Inserting}
use Rattle.watch_numbers.proofs.watches.insert.Given as goal

abbrev pub invariant-loop-i : goal.invariant-loop-i
invariant-loop-i l = Inserting l.watch-items l.initial.carried l.after l.carried l.i
