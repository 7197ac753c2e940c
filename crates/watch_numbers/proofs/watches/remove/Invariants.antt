-- `remove` meets its contract.

use Rattle.watch_numbers.proofs.Removing.{Removing}
use Rattle.watch_numbers.proofs.watches.remove.Given as goal

abbrev pub invariant-loop-watch : goal.invariant-loop-watch
invariant-loop-watch l = Removing l.watch-items l.ended l.kept l.count l.watch-index
