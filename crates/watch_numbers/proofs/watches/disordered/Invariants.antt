-- `disordered` meets its contract.

use Rattle.watch_numbers.proofs.Judging.{Judging}
use Rattle.watch_numbers.proofs.watches.disordered.Given as goal

abbrev pub invariant-loop-watch : goal.invariant-loop-watch
invariant-loop-watch l = Judging l.capacity l.watch-items l.torn l.ended l.last l.watch-index
