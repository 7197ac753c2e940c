-- `compare` meets its contract: each turn compares one column in both ways, and the shift brings the next direction bit to the front.
use Rattle.dominance.proofs.Comparing.{Comparing}
use Rattle.dominance.proofs.compare.Given as goal

abbrev pub invariant-loop-i : goal.invariant-loop-i
invariant-loop-i l = Comparing l.d l.directions l.quote l.cells l.start l.bits l.better l.worse l.i
