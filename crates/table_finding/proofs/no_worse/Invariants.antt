-- `no_worse` meets its contract: each turn compares one column, and the first that is worse decides.
use Rattle.table_finding.proofs.Idling.{Ranking}
use Rattle.table_finding.proofs.no_worse.Given as goal

abbrev pub invariant-loop-i : goal.invariant-loop-i
invariant-loop-i l = Ranking l.d l.directions l.xs l.ys l.bits l.i
