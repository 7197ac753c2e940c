-- `dull` meets its contract: each turn compares one row.
use mathlib.Core.Path.{◌≡◌}
use Prim.Native.Nat.{◌-◌}
use Rattle.table_finding.specs.Found.{rows_of, dull_in}
use Rattle.table_finding.proofs.ComparedRows.dull.Given as goal

abbrev pub invariant-loop-i : goal.invariant-loop-i
invariant-loop-i l = l.all ≡ dull_in (rows_of l.self) l.from (l.i - l.from)
