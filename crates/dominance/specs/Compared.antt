-- What is found by comparing two quotes once, in both ways.
use Rattle.std.specs.Prelude.{ℕ, List}
use Rattle.dominance.specs.declared.Comparison.{Comparison}
use Rattle.dominance.specs.Dominance.{some_better}

-- whether p is better than q in some column below d, and whether it is worse in one
unfoldable pub compared : ℕ → ℕ → List ℕ → List ℕ → Comparison
compared d directions p q = record { better = some_better d directions p q; worse = some_better d directions q p }
