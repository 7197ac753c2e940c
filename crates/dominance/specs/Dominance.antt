-- Dominance of one quote over another (01: beats), over any number d of columns.
use Rattle.std.specs.Prelude.{ℕ, zero, suc, ◌/◌, ◌%◌, ◌^◌, Bool, true, false, ◌&&◌, ◌||◌, not, List, ltb, eqb, get_or}

-- bit i of the directions is set: in column i higher is better
unfoldable pub higher : ℕ → ℕ → Bool
higher directions i = eqb (directions / 2 ^ i % 2) 1

-- x is better than y, where higher is better (true) or lower is (false)
unfoldable pub better : Bool → ℕ → ℕ → Bool
better true x y = ltb y x
better false x y = ltb x y

-- p is better than q in column i
unfoldable pub better_at : ℕ → ℕ → List ℕ → List ℕ → Bool
better_at directions i p q = better (higher directions i) (get_or p i 0) (get_or q i 0)

-- p is no worse than q in each of the columns below d
unfoldable pub no_worse : ℕ → ℕ → List ℕ → List ℕ → Bool
no_worse zero directions p q = true
no_worse (suc i) directions p q = no_worse i directions p q && not (better_at directions i q p)

-- p is better than q in at least one of the columns below d
unfoldable pub some_better : ℕ → ℕ → List ℕ → List ℕ → Bool
some_better zero directions p q = false
some_better (suc i) directions p q = some_better i directions p q || better_at directions i p q

-- p dominates q (01: p beats q): no worse in every column and better in at least one
unfoldable pub dominates : ℕ → ℕ → List ℕ → List ℕ → Bool
dominates d directions p q = no_worse d directions p q && some_better d directions p q
