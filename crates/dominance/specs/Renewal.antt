-- Dominance between the positions of a list of quotes (02, 5/13: beats), by which a quote that is repeated is renewed: of two quotes
-- that are equal in every column the later one is over the earlier one.
use Rattle.std.specs.Prelude.{ℕ, zero, suc, ◌-◌, Bool, true, ◌&&◌, ◌||◌, List, [], ltb, eqb, get_or}
use Rattle.dominance.specs.Dominance.{dominates}

-- the columns of the quote at a position; the first is at 1
unfoldable pub quote_at : List (List ℕ) → ℕ → List ℕ
quote_at quotes p = get_or quotes (p - 1) []

-- p and q are equal in each of the columns below d
unfoldable pub equal_columns : ℕ → List ℕ → List ℕ → Bool
equal_columns zero p q = true
equal_columns (suc i) p q = equal_columns i p q && eqb (get_or p i 0) (get_or q i 0)

-- the quote at position p is over the one at position q: it dominates it, or it is the later of two that are equal in every column
unfoldable pub renewed : ℕ → ℕ → List (List ℕ) → ℕ → ℕ → Bool
renewed d directions quotes p q =
    let x = quote_at quotes p in
    let y = quote_at quotes q in
    dominates d directions x y || (ltb q p && equal_columns d x y)
