-- Cells of a value sought in a table.
use Rattle.std.specs.Prelude.{◌≡◌, ℕ, ◌≤◌, ◌<◌, List, get_or, Option, Some, None}

-- the place is from one place on up to another, and no cell before it is x
pub record Unequal (cells : List ℕ) (x from to place : ℕ) : Type 0 where
  pub low : from ≤ place
  pub high : place ≤ to
  pub none : (q : ℕ) → from ≤ q → q < place → get_or cells q 0 ≡ x → ⊥

-- and the cell there is x, unless the place is the end
pub record Next (cells : List ℕ) (x from to place : ℕ) : Type 0 where
  pub passed : Unequal cells x from to place
  pub found : place < to → get_or cells place 0 ≡ x

-- the place that was found, or the end where none was
abbrev pub place_or : ℕ → Option ℕ → ℕ
place_or to (Some place) = place
place_or to None = to

-- the first such place below the end, if there is one
pub record Found (cells : List ℕ) (x from to : ℕ) (found : Option ℕ) : Type 0 where
  pub next : Next cells x from to (place_or to found)
  pub below : (place : ℕ) → found ≡ Some place → place < to
