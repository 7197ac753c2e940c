-- Tables that agree in the places of a book: what stands beyond the N places of each is no part of it.
use Rattle.std.specs.Prelude.{◌≡◌, ℕ, ◌*◌, ◌≤◌, List, length, take}
use Rattle.model.specs.Rows.{Tables}

-- the first n cells of b are those of a
pub record SameFront (n : ℕ) (a b : List ℕ) : Type 0 where
  pub long : n ≤ length b
  pub same : take n b ≡ take n a

-- the N places of tables u, of d columns a row, hold what those of tables t hold
pub record SamePlaces (d N : ℕ) (t u : Tables) : Type 0 where
  pub columns : SameFront (N * d) t.columns u.columns
  pub positions : SameFront N t.positions u.positions
  pub lower_ends : SameFront N t.lower_ends u.lower_ends
  pub upper_ends : SameFront N t.upper_ends u.upper_ends
