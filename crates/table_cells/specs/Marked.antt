-- Cells that a number was stored over, at listed places.
use Rattle.std.specs.Prelude.{ℕ, ◌<◌, List, [], ◌∷◌, length, get_or, set}

-- the cells with x at each of these places
unfoldable pub marked : List ℕ → ℕ → List ℕ → List ℕ
marked [] x cells = cells
marked (p ∷ ps) x cells = marked ps x (set cells p x)

-- each of these places is below count
pub record Below (places : List ℕ) (count : ℕ) : Type 0 where
  pub low : (k : ℕ) → k < length places → get_or places k 0 < count
