-- Positions picked from rows whose positions follow one another, and the list of a window of such rows by their ends.
use Rattle.std.specs.Prelude.{ℕ, ◌+◌, ◌-◌, ◌≤◌, Bool, List, map, length, get_or}
use Rattle.lists.specs.Lists.{filter, run}
use Rattle.skyline.specs.Past.{covers}

-- the positions of the places below count that pass the test, where the row at place 0 has position first
unfoldable pub picked : (ℕ → Bool) → ℕ → ℕ → List ℕ
picked test first count = map (λ i. first + i) (filter test (run 0 count))

-- the row at place i is on the list of the window from a to b
unfoldable pub listed_at : ℕ → ℕ → ℕ → List ℕ → List ℕ → ℕ → Bool
listed_at a b first lowers uppers i = covers a b (get_or lowers i 0) (first + i) (get_or uppers i 0)

-- the list of the window from a to b
unfoldable pub listed_in : ℕ → ℕ → ℕ → List ℕ → List ℕ → List ℕ
listed_in a b first lowers uppers = picked (listed_at a b first lowers uppers) first (b + 1 - first)

-- the window from a to b, which may be empty, lies within the rows of these tables
pub record Window (first a b : ℕ) (lowers uppers : List ℕ) : Type 0 where
  pub starts : 1 ≤ first
  pub low : first ≤ a
  pub near : a ≤ b + 1
  pub lower_room : b + 1 ≤ first + length lowers
  pub upper_room : b + 1 ≤ first + length uppers
