-- The positions that are due by their lower ends, where rows' positions follow one another, and what is written of each.
use Rattle.std.specs.Prelude.{ℕ, ◌+◌, ◌-◌, Bool, ◌&&◌, List, [], ◌∷◌, ltb, leb, get_or}
use Rattle.table_listing.specs.Picked.{picked}

-- the row at place i is at position a or behind it, and its lower end is below c
unfoldable pub due_at : ℕ → ℕ → ℕ → List ℕ → ℕ → Bool
due_at a c first lowers i = leb a (first + i) && ltb (get_or lowers i 0) c

-- the positions from a to b of rows whose lower end is below c
unfoldable pub due_positions : ℕ → ℕ → ℕ → ℕ → List ℕ → List ℕ
due_positions a b c first lowers = picked (due_at a c first lowers) first (b + 1 - first)

-- what is written of a position that is due: it, and after how many more quotes it joins
abbrev pub due_of : ℕ → ℕ → ℕ → List ℕ
due_of newest n1 p = p ∷ (p + n1 - (newest + 1)) ∷ []
