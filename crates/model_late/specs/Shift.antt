-- Positions, ends, rows and changes of a book, counted as a book counts them that has taken m quotes more before the same ones.
use Rattle.std.specs.Prelude.{◌≡◌, ℕ, ◌+◌, ◌*◌, cond, List, ◌++◌, map, eqb, length, take}
use Rattle.model.specs.Rows.{Row, Tables}
use Rattle.model.specs.Changes.{missing}
use Rattle.model.specs.Reference.{Reference}

-- a position, m quotes further on
abbrev pub moved : ℕ → ℕ → ℕ
moved m p = m + p

-- a lower or upper end, m quotes further on; 0, which is no end, stays 0
unfoldable pub lift : ℕ → ℕ → ℕ
lift m e = cond (eqb e 0) 0 (moved m e)

-- a list of positions, each m quotes further on
abbrev pub shifted : ℕ → List ℕ → List ℕ
shifted m l = map (moved m) l

-- a row, m quotes further on: its position moves, both ends are lifted, its columns stay
unfoldable pub lifted_row : ℕ → Row → Row
lifted_row m r = record { position = moved m r.position; lower_end = lift m r.lower_end; upper_end = lift m r.upper_end; columns = r.columns }

-- the N places of tables t, of d columns a row, hold what those of tables u hold, m quotes further on
pub record LiftedTables (m d N : ℕ) (t u : Tables) : Type 0 where
  pub columns : take (N * d) t.columns ≡ take (N * d) u.columns
  pub positions : take N t.positions ≡ shifted m (take N u.positions)
  pub lower_ends : take N t.lower_ends ≡ map (lift m) (take N u.lower_ends)
  pub upper_ends : take N t.upper_ends ≡ map (lift m) (take N u.upper_ends)

-- a change of a list: a position leaves it, or joins it
pub data ListChange : Type 0 where
  Leaves : ℕ → ListChange
  Joins : ℕ → ListChange

-- a change, m quotes further on
unfoldable pub moved_change : ℕ → ListChange → ListChange
moved_change m (Leaves p) = Leaves (moved m p)
moved_change m (Joins p) = Joins (moved m p)

-- the changes from the list before to the list after: the leaves, then the joins, each rising
unfoldable pub list_changes : List ℕ → List ℕ → List ListChange
list_changes before after = map Leaves (missing before after) ++ map Joins (missing after before)

-- a reference model has the quotes of another behind m that the other missed, and its settings; watches and pairs are any
pub record Behind (m : ℕ) (morning late : Reference) : Type 0 where
  pub missed : List (List ℕ)
  pub counted : length missed ≡ m
  pub quotes : morning.quotes ≡ missed ++ late.quotes
  pub dimensions : morning.dimensions ≡ late.dimensions
  pub capacity : morning.capacity ≡ late.capacity
  pub directions : morning.directions ≡ late.directions
