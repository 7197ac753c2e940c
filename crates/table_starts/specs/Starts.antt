-- Where the rows of a book start in tables that they slide through, and how long those are.
use Rattle.std.specs.Prelude.{◌≡◌, ℕ, ◌*◌, ◌≤◌, true, length, drop}
use Rattle.head.specs.declared.Head.{Head}
use Rattle.head.specs.Heads.{max_dimensions, max_capacity, settings_hold}
use Rattle.model.specs.Rows.{Tables}
use Rattle.model.specs.Promises.{tables}
use Rattle.model_claims.specs.Places.{SamePlaces}
use Rattle.table_starts.specs.declared.Start.{Start}

-- the tables have twice the places of the largest N, and the columns six cells for each
pub record Long (t : Tables) : Type 0 where
  pub columns : 2 * max_capacity * max_dimensions ≤ length t.columns
  pub positions : 2 * max_capacity ≤ length t.positions
  pub lower_ends : 2 * max_capacity ≤ length t.lower_ends
  pub upper_ends : 2 * max_capacity ≤ length t.upper_ends

-- the rows start at most so many places on, with at most six cells of columns before them for each place
pub record Within (most : ℕ) (s : Start) : Type 0 where
  pub bounded : s.row ≤ most
  pub near : s.cell ≤ max_dimensions * s.row

-- where the rows start 1,024 places on an opening was accepted
pub record FullOpened (s : Start) (h : Head) : Type 0 where
  pub opened : s.row ≡ max_capacity → settings_hold h.dimensions h.capacity h.directions ≡ true

-- the tables from where the rows start on
unfoldable pub onward : Start → Tables → Tables
onward s t = tables (drop s.cell t.columns) (drop s.row t.positions) (drop s.row t.lower_ends) (drop s.row t.upper_ends)

-- a book with this head that stands in tables t may go on in tables u: they are the same, or an opening was accepted and its N places in u hold
-- what those in t hold
pub data Moved (h : Head) (t : Tables) : Tables → Type 0 where
  stays : Moved h t t
  moves : {u : Tables} → settings_hold h.dimensions h.capacity h.directions ≡ true → SamePlaces h.dimensions h.capacity t u → Moved h t u
