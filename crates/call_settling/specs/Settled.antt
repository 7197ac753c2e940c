-- The tables of a book as a quote settles them, and what may be known of them before.
use Rattle.std.specs.Prelude.{◌≡◌, ℕ, ◌+◌, ◌-◌, ◌*◌, ◌≤◌, ◌<◌, Bool, true, cond, List, [], ◌∷◌, ◌++◌, map, length, get_or, take, drop}
use Rattle.std.proofs.Math.Seq.{paste}
use Rattle.lists.specs.Lists.{padded}
use Rattle.head.specs.declared.Head.{Head}
use Rattle.head.specs.Heads.{max_dimensions, max_capacity}
use Rattle.model.specs.Rows.{Tables, renamed}
use Rattle.table_cells.specs.Marked.{marked}
use Rattle.call_settling.specs.Blank.{Blank}

module _ (h : Head) where
  -- a table of so many cells a row once so many rows at the front are lost and a row is put behind the others, with zeros up to
  -- place N
  unfoldable pub rows_put : ℕ → ℕ → List ℕ → List ℕ → List ℕ
  rows_put width by row cells =
      padded (h.capacity * width) (take (h.held * width - by * width) (drop (by * width) cells) ++ row) cells

  -- the lower ends with those that name position gone zeroed, and one more behind them
  unfoldable pub lowers_put : ℕ → ℕ → ℕ → List ℕ → List ℕ
  lowers_put by gone lower cells =
      padded h.capacity (map (renamed gone) (take (h.held - by) (drop by cells)) ++ (lower ∷ [])) cells

  -- the upper ends with the new position at the retired places, and 0 behind them
  unfoldable pub uppers_put : ℕ → List ℕ → List ℕ → List ℕ
  uppers_put by places cells =
      padded h.capacity (take (h.held - by) (drop by (marked places (h.newest + 1) cells)) ++ (0 ∷ [])) cells

  -- a table of so many cells a row with a row behind the rows held, none of which is moved
  unfoldable pub rows_behind : ℕ → List ℕ → List ℕ → List ℕ
  rows_behind width row cells = paste cells (h.held * width) row (length row)

  -- a table as a quote settles it: in a reachable book, in tables with a place to spare, no row is moved
  unfoldable pub rows_settled : Bool → ℕ → ℕ → List ℕ → List ℕ → List ℕ
  rows_settled reachable width by row cells = cond reachable (rows_behind width row cells) (rows_put width by row cells)

  -- the lower ends with those zeroed that name position gone among the first, so many as may, and one more behind them
  unfoldable pub lowers_settled : Bool → ℕ → ℕ → ℕ → ℕ → List ℕ → List ℕ
  lowers_settled reachable by gone named lower cells =
      rows_settled reachable 1 by (lower ∷ []) (map (renamed gone) (take named cells) ++ drop named cells)

  -- the upper ends with the new position at the retired places, and 0 behind them
  unfoldable pub uppers_settled : Bool → ℕ → List ℕ → List ℕ → List ℕ
  uppers_settled reachable by places cells = rows_settled reachable 1 by (0 ∷ []) (marked places (h.newest + 1) cells)

-- a row may be put into a table of so many cells a row: there is room, in a reachable book behind all rows held
pub record Ready (h : Head) (reachable : Bool) (width by : ℕ) (cells : List ℕ) : Type 0 where
  pub narrow : width ≤ max_dimensions
  pub bounded : h.capacity ≤ max_capacity
  pub by_held : by ≤ h.held
  pub room : h.held - by < h.capacity
  pub held_fit : h.held ≤ h.capacity
  pub long : h.capacity * width ≤ length cells
  pub spare : reachable ≡ true → h.capacity * width + width ≤ length cells

-- no lower end from one place on and below another names position gone
pub record Unnamed (gone from to : ℕ) (lowers : List ℕ) : Type 0 where
  pub within : from ≤ to
  pub same : (i : ℕ) → from ≤ i → i < to → renamed gone (get_or lowers i 0) ≡ get_or lowers i 0

-- behind the rows of a book zeros stand, up to place N
pub record Clear (h : Head) (t : Tables) : Type 0 where
  pub columns : Blank (h.held * h.dimensions) (h.capacity * h.dimensions) t.columns
  pub positions : Blank h.held h.capacity t.positions
  pub lower_ends : Blank h.held h.capacity t.lower_ends
  pub upper_ends : Blank h.held h.capacity t.upper_ends
