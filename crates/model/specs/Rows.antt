-- The rows of a book, the four lent tables that hold them, and what a quote does to rows of any content.
use Rattle.std.specs.Prelude.{ℕ, ◌+◌, ◌-◌, ◌*◌, Bool, ◌&&◌, not, cond, List, [], ◌∷◌, ◌++◌, map, ltb, eqb, get_or, take, drop}
use Rattle.lists.specs.Lists.{filter, last_or, flat, run, padded}
use Rattle.dominance.specs.Dominance.{no_worse, dominates}
use Rattle.skyline.specs.Skyline.{window_start}
use Rattle.skyline.specs.Past.{covers}

-- a row: position, lower end, upper end and columns
pub record Row : Type 0 where
  pub position : ℕ
  pub lower_end : ℕ
  pub upper_end : ℕ
  pub columns : List ℕ

-- the four lent tables of cells
pub record Tables : Type 0 where
  pub columns : List ℕ
  pub positions : List ℕ
  pub lower_ends : List ℕ
  pub upper_ends : List ℕ

-- the row at place i of the tables, of d columns
unfoldable pub row_at : ℕ → Tables → ℕ → Row
row_at d t i = record {
  position = get_or t.positions i 0;
  lower_end = get_or t.lower_ends i 0;
  upper_end = get_or t.upper_ends i 0;
  columns = take d (drop (i * d) t.columns);
}

-- the rows in the first places of the tables, oldest first
unfoldable pub rows_in : ℕ → ℕ → Tables → List Row
rows_in d count t = map (row_at d t) (run 0 count)

-- the tables with these rows in the first places and zeros from there up to place N; beyond, what stood there
unfoldable pub filled : ℕ → ℕ → List Row → Tables → Tables
filled d N rs t = record {
  columns = padded (N * d) (flat (map Row.columns rs)) t.columns;
  positions = padded N (map Row.position rs) t.positions;
  lower_ends = padded N (map Row.lower_end rs) t.lower_ends;
  upper_ends = padded N (map Row.upper_end rs) t.upper_ends;
}

-- a row is live: its upper end is 0; else it is retired
unfoldable pub is_live : Row → Bool
is_live r = eqb r.upper_end 0

-- the live rows, oldest first
unfoldable pub live_rows : List Row → List Row
live_rows rs = filter is_live rs

-- the list of the window from a to b: the positions of the rows that it covers
unfoldable pub listed : ℕ → ℕ → List Row → List ℕ
listed a b rs = map Row.position (filter (λ r. covers a b r.lower_end r.position r.upper_end) rs)

-- the rows that are due for the past list of n1 and n2: younger than its window, and no row of it is over them
unfoldable pub due_rows : ℕ → ℕ → ℕ → List Row → List Row
due_rows newest n1 n2 rs = filter (λ r. ltb (newest + 1) (r.position + n1) && ltb r.lower_end (window_start newest n2)) rs

-- after how many more quotes a row at position p that is due joins the past list of n1 and n2
abbrev pub joins_after : ℕ → ℕ → ℕ → ℕ
joins_after newest n1 p = p + n1 - (newest + 1)

-- what is written of rows that are due: of each its position and after how many more quotes it joins
unfoldable pub due_cells : ℕ → ℕ → List Row → List ℕ
due_cells newest n1 rs = flat (map (λ r. r.position ∷ joins_after newest n1 r.position ∷ []) rs)

-- the position that expires (01: ages out) with the quote behind the newest, or 0
unfoldable pub expiring : ℕ → ℕ → ℕ
expiring newest N = newest + 1 - N

-- a lower end once position g has expired: 0 if it named that position
unfoldable pub renamed : ℕ → ℕ → ℕ
renamed g lower = cond (eqb lower g) 0 lower

module _ (d directions : ℕ) where
  -- a younger quote x is over this row: it dominates it or is equal, which is to be no worse in every column
  unfoldable pub over_older : List ℕ → Row → Bool
  over_older x r = no_worse d directions x r.columns

  -- this row is over a younger quote x: it dominates it
  unfoldable pub over_younger : Row → List ℕ → Bool
  over_younger r x = dominates d directions r.columns x

  -- a row's upper end once quote x stands at position p: p if the row was live and x is over it
  unfoldable pub retired_by : List ℕ → ℕ → Row → ℕ
  retired_by x p r = cond (eqb r.upper_end 0 && over_older x r) p r.upper_end

  -- a row once quote x stands at position p and position g has expired
  unfoldable pub row_after : List ℕ → ℕ → ℕ → Row → Row
  row_after x p g r = record { position = r.position; lower_end = renamed g r.lower_end; upper_end = retired_by x p r; columns = r.columns }

  -- the lower end of quote x among these rows, live or retired: the position of the youngest that is over it, or 0
  unfoldable pub lower_end_among : List ℕ → List Row → ℕ
  lower_end_among x rs = last_or 0 (map Row.position (filter (λ r. over_younger r x) rs))

  -- the rows after quote x came behind the newest, in a book of N
  unfoldable pub rows_after : ℕ → ℕ → List ℕ → List Row → List Row
  rows_after N newest x rs =
      let g = expiring newest N in
      let left = filter (λ r. not (eqb r.position g)) rs in
      let row : Row = record { position = newest + 1; lower_end = lower_end_among x left; upper_end = 0; columns = x } in
      map (row_after x (newest + 1) g) left ++ (row ∷ [])
