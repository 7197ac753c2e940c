-- The ends of a row by the places of the rows: what single functions of the audit find and judge.
use Rattle.std.specs.Prelude.{ℕ, suc, ◌-◌, Bool, ◌||◌, not, map, eqb}
use Rattle.lists.specs.Lists.{filter, head_or, last_or, run}
use Rattle.model.specs.Rows.{Tables, row_at, over_older, over_younger}

-- the position of the row at a place
unfoldable pub position_at : ℕ → Tables → ℕ → ℕ
position_at d t k = (row_at d t k).position

module _ (d directions : ℕ) (t : Tables) where
  -- the row at place k is over the younger one at place i
  unfoldable pub over_younger_at : ℕ → ℕ → Bool
  over_younger_at i k = over_younger d directions (row_at d t k) (row_at d t i).columns

  -- the row at place k is over the older one at place i
  unfoldable pub over_older_at : ℕ → ℕ → Bool
  over_older_at i k = over_older d directions (row_at d t k).columns (row_at d t i)

  -- the lower end of the row at place i: the position of the youngest row before it that is over it, or 0
  unfoldable pub lower_found : ℕ → ℕ
  lower_found i = last_or 0 (map (position_at d t) (filter (over_younger_at i) (run 0 i)))

  module _ (count : ℕ) where
    -- the upper end of the row at place i: the position of the oldest row behind it that is over it, or 0
    unfoldable pub upper_found : ℕ → ℕ
    upper_found i = head_or 0 (map (position_at d t) (filter (over_older_at i) (run (suc i) (count - suc i))))

    -- an end of the row at place i is not the one found
    unfoldable pub wrong_at : ℕ → Bool
    wrong_at i = not (eqb (row_at d t i).lower_end (lower_found i)) || not (eqb (row_at d t i).upper_end (upper_found i))
