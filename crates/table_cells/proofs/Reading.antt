-- Rows read out of the tables.
use mathlib.Core.Path.{◌≡◌, ◌∙◌}
use Prim.Native.Nat.{ℕ, ◌+◌, ◌*◌, ◌≤◌, ◌<◌}
use native.Mathlib.Nat.{suc-mul, mul-le-mul_right}
use native.Mathlib.Numerals.{add-one}
use native.Mathlib.Omega.{arith}
use lib.ListN.{length, length-map}
use Rattle.lists.specs.Lists.{run}
use Rattle.lists.proofs.Runs.{length_run}
use Rattle.model.specs.Rows.{Tables, row_at, rows_in}

pub length_rows : (d n : ℕ) (t : Tables) → length (rows_in d n t) ≡ n
unfolding rows_in
length_rows d n t = length-map (run 0 n) (row_at d t) ∙ length_run 0 n

-- where the next row starts
pub next_start : (i d : ℕ) → (i + 1) * d ≡ i * d + d
next_start i d = rw add-one (suc-mul i d)

-- a row of the first n lies within n rows
pub row_within : (i n d : ℕ) → i < n → i * d + d ≤ n * d
row_within i n d h = rw (← next_start) (mul-le-mul_right d (omega arith))
