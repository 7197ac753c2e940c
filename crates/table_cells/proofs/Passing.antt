-- A turn of the loop that passes rows which are to be in their places, and counts the live ones.
use mathlib.Core.Path.{◌≡◌, refl, sym, ap, ◌∙◌}
use Prim.Native.Nat.{ℕ, suc, ◌+◌, ◌-◌, ◌≤◌, ◌<◌}
use native.Mathlib.Nat.{add_assoc}
use native.Mathlib.Numerals.{add-one}
use native.Mathlib.Omega.{arith}
use mathlib.Core.Bool.{Bool, true, false, ◌&&◌, ◌||◌, cond, and-true}
use mathlib.Core.List.{List, [], ◌∷◌, map}
use mir.Val.{bool_byte}
use lib.Dec.{ltb, leb, eqb}
use lib.ListN.{length, get_or}
use Rattle.lists.specs.Lists.{keep, filter, run}
use Rattle.model.specs.Rows.{Row, Tables, row_at, rows_in, is_live, live_rows}
use Rattle.table_cells.specs.Places.{in_place, in_places}

-- what a test counts for
pub test_counts : (b : Bool) → bool_byte b ≡ cond b 1 0
test_counts true = refl
test_counts false = refl

-- one row more in front of the live ones
live_cons : (r : Row) (rs : List Row) → length (live_rows (r ∷ rs)) ≡ cond (eqb r.upper_end 0) 1 0 + length (live_rows rs)
unfolding live_rows is_live filter
live_cons r rs = go (eqb r.upper_end 0)
  where
    L : List Row
    L = filter is_live rs

    go : (b : Bool) → length (keep b r L) ≡ cond b 1 0 + length L
    go true = omega arith
    go false = omega arith

-- i of the rows have been passed: they are in their places where placed says so, and so many of them are live
pub record Passing (newest first count : ℕ) (t : Tables) (placed : Bool) (live position i : ℕ) : Type 0 where
  pub within : i ≤ count
  pub bounded : live ≤ i
  pub next : position ≡ first + i
  pub same : in_places newest first (rows_in 0 count t) ≡ placed && in_places newest position (map (row_at 0 t) (run i (count - i)))
  pub counted : length (live_rows (rows_in 0 count t)) ≡ live + length (live_rows (map (row_at 0 t) (run i (count - i))))

module _ {newest first count : ℕ} {t : Tables} where
  pub start : Passing newest first count t true 0 first 0
  unfolding rows_in
  start =
      let z : count - 0 ≡ count = omega arith in
      record { within = omega arith; bounded = omega arith; next = omega arith; same = rw z; counted = rw z (omega arith) }

  pub more : {placed : Bool} {live position i : ℕ} → Passing newest first count t placed live position i → i < count
      → (p l u one : ℕ) → p ≡ get_or t.positions i 0 → l ≡ get_or t.lower_ends i 0 → u ≡ get_or t.upper_ends i 0 → one ≡ cond (eqb u 0) 1 0
      → Passing newest first count t (placed && eqb p position && ltb l p && (eqb u 0 || ltb p u && leb u newest)) (live + one) (position + 1) (i + 1)
  unfolding run row_at in_places in_place
  more {placed} {live} {position} {i} v h p l u one ep el eu eo =
      let z : count - i ≡ suc (count - suc i) = omega arith in
      let rest : List Row = map (row_at 0 t) (run (suc i) (count - suc i)) in
      record {
        within = omega arith;
        bounded = rw eo (at_most (eqb u 0) v.bounded);
        next = rw v.next (add_assoc first i 1);
        same = v.same ∙ rw (z, add-one, add-one, ← ep, ← el, ← eu) (go placed (eqb p position) (ltb l p) (eqb u 0 || ltb p u && leb u newest) (in_places newest (suc position) rest));
        counted = v.counted ∙ rw (z, live_cons, add-one, ← eu, ← eo) (sym (add_assoc live one (length (live_rows rest))));
      }
    where
      go : (a b c d x : Bool) → a && ((b && c && d) && x) ≡ (a && b && c && d) && x
      go true b c d x = refl
      go false b c d x = refl

      at_most : (b : Bool) → live ≤ i → live + cond b 1 0 ≤ i + 1
      at_most true k = omega arith
      at_most false k = omega arith

  -- the live rows are no more than the rows
  pub live_fits : {placed : Bool} {live position i : ℕ} → Passing newest first count t placed live position i → i < count → {one : ℕ}
      → one ≡ cond (eqb (get_or t.upper_ends i 0) 0) 1 0 → live + one ≤ count
  live_fits {live = live} {i = i} v h e = rw e (go (eqb (get_or t.upper_ends i 0) 0) v.bounded)
    where
      go : (b : Bool) → live ≤ i → live + cond b 1 0 ≤ count
      go true k = omega arith
      go false k = omega arith

  pub finish : {placed : Bool} {live position i : ℕ} → Passing newest first count t placed live position i → count ≤ i → (k : ℕ)
      → placed && eqb k live ≡ in_places newest first (rows_in 0 count t) && eqb k (length (live_rows (rows_in 0 count t)))
  unfolding in_places run live_rows filter
  finish {placed} {live} {i = i} v h k =
      let z : count - i ≡ 0 = omega arith in
      let s : in_places newest first (rows_in 0 count t) ≡ placed = v.same ∙ rw z (and-true placed) in
      let c : length (live_rows (rows_in 0 count t)) ≡ live = v.counted ∙ rw z (omega arith) in
      rw (s, c)
