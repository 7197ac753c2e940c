-- The rows that are due: the test of a row by its lower end, and the model's rows and cells.
use mathlib.Core.Path.{◌≡◌, refl, sym, ap, ◌∙◌}
use Prim.Native.Nat.{ℕ, ◌+◌, ◌-◌, ◌*◌, ◌≤◌, ◌<◌}
use native.Mathlib.Omega.{arith}
use mathlib.Core.Bool.{false, ◌&&◌}
use mathlib.Core.List.{List, [], ◌∷◌, map}
use lib.Dec.{ltb, leb}
use lib.ListN.{length, get_or, length-map}
use borrow.Author.Tests.{le-leb, lt-leb, leb-true, ltb-true, lt-ltb}
use Rattle.lists.specs.Lists.{flat}
use Rattle.lists.proofs.Booleans.{agree}
use Rattle.lists.proofs.Filters.{map_map}
use Rattle.skyline.specs.Skyline.{window_start}
use Rattle.model.specs.Rows.{Row, Tables, row_at, rows_in, due_rows, due_cells}
use Rattle.table_listing.specs.Due.{due_at, due_positions, due_of}
use Rattle.table_listing.proofs.Picking.{picked_bounded}
use Rattle.table_listing.proofs.Writing.{cells}
use Rattle.table_listing.proofs.Listing.{Consecutive, rows_picked}

module _ (first a c : ℕ) (lowers : List ℕ) (i : ℕ) where
  -- a row from position a on is due by its lower end
  pub due_inside : a ≤ first + i → ltb (get_or lowers i 0) c ≡ due_at a c first lowers i
  unfolding due_at
  due_inside h = rw (le-leb a (first + i) h)

  -- a row before it is not
  pub due_early : first + i < a → due_at a c first lowers i ≡ false
  unfolding due_at
  due_early h = rw (lt-leb a (first + i) h)

-- no more are due than there are rows
pub due_bounded : (first a b c : ℕ) (lowers : List ℕ) → length (due_positions a b c first lowers) ≤ b + 1 - first
unfolding due_positions
due_bounded first a b c lowers = picked_bounded (due_at a c first lowers) first (b + 1 - first)

-- two cells for each position
pub due_length : (newest n1 : ℕ) (l : List ℕ) → length (cells (due_of newest n1) l) ≡ 2 * length l
unfolding flat
due_length newest n1 [] = refl
due_length newest n1 (p ∷ l) = let e = due_length newest n1 l in omega arith

-- a position exceeds M + 1 - n1 exactly if it is in the window of n1 - 1
behind_start : (M n1 p : ℕ) → 1 ≤ n1 → 1 ≤ p → ltb (M + 1) (p + n1) ≡ leb (window_start M (n1 - 1)) p
unfolding window_start
behind_start M n1 p some low =
    agree (ltb (M + 1) (p + n1)) (leb (window_start M (n1 - 1)) p)
    (λ t. le-leb (window_start M (n1 - 1)) p (omega (arith, ltb-true (M + 1) (p + n1) t)))
    (λ t. lt-ltb (M + 1) (p + n1) (omega (arith, leb-true (window_start M (n1 - 1)) p t)))

module _ (first d count : ℕ) (t : Tables) (v : Consecutive first count t.positions) (M n1 n2 : ℕ) (starts : 1 ≤ first) (some : 1 ≤ n1)
    (filled : M + 1 ≡ first + count) where
  abbrev positions : List ℕ
  positions = due_positions (window_start M (n1 - 1)) M (window_start M n2) first t.lower_ends

  -- the positions of the model's rows that are due
  pub due_positions_lem : map Row.position (due_rows M n1 n2 (rows_in d count t)) ≡ positions
  unfolding due_rows due_positions due_at row_at
  due_positions_lem =
      let as_many : M + 1 - first ≡ count = omega arith in
      rw as_many
      (rows_picked first d count t v (λ r. ltb (M + 1) (r.position + n1) && ltb r.lower_end (window_start M n2))
      (due_at (window_start M (n1 - 1)) (window_start M n2) first t.lower_ends)
      (λ i l. rw (v.at i l, behind_start M n1 (first + i) some (omega arith))))

  -- how many they are
  pub due_count : length (due_rows M n1 n2 (rows_in d count t)) ≡ length positions
  due_count = sym (length-map (due_rows M n1 n2 (rows_in d count t)) Row.position) ∙ ap length due_positions_lem

  -- and what is written of them
  pub due_written_lem : due_cells M n1 (due_rows M n1 n2 (rows_in d count t)) ≡ cells (due_of M n1) positions
  unfolding due_cells
  due_written_lem = ap flat (sym (map_map (due_of M n1) Row.position (due_rows M n1 n2 (rows_in d count t)))) ∙ ap (cells (due_of M n1)) due_positions_lem
