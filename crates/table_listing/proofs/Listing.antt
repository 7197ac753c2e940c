-- The list of a window by the ends of rows whose positions follow one another: the test of a row, and the model's list of such rows.
use mathlib.Core.Path.{◌≡◌, refl, sym, ap, ◌∙◌}
use Prim.Native.Nat.{ℕ, suc, ◌+◌, ◌-◌, ◌≤◌, ◌<◌}
use native.Mathlib.Nat.{zero-add}
use native.Mathlib.Omega.{arith}
use mathlib.Core.Bool.{Bool, true, false, ◌&&◌, ◌||◌}
use mathlib.Core.List.{List, map}
use lib.Dec.{ltb, eqb}
use lib.ListN.{length, get_or, length-map}
use borrow.Author.Tests.{le-leb}
use Rattle.lists.specs.Lists.{filter, run, between}
use Rattle.lists.proofs.Booleans.{refute}
use Rattle.lists.proofs.Filters.{filter_map, map_map, map-id}
use Rattle.lists.proofs.Runs.{filter_same, map_same, get_or_run, length_run}
use Rattle.skyline.specs.Skyline.{window_start}
use Rattle.skyline.specs.Past.{covers}
use Rattle.skyline.proofs.Past.{of_covers}
use Rattle.head.specs.declared.Head.{Head}
use Rattle.model.specs.Rows.{Row, Tables, row_at, rows_in, listed}
use Rattle.model.specs.Book.{book_rows}
use Rattle.model.proofs.Torn.{Whole}
use Rattle.table_listing.specs.Picked.{picked, listed_at, listed_in}
use Rattle.table_listing.proofs.Picking.{picked_skip}

module _ (first a b : ℕ) (lowers uppers : List ℕ) where
  abbrev test : ℕ → Bool
  test = listed_at a b first lowers uppers

  -- a row of the window is on its list by its ends
  pub listed_inside : (i : ℕ) {on : Bool} → a ≤ first + i → first + i < b + 1 → on ≡ (ltb (get_or lowers i 0) a && (eqb (get_or uppers i 0) 0 || ltb b (get_or uppers i 0)))
      → on ≡ listed_at a b first lowers uppers i
  unfolding listed_at covers
  listed_inside i h k e =
      e ∙ rw (le-leb a (first + i) h, le-leb (first + i) b (omega arith)) (go (ltb (get_or lowers i 0) a) (eqb (get_or uppers i 0) 0 || ltb b (get_or uppers i 0)))
    where
      go : (x y : Bool) → (x && y) ≡ (x && true && true && y)
      go true y = refl
      go false y = refl

  -- a row before the window is not on its list
  pub listed_early : (i : ℕ) → first + i < a → test i ≡ false
  unfolding listed_at
  listed_early i h = refute (test i) (λ t. omega (arith, (of_covers a b (get_or lowers i 0) (first + i) (get_or uppers i 0) t).start))

  -- a row behind the window is not on its list
  pub listed_late : (i : ℕ) → b < first + i → test i ≡ false
  unfolding listed_at
  listed_late i h = refute (test i) (λ t. omega (arith, (of_covers a b (get_or lowers i 0) (first + i) (get_or uppers i 0) t).end))

-- ---- the model's rows

-- the positions of the rows below place count follow one another
pub record Consecutive (first count : ℕ) (positions : List ℕ) : Type 0 where
  pub at : (i : ℕ) → i < count → get_or positions i 0 ≡ first + i

-- rows that are not torn fill the window of N
pub whole_consecutive : (h : Head) (t : Tables) → Whole h (book_rows h t)
    → Consecutive (window_start h.newest h.capacity) h.held t.positions × (h.newest + 1 ≡ window_start h.newest h.capacity + h.held)
unfolding book_rows rows_in row_at between window_start
whole_consecutive h t w = (record { at = at }, omega (arith, long))
  where
    S : ℕ
    S = window_start h.newest h.capacity

    cells : map (λ i. get_or t.positions i 0) (run 0 h.held) ≡ run S (suc h.newest - S)
    cells = sym (map_map Row.position (row_at h.dimensions t) (run 0 h.held)) ∙ w.window

    long : h.held ≡ suc h.newest - S
    long = sym (length-map (run 0 h.held) (λ i. get_or t.positions i 0) ∙ length_run 0 h.held) ∙ ap length cells ∙ length_run S (suc h.newest - S)

    at : (i : ℕ) → i < h.held → get_or t.positions i 0 ≡ S + i
    at i l =
        ap (λ (k : ℕ). get_or t.positions k 0) (sym (zero-add i))
        ∙ sym (get_or_run (λ k. get_or t.positions k 0) 0 0 h.held i l)
        ∙ ap (λ (c : List ℕ). get_or c i 0) (cells ∙ sym (map-id (run S (suc h.newest - S))))
        ∙ get_or_run (λ k. k) 0 S (suc h.newest - S) i (omega (arith, long))

module _ (first d count : ℕ) (t : Tables) (v : Consecutive first count t.positions) where
  -- the positions of the rows that pass a test are the positions picked by it
  pub rows_picked : (f : Row → Bool) (g : ℕ → Bool) → ((i : ℕ) → i < count → f (row_at d t i) ≡ g i) → map Row.position (filter f (rows_in d count t)) ≡ picked g first count
  unfolding rows_in row_at picked
  rows_picked f g e =
      ap (map Row.position) (filter_map f (row_at d t) (run 0 count))
      ∙ map_map Row.position (row_at d t) (filter (λ i. f (row_at d t i)) (run 0 count))
      ∙ ap (map (λ i. get_or t.positions i 0)) (filter_same (λ i. f (row_at d t i)) g 0 count (λ i _ h. e i (rw zero-add at h)))
      ∙ map_same g (λ i. get_or t.positions i 0) (λ i. first + i) 0 count (λ i _ h _. v.at i (rw zero-add at h))

  -- the model's list of a window within the rows
  pub listed_rows : (a b : ℕ) → first ≤ b + 1 → b + 1 ≤ first + count → listed a b (rows_in d count t) ≡ listed_in a b first t.lower_ends t.upper_ends
  unfolding listed listed_in listed_at row_at
  listed_rows a b h k =
      rows_picked (λ r. covers a b r.lower_end r.position r.upper_end) test' (λ i l. rw (v.at i l))
      ∙ picked_skip test' first (b + 1 - first) count (omega arith) (λ q l _. listed_late first a b t.lower_ends t.upper_ends q (omega arith))
    where
      test' : ℕ → Bool
      test' = listed_at a b first t.lower_ends t.upper_ends
