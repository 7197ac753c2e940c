-- The rules of the audit by what the parts found.
use mathlib.Core.Path.{◌≡◌, sym, ap, ◌∙◌}
use Prim.Native.Nat.{ℕ, suc, ◌+◌, ◌-◌, ◌*◌, ◌≤◌, ◌<◌}
use native.Mathlib.Nat.{mul-le-mul_right, zero-add}
use native.Mathlib.Omega.{arith}
use mathlib.Core.Bool.{Bool, true, false, ◌&&◌, not}
use mathlib.Core.List.{List, map}
use lib.Dec.{ltb}
use lib.ListN.{length, get_or, length-map}
use borrow.Author.Tests.{lt-ltb, le-ltb}
use Rattle.lists.specs.Lists.{filter, any, head_or, last_or, run, between}
use Rattle.lists.proofs.Filters.{filter_map, any_map, map_map, map-id}
use Rattle.lists.proofs.Runs.{length_run, get_or_run, filter_same, filter_from, filter_upto, any_same}
use Rattle.skyline.specs.Skyline.{window_start}
use Rattle.head.specs.declared.Head.{Head}
use Rattle.model.specs.Rows.{Row, Tables, row_at, rows_in, over_older, over_younger}
use Rattle.model.specs.Book.{torn_rows, book_rows}
use Rattle.model_audit.specs.Audit.{right_lower, right_upper, wrong_end, zero_from, passes}
use Rattle.model.specs.Promises.{tables}
use Rattle.model.proofs.Torn.{Whole, untorn_whole, window_bounded}
use Rattle.table_cells.proofs.Reading.{length_rows}
use Rattle.book_audit.specs.Ends.{position_at, over_younger_at, over_older_at, lower_found, upper_found, wrong_at}

-- ---- rows whose positions rise by one from place to place

module _ (d directions S n : ℕ) (t : Tables) (risen : (k : ℕ) → k < n → (row_at d t k).position ≡ S + k) (i : ℕ) (h : i < n) where
  -- an older row stands at an earlier place, so that its place decides
  lower_by_place : right_lower d directions (rows_in d n t) (row_at d t i) ≡ lower_found d directions t i
  unfolding right_lower rows_in lower_found over_younger_at position_at
  lower_by_place =
      let cut : n ≡ i + (n - i) = omega arith in
      ap (λ (l : List Row). last_or 0 (map Row.position l)) (filter_map older (row_at d t) (run 0 n))
      ∙ ap (last_or 0) (map_map Row.position (row_at d t) (filter (λ k. older (row_at d t k)) (run 0 n)))
      ∙ ap (λ (l : List ℕ). last_or 0 (map (λ k. (row_at d t k).position) l))
      (ap (λ (m : ℕ). filter (λ k. older (row_at d t k)) (run 0 m)) cut
      ∙ filter_upto (λ k. older (row_at d t k)) 0 i (n - i) (λ q a b. rw (risen q (omega arith), risen i h, le-ltb (S + q) (S + i) (omega arith)))
      ∙ filter_same (λ k. older (row_at d t k)) (over_younger_at d directions t i) 0 i (λ q a b. rw (risen q (omega arith), risen i h, lt-ltb (S + q) (S + i) (omega arith))))
    where
      older : Row → Bool
      older q = ltb q.position (row_at d t i).position && over_younger d directions q (row_at d t i).columns

  -- and a younger one at a later place
  upper_by_place : right_upper d directions (rows_in d n t) (row_at d t i) ≡ upper_found d directions t n i
  unfolding right_upper rows_in upper_found over_older_at position_at
  upper_by_place =
      let cut : n ≡ suc i + (n - suc i) = omega arith in
      ap (λ (l : List Row). head_or 0 (map Row.position l)) (filter_map younger (row_at d t) (run 0 n))
      ∙ ap (head_or 0) (map_map Row.position (row_at d t) (filter (λ k. younger (row_at d t k)) (run 0 n)))
      ∙ ap (λ (l : List ℕ). head_or 0 (map (λ k. (row_at d t k).position) l))
      (ap (λ (m : ℕ). filter (λ k. younger (row_at d t k)) (run 0 m)) cut
      ∙ filter_from (λ k. younger (row_at d t k)) 0 (suc i) (n - suc i) (λ q a b. rw (risen q (omega arith), risen i h, le-ltb (S + i) (S + q) (omega arith)))
      ∙ ap (λ (a : ℕ). filter (λ k. younger (row_at d t k)) (run a (n - suc i))) (zero-add (suc i))
      ∙ filter_same (λ k. younger (row_at d t k)) (over_older_at d directions t i) (suc i) (n - suc i) (λ q a b. rw (risen q (omega arith), risen i h, lt-ltb (S + i) (S + q) (omega arith))))
    where
      younger : Row → Bool
      younger q = ltb (row_at d t i).position q.position && over_older d directions q.columns (row_at d t i)

  -- so its place decides whether an end is wrong
  wrong_there : wrong_end d directions (rows_in d n t) (row_at d t i) ≡ wrong_at d directions t n i
  unfolding wrong_end wrong_at
  wrong_there = rw (lower_by_place, upper_by_place)

wrong_by_place : (d directions S n : ℕ) (t : Tables) → ((k : ℕ) → k < n → (row_at d t k).position ≡ S + k)
    → any (wrong_end d directions (rows_in d n t)) (rows_in d n t) ≡ any (wrong_at d directions t n) (run 0 n)
unfolding rows_in
wrong_by_place d directions S n t risen =
    any_map (wrong_end d directions (rows_in d n t)) (row_at d t) (run 0 n)
    ∙ any_same (λ k. wrong_end d directions (rows_in d n t) (row_at d t k)) (wrong_at d directions t n) 0 n (λ q a b. wrong_there d directions S n t risen q (omega arith))

-- ---- rows that are not torn

module _ (h : Head) (cs ps ls us : List ℕ) (some : 1 ≤ h.capacity) (untorn : torn_rows h (book_rows h (tables cs ps ls us)) ≡ false) where
  whole : Whole h (book_rows h (tables cs ps ls us))
  unfolding book_rows
  whole = untorn_whole h (book_rows h (tables cs ps ls us)) (sym (length_rows h.dimensions h.held (tables cs ps ls us))) some untorn

  -- as many rows are held as the window has positions
  held_window : h.held ≡ length (between (window_start h.newest h.capacity) h.newest)
  unfolding book_rows
  held_window =
      sym (length_rows h.dimensions h.held (tables cs ps ls us))
      ∙ sym (length-map (book_rows h (tables cs ps ls us)) Row.position) ∙ ap length whole.window

  -- the rows are no more than the capacity
  pub held_fits : h.held ≤ h.capacity
  held_fits = omega (arith, held_window, window_bounded h.capacity some h.newest)

  -- nor are their columns more than the capacity's
  pub columns_fit : h.held * h.dimensions ≤ h.capacity * h.dimensions
  columns_fit = mul-le-mul_right h.dimensions held_fits

  -- the positions rise by one from place to place
  risen : (k : ℕ) → k < h.held → get_or ps k 0 ≡ window_start h.newest h.capacity + k
  unfolding book_rows rows_in row_at between
  risen k l =
      let S : ℕ = window_start h.newest h.capacity in
      let m : h.held ≡ suc h.newest - S = held_window ∙ length_run S (suc h.newest - S) in
      ap (λ (j : ℕ). get_or ps j 0) (sym (zero-add k)) ∙ sym (get_or_run (λ j. get_or ps j 0) 0 0 h.held k l)
      ∙ ap (λ (p : List ℕ). get_or p k 0)
      (sym (map_map Row.position (row_at h.dimensions (tables cs ps ls us)) (run 0 h.held)) ∙ whole.window ∙ sym (map-id (run S (suc h.newest - S))))
      ∙ get_or_run (λ j. j) 0 S (suc h.newest - S) k (omega arith)

  -- the rows held are judged by their places
  wrong_held : any (wrong_end h.dimensions h.directions (rows_in h.dimensions h.held (tables cs ps ls us))) (rows_in h.dimensions h.held (tables cs ps ls us))
      ≡ any (wrong_at h.dimensions h.directions (tables cs ps ls us) h.held) (run 0 h.held)
  unfolding row_at
  wrong_held = wrong_by_place h.dimensions h.directions (window_start h.newest h.capacity) h.held (tables cs ps ls us) risen

  -- on rows that are not torn the parts decide
  pub by_parts : (right : Bool) → right ≡ not (any (wrong_at h.dimensions h.directions (tables cs ps ls us) h.held) (run 0 h.held))
      → (z1 z2 z3 z4 : Bool) → z1 ≡ zero_from (h.held * h.dimensions) (h.capacity * h.dimensions) cs → z2 ≡ zero_from h.held h.capacity ps
      → z3 ≡ zero_from h.held h.capacity ls → z4 ≡ zero_from h.held h.capacity us
      → right && (z1 && z2 && z3 && z4) ≡ passes h (tables cs ps ls us)
  unfolding passes book_rows
  by_parts right er z1 z2 z3 z4 e1 e2 e3 e4 =
      rw (untorn, wrong_held, er, e1, e2, e3, e4)

-- torn rows fail
pub torn_fails : (h : Head) (cs ps ls us : List ℕ) → torn_rows h (book_rows h (tables cs ps ls us)) ≡ true → passes h (tables cs ps ls us) ≡ false
unfolding passes
torn_fails h cs ps ls us e = rw e
