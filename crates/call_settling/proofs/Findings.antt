-- What a quote finds among the rows of a book is so by the book model: its lower end, and how many rows are live and held after it.
use mathlib.Core.Path.{◌≡◌, refl, sym, ap, ◌∙◌}
use Prim.Native.Nat.{ℕ, zero, suc, ◌+◌, ◌-◌, ◌≤◌}
use native.Mathlib.Nat.{le_trans, mul-le-mul_right}
use native.Mathlib.Omega.{arith}
use mathlib.Core.Bool.{Bool, true, false, ◌&&◌, not, cond}
use mathlib.Core.List.{List, [], ◌∷◌, ◌++◌, map}
use lib.Dec.{eqb}
use lib.ListN.{length, get_or, length-append, length-map}
use borrow.Author.Tests.{ne_eqb}
use Rattle.lists.specs.Lists.{filter, last_or, run}
use Rattle.lists.proofs.Filters.{filter_append, filter_map, map_map}
use Rattle.lists.proofs.Runs.{length_run, filter_same, map_same}
use Rattle.skyline.specs.Skyline.{window_start}
use Rattle.head.specs.declared.Head.{Head}
use Rattle.model.specs.Rows.{Row, Tables, row_at, rows_in, is_live, live_rows, expiring, over_older, over_younger, retired_by, row_after, lower_end_among, rows_after}
use Rattle.model.specs.Book.{book_rows}
use Rattle.table_finding.specs.Found.{Rows, live, live_in, over, under, retires, retired, youngest, Fits}
use Rattle.call_settling.specs.declared.Finding.{Finding}
use Rattle.call_settling.specs.Findings.{expired_places, position_of, held_rows, Findable, Finds, named_if}
use Rattle.call_settling.proofs.Numbers.{split_counted, live_parts}
use Rattle.call_settling.proofs.Standing.{Admitted, within, long, whole, held_is, places, position_at_lem, left_is}

-- ---- lists

last_map : {A B : Type 0} (f : A → B) (z : A) (l : List A) → last_or (f z) (map f l) ≡ f (last_or z l)
unfolding last_or
last_map f z [] = refl
last_map f z (x ∷ xs) = last_map f x xs

run_suc : (a k : ℕ) → map suc (run a k) ≡ run (suc a) k
unfolding run
run_suc a zero = refl
run_suc a (suc k) = ap (λ (l : List ℕ). suc a ∷ l) (run_suc (suc a) k)

-- the last of some numbers moved on by c, from their numbers counted from 1
last_moved : (c : ℕ) (l : List ℕ) → let n = last_or 0 (map suc l) in last_or 0 (map (λ i. suc (c + i)) l) ≡ cond (eqb n 0) 0 (c + n)
unfolding last_or
last_moved c [] = refl
last_moved c (y ∷ ys) =
    let n : last_or (suc y) (map suc ys) ≡ suc (last_or y ys) = last_map suc y ys in
    last_map (λ i. suc (c + i)) y ys ∙ rw (n, ne_eqb (suc (last_or y ys)) 0 (λ z. omega arith)) (omega arith)

-- a row is live after the quote if it was and the quote is not over it
kept_live : (u p : ℕ) (b : Bool) → 1 ≤ p → eqb (cond (eqb u 0 && b) p u) 0 ≡ eqb u 0 && not b
kept_live u p b h = go (eqb u 0) refl b
  where
    go : (z : Bool) → eqb u 0 ≡ z → (b : Bool) → eqb (cond (z && b) p u) 0 ≡ z && not b
    go true e true = ne_eqb p 0 (λ z. omega arith)
    go true e false = e
    go false e b = e

-- ---- what is found

module _ {h : Head} {x : List ℕ} {t : Tables} (a : Admitted h x t) where
  abbrev e : ℕ
  e = expired_places h

  abbrev row : ℕ → Row
  row = row_at h.dimensions t

  -- the rows, as they are compared
  abbrev s : Rows
  s = held_rows h x t.columns t.upper_ends

  -- the places left
  abbrev left : List ℕ
  left = run e (h.held - e)

  -- the rows after the quote
  abbrev next : List Row
  next = rows_after h.dimensions h.directions h.capacity h.newest x (book_rows h t)

  abbrev after : Row → Row
  after = row_after h.dimensions h.directions x (h.newest + 1) (expiring h.newest h.capacity)

  abbrev new : Row
  new = record { position = h.newest + 1; lower_end = lower_end_among h.dimensions h.directions x (map row left); upper_end = 0; columns = x }

  pub next_is : next ≡ map after (map row left) ++ (new ∷ [])
  unfolding rows_after
  next_is = rw (left_is a)

  -- the numbers of rows over the quote
  numbers : filter (λ n. under s (n - 1)) (run (suc e) (h.held - e)) ≡ map suc (filter (under s) left)
  numbers =
      ap (filter (λ n. under s (n - 1))) (sym (run_suc e (h.held - e)))
      ∙ filter_map (λ n. under s (n - 1)) suc left
      ∙ ap (map suc) (filter_same (λ i. under s (suc i - 1)) (under s) e (h.held - e) (λ q u v. let z : suc q - 1 ≡ q = omega arith in rw z))

  -- the lower end
  pub lower_is : lower_end_among h.dimensions h.directions x (map row left) ≡ position_of h (youngest s e h.held)
  unfolding lower_end_among over_younger row_at under youngest position_of window_start Rattle.table_finding.specs.Found.row_at
  lower_is =
      rw (filter_map, map_map, numbers) (
      ap (last_or 0) (map_same (under s) (λ i. (row i).position) (λ i. suc (h.newest - h.held + i)) e (h.held - e) (λ q u v w. position_at_lem a q (omega (arith, places a)) ∙ omega (arith, held_is a, within a)))
      ∙ last_moved (h.newest - h.held) (filter (under s) left))

  -- the rows that are live before
  live_before : h.live ≡ live_in t.upper_ends 0 h.held
  unfolding live_rows is_live book_rows rows_in row_at live_in live
  live_before = (whole a).live_count ∙ rw filter_map (length-map (filter (live t.upper_ends) (run 0 h.held)) row)

  -- of those left some are retired
  live_left : length (filter is_live (map after (map row left))) + length (retired s e h.held) ≡ live_in t.upper_ends e (h.held - e)
  unfolding is_live row_after retired_by over_older row_at live_in live retired retires over Rattle.table_finding.specs.Found.row_at
  live_left =
      rw (filter_map, filter_map, length-map, length-map) (
      ap (λ (l : List ℕ). length l + length (filter (retires s) left))
      (filter_same (λ i. is_live (after (row i))) (λ i. live t.upper_ends i && not (over s i)) e (h.held - e) (λ q u v. kept_live (get_or t.upper_ends q 0) (h.newest + 1) (over s q) (omega arith)))
      ∙ split_counted (live t.upper_ends) (over s) left)

  new_live : length (filter is_live (new ∷ [])) ≡ 1
  unfolding filter is_live
  new_live = refl

  pub live_is : length (live_rows next) ≡ h.live - (live_in t.upper_ends 0 e + length (retired s e h.held)) + 1
  unfolding live_rows
  live_is = rw (next_is, filter_append, length-append, new_live) (omega (arith, live_before, live_parts t.upper_ends e h.held (places a).1, live_left))

  pub held_next : length next ≡ h.held - e + 1
  held_next = rw (next_is, length-append, length-map, length-map, length_run)

  -- the rows stand in their tables
  pub rows_fit : Fits s h.held
  rows_fit =
      let bounded : h.held ≤ h.capacity = (places a).2 in
      record {
        quoted = omega (arith, a.wide);
        columns = le_trans (mul-le-mul_right h.dimensions bounded) (long a).columns;
        uppers = omega (arith, bounded, (long a).upper_ends);
        bounded = omega (arith, bounded, (within a).small_capacity);
      }

  -- what is asked before the rows are compared with the quote
  pub findable : {places : List ℕ} → h.held ≤ length places → Findable h x t.columns t.upper_ends places
  findable k = record {
    below = a.below;
    some = (within a).some_capacity;
    bounded = (within a).small_capacity;
    full = held_is a;
    fits = rows_fit;
    counted = live_before;
    room = k;
  }

  module _ {places : List ℕ} {f : Finding} (v : Finds h x t.columns t.upper_ends places f) where
    -- the quote's lower end
    pub found_lower : f.lower ≡ lower_end_among h.dimensions h.directions x (filter (λ r. not (eqb r.position (expiring h.newest h.capacity))) (book_rows h t))
    found_lower = ap Finding.lower v.tells ∙ sym lower_is ∙ ap (lower_end_among h.dimensions h.directions x) (sym (left_is a))

    -- the rows live and held after it
    pub found_live : f.live ≡ length (live_rows next)
    found_live = ap Finding.live v.tells ∙ sym live_is

    pub found_held : f.held ≡ length next
    found_held = ap Finding.held v.tells ∙ sym held_next

    -- the places that expire, and the position
    pub found_by : f.by ≡ e
    found_by = ap Finding.by v.tells

    pub found_gone : f.gone ≡ expiring h.newest h.capacity
    found_gone = ap Finding.gone v.tells

    -- the places that may hold a lower end that names it
    pub found_named : f.named ≡ named_if f.reachable h t.upper_ends
    found_named = ap Finding.named v.tells
