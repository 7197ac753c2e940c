-- Where the rows of a book stand that is not torn, and which of them are left when a quote comes.
use mathlib.Core.Path.{◌≡◌, sym, ap, ◌∙◌}
use Prim.Native.Nat.{ℕ, suc, ◌+◌, ◌-◌, ◌≤◌, ◌<◌}
use native.Mathlib.Nat.{zero-add}
use native.Mathlib.Omega.{arith}
use mathlib.Core.Bool.{Bool, not}
use mathlib.Core.List.{List, map}
use lib.Dec.{eqb}
use lib.ListN.{length, length-map}
use borrow.Author.Tests.{eq-eqb, ne_eqb}
use Rattle.lists.specs.Lists.{filter, run, between}
use Rattle.lists.proofs.Filters.{filter_map, map_map, map-id}
use Rattle.lists.proofs.Runs.{filter_same, filter_all, filter_from}
use Rattle.skyline.specs.Skyline.{window_start}
use Rattle.head.specs.declared.Head.{Head}
use Rattle.head.specs.Heads.{last_position}
use Rattle.head.proofs.Settings.{Within}
use Rattle.model.specs.Rows.{Row, Tables, row_at, rows_in, expiring}
use Rattle.model.specs.Book.{book_rows}
use Rattle.model.proofs.Torn.{Whole, window_length}
use Rattle.call_judging.proofs.Answering.{Long, Passed, rows_counted}
use Rattle.call_settling.specs.Findings.{expired_places}
use Rattle.call_settling.proofs.Reading.{run_at}

-- quote x may be taken but for its output: neither 3 nor 11 nor 12 is said of the book, nor 4 nor 6 of the quote
pub record Admitted (h : Head) (x : List ℕ) (t : Tables) : Type 0 where
  pub passed : Passed h t
  pub wide : length x ≡ h.dimensions
  pub below : h.newest < last_position

module _ {h : Head} {x : List ℕ} {t : Tables} (a : Admitted h x t) where
  -- the newest position, the first one held, the one that expires, and how many places do
  abbrev M : ℕ
  M = h.newest

  abbrev S : ℕ
  S = window_start M h.capacity

  abbrev g : ℕ
  g = expiring M h.capacity

  abbrev e : ℕ
  e = expired_places h

  -- the row at a place
  abbrev row : ℕ → Row
  row = row_at h.dimensions t

  -- what the judgement says: the settings, the lengths, and that nothing is torn
  abbrev pub within : Within h.dimensions h.capacity
  within = a.passed.settings

  abbrev pub long : Long t h.dimensions h.capacity
  long = a.passed.long

  abbrev pub whole : Whole h (book_rows h t)
  whole = a.passed.whole

  -- as many rows as the window of N has positions
  pub held_is : h.held ≡ suc M - S
  held_is = rows_counted h t ∙ sym (length-map (book_rows h t) Row.position) ∙ ap length whole.window ∙ window_length h.capacity M

  -- at most one place expires, and a row is held there
  pub places : (e ≤ 1) × (e ≤ h.held) × (h.held ≤ h.capacity) × (h.held - e < h.capacity) × (h.held ≤ M) × (e + (h.held - e) ≡ h.held)
  unfolding expired_places window_start
  places = omega (arith, held_is, within.some_capacity)

  -- the position at a place
  pub position_at_lem : (i : ℕ) → i < h.held → (row i).position ≡ S + i
  unfolding book_rows rows_in row_at between
  position_at_lem i k =
      run_at (λ j. (row j).position) (λ p. p) h.held S (suc M - S) i (sym (map_map Row.position row (run 0 h.held)) ∙ whole.window ∙ sym (map-id (run S (suc M - S)))) k
      (omega (arith, held_is))

  -- the rows left when the expired one is gone stand at the places behind it
  pub left_is : filter (λ r. not (eqb r.position g)) (book_rows h t) ≡ map row (run e (h.held - e))
  unfolding book_rows rows_in expiring window_start expired_places
  left_is =
      let p = places in
      filter_map (λ r. not (eqb r.position g)) row (run 0 h.held)
      ∙ ap (map row)
      (filter_same (λ i. not (eqb (row i).position g)) stays 0 h.held (λ i u v. rw (position_at_lem i (omega arith)))
      ∙ ap (λ (n : ℕ). filter stays (run 0 n)) (sym p.5)
      ∙ filter_from stays 0 e (h.held - e) (λ q u v. rw (eq-eqb (S + q) g (omega (arith, held_is))))
      ∙ ap (λ (n : ℕ). filter stays (run n (h.held - e))) (zero-add e)
      ∙ filter_all stays e (h.held - e) (λ q u v. rw (ne_eqb (S + q) g (λ z. omega (arith, held_is)))))
    where
      stays : ℕ → Bool
      stays i = not (eqb (S + i) g)
