-- A look directly behind an accepted quote, on any tables: none of 3, 11 and 12 is said of the book that the quote leaves, and its list of n
-- has at most n positions.
use mathlib.Core.Path.{◌≡◌, refl, sym, ap, ◌∙◌}
use mathlib.Core.Logic.{◌⊎◌, inl, inr}
use Prim.Native.Nat.{ℕ, suc, ◌+◌, ◌-◌, ◌*◌, ◌≤◌, ◌<◌}
use native.Mathlib.Omega.{arith}
use mathlib.Core.Bool.{Bool, true, false, ◌&&◌, ◌||◌, not}
use mathlib.Core.List.Memᴰ
use mathlib.Core.List.{List, [], ◌∷◌, map, Memᴰ}
use lib.Dec.{ltb, leb, eqb}
use lib.ListN.{length, length-map}
use borrow.Author.Tests.{ltb-false, leb-false, lt-leb, le-leb, eqb-true, not-false, lt-ltb}
use Rattle.lists.specs.Lists.{filter, run, between}
use Rattle.lists.proofs.Booleans.{agree, and_right, both, none_left, none_right}
use Rattle.lists.proofs.Filters.{filter_filter, filter_map, length_filter}
use Rattle.lists.proofs.Members.{of_filter, filter_same_mem, of_map}
use Rattle.lists.proofs.Runs.{length_run, filter_from}
use Rattle.skyline.specs.Skyline.{window_start}
use Rattle.skyline.specs.Past.{covers}
use Rattle.skyline.proofs.Past.{of_covers}
use Rattle.head.specs.declared.Head.{Head}
use Rattle.head.specs.Heads.{settings_hold, torn_pair, after_quote, last_position}
use Rattle.head.proofs.Settings.{settings_within}
use Rattle.refusals.specs.declared.Refusal.TheVariants.{WindowSize, ShortOutput}
use Rattle.refusals.specs.Refusals.{number, first_of}
use Rattle.refusals.proofs.Numbers.{zero_passed, accepted_granted}
use Rattle.model.specs.Rows.{Row, Tables, filled, live_rows, listed, expiring, row_after, lower_end_among, rows_after}
use Rattle.model.specs.Book.{short_tables, torn_rows, torn_watches, book_rows, list_of, answer_of, watchful_answer, out_of_range, quote_rows, quote_head, quote_answer, quote_tables, look_cells, look_answer, both_list}
use Rattle.model.proofs.Tables.{Fit, rows_filled, filled_long, length_read, read_fit}
use Rattle.model.proofs.Torn.{Whole, untorn_whole, whole_untorn, window_bounded}
use Rattle.model.proofs.QuoteUntorn.{whole_after, pair_untorn}
use Rattle.model.proofs.Simulation.{long_tables}

-- ---- a list of n has at most n positions

-- of the numbers up to M those from the start of the window of n on are at most n
from_start : (S M n : ℕ) → length (filter (leb (window_start M n)) (between S M)) ≤ n
unfolding between window_start
from_start S M n =
    let a = window_start M n in
    let cut : suc M - S ≡ (a - S) + (suc M - S - (a - S)) = omega arith in
    rw (ap (λ (k : ℕ). filter (leb a) (run S k)) cut ∙ filter_from (leb a) S (a - S) (suc M - S - (a - S)) (λ q u v. lt-leb a q (omega arith)))
    (omega (arith, length_filter (leb a) (run (S + (a - S)) (suc M - S - (a - S))), length_run (S + (a - S)) (suc M - S - (a - S))))

-- so has the list of n of rows that are not torn
pub list_most : (h : Head) (rs : List Row) (n : ℕ) → Whole h rs → length (list_of h rs n) ≤ n
unfolding list_of listed
list_most h rs n w =
    rw (length-map (filter on rs) Row.position)
    (omega (
      arith,
      ap length (filter_same_mem on (λ r. from r && on r) rs (λ r m. within r) ∙ sym (filter_filter on from rs)),
      length_filter on (filter from rs),
      sym (length-map (filter from rs) Row.position),
      ap length (sym (filter_map (leb a) Row.position rs) ∙ ap (filter (leb a)) w.window),
      from_start (window_start h.newest h.capacity) h.newest n,
    ))
  where
    a : ℕ
    a = window_start h.newest n

    on : Row → Bool
    on r = covers a h.newest r.lower_end r.position r.upper_end

    from : Row → Bool
    from r = leb a r.position

    within : (r : Row) → on r ≡ from r && on r
    within r =
        agree (on r) (from r && on r)
        (λ t. both (from r) (on r) (le-leb a r.position (of_covers a h.newest r.lower_end r.position r.upper_end t).start) t)
        (λ t. and_right (from r) (on r) t)

-- ---- what an accepted quote leaves

module _ (h : Head) (x : List ℕ) (t : Tables) (ws : List ℕ) (room : ℕ) (accepted : quote_answer h x t ws room ≡ 0) where
  abbrev d : ℕ
  d = h.dimensions

  abbrev N : ℕ
  N = h.capacity

  abbrev M : ℕ
  M = h.newest

  -- the rows before the quote and after it, and the head after it
  abbrev rs : List Row
  rs = book_rows h t

  abbrev after : List Row
  after = quote_rows h x t ws

  abbrev next : Head
  next = quote_head h x t ws

  -- the book was not torn, and the quote was neither 4 nor 6
  pub passed : (settings_hold d N h.directions ≡ true) × (short_tables t d N ≡ false) × (torn_rows h rs ≡ false) × (torn_pair h ≡ false)
      × (length x ≡ d) × (M < last_position)
  unfolding quote_answer watchful_answer
  passed =
      let a = zero_passed _ _ _ accepted in
      let b = zero_passed _ _ _ a.1 in
      let c = zero_passed _ _ _ b.1 in
      let f = zero_passed _ _ _ c.1 in
      let torn = torn_rows h rs in
      let book = none_left (torn || torn_pair h) (torn_watches N ws) c.0 in (
        not-false (settings_hold d N h.directions) a.0,
        long_tables t ws d N b.0,
        none_left torn (torn_pair h) book,
        none_right torn (torn_pair h) book,
        eqb-true (length x) d (not-false (eqb (length x) d) f.0),
        leb-false last_position M (zero_passed _ _ _ f.1).0,
      )

  some_capacity : 1 ≤ N
  some_capacity = (settings_within d N h.directions passed.0).some_capacity

  -- the head after it
  pub head_after_lem : (next.newest ≡ M + 1) × (next.held ≡ length after) × (next.dimensions ≡ d) × (next.capacity ≡ N) × (next.directions ≡ h.directions)
  unfolding quote_head after_quote
  head_after_lem = rw (lt-ltb M last_position passed.5) (refl, refl, refl, refl, refl)

  counted : h.held ≡ length rs
  unfolding book_rows
  counted = sym (length_read d h.held t)

  whole : Whole h rs
  whole = untorn_whole h rs counted some_capacity passed.2

  -- the rows after it are not torn
  pub whole_next : Whole next after
  unfolding quote_head quote_rows
  whole_next = whole_after h x rs some_capacity passed.5 whole

  after_bounded : length after ≤ N
  after_bounded =
      let e = head_after_lem.3 in
      omega (arith, length-map after Row.position, ap length whole_next.window, e, window_bounded next.capacity (rw e some_capacity) next.newest)

  fit_before : Fit d rs
  unfolding book_rows short_tables
  fit_before =
      let c = ltb (length t.columns) (N * d) in
      let p = ltb (length t.positions) N in
      let l = ltb (length t.lower_ends) N in
      read_fit d N h.held t (omega (arith, counted, length-map rs Row.position, ap length whole.window, window_bounded N some_capacity M))
      (ltb-false (length t.columns) (N * d) (none_left c p (none_left (c || p) l (none_left (c || p || l) (ltb (length t.upper_ends) N) passed.1))))

  -- each has d columns
  fit_after : Fit d after
  unfolding quote_rows rows_after row_after
  fit_after r m = go (Memᴰ.append_cases (map moved left) m)
    where
      g : ℕ
      g = expiring M N

      left : List Row
      left = filter (λ q. not (eqb q.position g)) rs

      moved : Row → Row
      moved = row_after d h.directions x (M + 1) g

      new : Row
      new = record { position = M + 1; lower_end = lower_end_among d h.directions x left; upper_end = 0; columns = x }

      go : Memᴰ r (map moved left) ⊎ Memᴰ r (new ∷ []) → length r.columns ≡ d
      go (inl n) =
          let q = of_map moved r left n in
          rw q.2 (fit_before q.0 (of_filter (λ q. not (eqb q.position g)) q.0 rs q.1).0)
      go (inr n) = rw (Memᴰ.eq_of_singleton n) passed.4

  -- the tables after it
  pub tables_after : quote_tables h x t ws room ≡ filled d N after t
  unfolding quote_tables
  tables_after = accepted_granted (quote_answer h x t ws room) accepted (filled d N after t) t

  -- they are as long as they were
  pub long_after : short_tables (filled d N after t) d N ≡ short_tables t d N
  long_after = filled_long d N after t after_bounded fit_after passed.1 d N

  -- the rows are read back
  pub rows_read : book_rows next (quote_tables h x t ws room) ≡ after
  unfolding book_rows
  rows_read = rw (tables_after, head_after_lem.1, head_after_lem.2) (rows_filled d N after t after_bounded fit_after)

  -- the pair is not torn
  pub pair_after : torn_pair next ≡ false
  unfolding quote_head
  pair_after = pair_untorn h (length (live_rows after)) (length after) ∙ passed.3

  -- a call on the tables is answered by what it adds
  pub judged_after : (more : List (Bool × ℕ)) → answer_of next (quote_tables h x t ws room) more ≡ first_of more
  unfolding answer_of first_of
  judged_after more =
      let e = head_after_lem in
      rw (
        rows_read,
        whole_untorn next after e.1 (rw e.3 some_capacity) whole_next,
        pair_after,
        e.2,
        e.3,
        e.4,
        passed.0,
        tables_after,
        long_after,
        passed.1,
      )

  -- ---- a look

  module _ (n : ℕ) where
    -- the list of n after it is that of the rows after it
    pub list_after_quote : both_list h x n t ws room ≡ list_of next after n
    unfolding both_list look_cells
    list_after_quote = ap (λ (l : List Row). list_of next l n) rows_read

    -- and has at most n positions
    pub both_list_most : length (both_list h x n t ws room) ≤ n
    both_list_most = rw list_after_quote (list_most next after n whole_next)

    range_after : out_of_range next n ≡ out_of_range h n
    unfolding out_of_range
    range_after = rw head_after_lem.3

    -- a look behind it says neither 3 nor 11 nor 12
    pub look_after_quote : (space : ℕ)
        → look_answer next n (quote_tables h x t ws room) space
        ≡ first_of ((out_of_range h n, number WindowSize) ∷ (ltb space (length (both_list h x n t ws room)), number ShortOutput) ∷ [])
    unfolding look_answer both_list
    look_after_quote space = judged_after _ ∙ rw range_after
