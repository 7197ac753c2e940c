-- The changes of the pair at a quote, on any rows that are not torn: which rows leave its past list and which join it, by place and ends.
use mathlib.Core.Path.{◌≡◌, sym, ap, ◌∙◌}
use mathlib.Core.Logic.{◌⊎◌, inl, inr}
use Prim.Native.Nat.{ℕ, suc, ◌+◌, ◌-◌, ◌≤◌, ◌<◌}
use native.Mathlib.Nat.{zero-add, add-zero, le_trans}
use native.Mathlib.Omega.{arith}
use mathlib.Core.Bool.{Bool, true, false, ◌&&◌, cond}
use mathlib.Core.List.{List, [], ◌++◌, map, Memᴰ}
use lib.Dec.{ltb, eqb}
use lib.ListN.{length, get_or, length-map}
use borrow.Author.Tests.{lt-ltb, ltb-true, not-false}
use Rattle.lists.specs.Lists.{keep, filter, run, between}
use Rattle.lists.proofs.Filters.{filter_map, map_map, map-id}
use Rattle.lists.proofs.Members.{mem_none, into_map}
use Rattle.lists.proofs.Runs.{length_run, get_or_run, filter_same, filter_places, map_same, into_run}
use Rattle.skyline.specs.Skyline.{window_start}
use Rattle.skyline.specs.Past.{covers}
use Rattle.skyline.proofs.Shifted.{Moves, above_or_none, shifted_leaves, shifted_joins}
use Rattle.head.specs.declared.Head.{Head}
use Rattle.head.specs.Heads.{last_position, after_quote}
use Rattle.model.specs.Rows.{Row, Tables, row_at, rows_in, live_rows, listed, expiring}
use Rattle.model.specs.Changes.{pair_leave, pair_join, missing, changes_by, pair_changes}
use Rattle.model.specs.Book.{book_rows, past_list_of, pair_stands, pair_list_of, quote_rows, quote_head}
use Rattle.model.proofs.Torn.{Whole, PairWithin, lower_astray, upper_astray, upper_place}
use Rattle.table_listing.proofs.UntornLists.{past_after}
use Rattle.model.proofs.ChangesFit.{onward}

-- ---- rows by their places

module _ (h : Head) (t : Tables) (w : Whole h (book_rows h t)) where
  -- the first position of the window of N
  abbrev first : ℕ
  first = window_start h.newest h.capacity

  -- the positions, place by place
  places_are : map (λ i. get_or t.positions i 0) (run 0 h.held) ≡ run first (suc h.newest - first)
  unfolding book_rows rows_in row_at between
  places_are = sym (map_map Row.position (row_at h.dimensions t) (run 0 h.held)) ∙ w.window

  held_is : h.held ≡ suc h.newest - first
  held_is =
      sym (length-map (run 0 h.held) (λ i. get_or t.positions i 0) ∙ length_run 0 h.held)
      ∙ ap length places_are
      ∙ length_run first (suc h.newest - first)

  -- the rows fill the positions from the first to the newest
  pub places_full : h.newest + 1 ≡ first + h.held
  unfolding window_start
  places_full = omega (arith, held_is)

  -- the row at place i has position first + i
  pub place_at : (i : ℕ) → i < h.held → get_or t.positions i 0 ≡ first + i
  place_at i l =
      ap (λ (k : ℕ). get_or t.positions k 0) (sym (zero-add i))
      ∙ sym (get_or_run (λ k. get_or t.positions k 0) 0 0 h.held i l)
      ∙ ap (λ (c : List ℕ). get_or c i 0) (places_are ∙ sym (map-id (run first (suc h.newest - first))))
      ∙ get_or_run (λ k. k) 0 first (suc h.newest - first) i (omega (arith, held_is))

  -- the ends of the row at a position
  abbrev lower : ℕ → ℕ
  lower p = get_or t.lower_ends (p - first) 0

  abbrev upper : ℕ → ℕ
  upper p = get_or t.upper_ends (p - first) 0

  row_in : (i : ℕ) → i < h.held → Memᴰ (row_at h.dimensions t i) (book_rows h t)
  unfolding book_rows rows_in
  row_in i l = into_map (row_at h.dimensions t) i (run 0 h.held) (into_run 0 h.held i (omega arith) (omega arith))

  -- they are in their places
  lower_placed : (p : ℕ) → first ≤ p → p < first + h.held → lower p < p
  unfolding row_at
  lower_placed p u v =
      let i = p - first in
      let r = row_at h.dimensions t i in
      let at = place_at i (omega arith) in
      let right = mem_none lower_astray r (book_rows h t) (row_in i (omega arith)) w.lower_ends_lem in
      let below = ltb-true (lower p) (get_or t.positions i 0) (not-false (ltb (lower p) (get_or t.positions i 0)) right) in
      omega arith

  upper_placed : (p : ℕ) → first ≤ p → p < first + h.held → (upper p ≡ 0) ⊎ (p < upper p)
  unfolding row_at
  upper_placed p u v =
      let i = p - first in
      let r = row_at h.dimensions t i in
      go (place_at i (omega arith)) (upper_place h.newest r (mem_none (upper_astray h.newest) r (book_rows h t) (row_in i (omega arith)) w.upper_ends_lem))
    where
      go : get_or t.positions (p - first) 0 ≡ first + (p - first) → (upper p ≡ 0) ⊎ ((get_or t.positions (p - first) 0 < upper p) × (upper p ≤ h.newest))
          → (upper p ≡ 0) ⊎ (p < upper p)
      go e (inl z) = inl z
      go e (inr s) = inr (let b = s.0 in omega arith)

  -- the list of a window, by the positions that the rows fill
  listed_positions : (a b : ℕ) → listed a b (book_rows h t) ≡ filter (λ p. covers a b (lower p) p (upper p)) (run first h.held)
  unfolding listed book_rows rows_in row_at
  listed_positions a b =
      ap (map Row.position) (filter_map (λ r. covers a b r.lower_end r.position r.upper_end) (row_at h.dimensions t) (run 0 h.held))
      ∙ map_map Row.position (row_at h.dimensions t) (filter on (run 0 h.held))
      ∙ ap (map (λ i. get_or t.positions i 0)) (filter_same on at 0 h.held (λ i _ l. rw (place_at i (omega arith))))
      ∙ map_same at (λ i. get_or t.positions i 0) (λ i. first + i) 0 h.held (λ i _ l _. place_at i (omega arith))
      ∙ sym (ap (λ (f : ℕ). filter (λ p. covers a b (lower p) p (upper p)) (run f h.held)) (sym (add-zero first)) ∙ shifted)
    where
      on : ℕ → Bool
      on i = covers a b (get_or t.lower_ends i 0) (get_or t.positions i 0) (get_or t.upper_ends i 0)

      at : ℕ → Bool
      at i = covers a b (get_or t.lower_ends i 0) (first + i) (get_or t.upper_ends i 0)

      shifted : filter (λ p. covers a b (lower p) p (upper p)) (run (first + 0) h.held) ≡ map (λ i. first + i) (filter at (run 0 h.held))
      shifted =
          filter_same (λ p. covers a b (lower p) p (upper p)) (λ p. at (p - first)) (first + 0) h.held
          (λ p u v. let e : p ≡ first + (p - first) = omega arith in ap (λ (q : ℕ). covers a b (lower p) q (upper p)) e)
          ∙ filter_places at first 0 h.held

-- a test of the places from that of a position on
by_places : (first : ℕ) (g : ℕ → Bool) (a k : ℕ) → first ≤ a → filter (λ p. g (p - first)) (run a k) ≡ map (λ i. first + i) (filter g (run (a - first) k))
by_places first g a k h =
    let mid : a ≡ first + (a - first) = omega arith in
    ap (λ (s : ℕ). filter (λ p. g (p - first)) (run s k)) mid ∙ filter_places g first (a - first) k

-- ---- the window of the pair

-- the start and the end of the pair's window before a quote, and after it
abbrev pub start_before : Head → ℕ
start_before h = window_start h.newest h.n2

abbrev pub end_before : Head → ℕ
end_before h = h.newest + 1 - h.n1

abbrev pub start_after : Head → ℕ
start_after h = window_start (h.newest + 1) h.n2

abbrev pub end_after : Head → ℕ
end_after h = h.newest + 1 + 1 - h.n1

-- of rows with these ends, the row at place 0 at this first position: the positions that leave the list as its window moves from a to b on to a'
-- to b'
abbrev pub gone : (first a a' b b' : ℕ) (lowers uppers : List ℕ) → List ℕ
gone first a a' b b' lowers uppers =
    keep (ltb a a' && above_or_none b (get_or uppers (a - first) 0)) a []
    ++ map (λ i. first + i) (filter (λ i. eqb (get_or uppers i 0) b' && ltb (get_or lowers i 0) a) (run (a' - first) (suc b - a')))

-- and those that join it
abbrev pub come : (first a a' b b' : ℕ) (lowers uppers : List ℕ) → List ℕ
come first a a' b b' lowers uppers =
    cond (ltb a a') (map (λ i. first + i) (filter (λ i. eqb (get_or lowers i 0) a && above_or_none b' (get_or uppers i 0)) (run (a' - first) (suc b - a')))) []
    ++ keep (ltb b b' && ltb (get_or lowers (b' - first) 0) a') b' []

-- the window of the pair moves on by one or stays, inside the window of N
module _ (M N n1 n2 : ℕ) (two : 2 ≤ n1) (order : n1 ≤ n2) (most : n2 ≤ N) where
  starts_move : (window_start M N ≤ window_start M n2) × (window_start M n2 ≤ window_start (M + 1) n2) × (window_start (M + 1) n2 ≤ suc (window_start M n2))
  unfolding window_start
  starts_move = (omega arith, omega arith, omega arith)

  ends_move : (M + 1 - n1 ≤ M + 1 + 1 - n1) × (M + 1 + 1 - n1 ≤ suc (M + 1 - n1)) × (M + 1 + 1 - n1 ≤ M)
  ends_move = (omega arith, omega arith, omega arith)

  starts_ends : (window_start (M + 1) n2 ≤ suc (M + 1 - n1)) × (window_start M n2 < window_start (M + 1) n2 → window_start M n2 ≤ M + 1 - n1)
  unfolding window_start
  starts_ends = (omega arith, λ k. omega arith)

  ends_starts : (M + 1 - n1 < M + 1 + 1 - n1 → window_start (M + 1) n2 ≤ M + 1 + 1 - n1) × (M + 1 + 1 - n1 ≤ M + 1 - n1 → M + 1 - n1 < window_start (M + 1) n2)
  unfolding window_start
  ends_starts = (λ k. omega arith, λ k. omega arith)

module _ (h : Head) (t : Tables) (w : Whole h (book_rows h t)) (within : PairWithin h.n1 h.n2 h.capacity) where
  pub pair_moves : Moves (window_start h.newest h.capacity) h.held (start_before h) (start_after h) (end_before h) (end_after h)
  pair_moves =
      let s = starts_move h.newest h.capacity h.n1 h.n2 within.two within.order within.most in
      let e = ends_move h.newest h.capacity h.n1 h.n2 within.two within.order within.most in
      let se = starts_ends h.newest h.capacity h.n1 h.n2 within.two within.order within.most in
      let es = ends_starts h.newest h.capacity h.n1 h.n2 within.two within.order within.most in
      record {
        inside = s.0;
        start = s.1;
        start_by_one = s.2;
        end = e.0;
        end_by_one = e.1;
        near = se.0;
        held = below (end_after h) e.2 (places_full h t w);
        old_start = se.1;
        new_end = es.0;
        still_empty = es.1;
      }
    where
      below : (b : ℕ) → b ≤ h.newest → h.newest + 1 ≡ window_start h.newest h.capacity + h.held → b < window_start h.newest h.capacity + h.held
      below b k full = omega arith

  -- the first position held
  abbrev S : ℕ
  S = window_start h.newest h.capacity

  -- the window of the pair before the quote is a to b, that after it a' to b'
  abbrev a : ℕ
  a = start_before h

  abbrev b : ℕ
  b = end_before h

  abbrev a' : ℕ
  a' = start_after h

  abbrev b' : ℕ
  b' = end_after h

  from_first : S ≤ a'
  from_first = le_trans pair_moves.inside pair_moves.start

  module _ (x ws : List ℕ) (stands : pair_stands h ≡ true) (room : h.newest < last_position) where
    -- the past list of the pair before the quote
    pub pair_list_before : pair_list_of h (book_rows h t) ≡ listed a b (book_rows h t)
    unfolding pair_list_of past_list_of
    pair_list_before = rw stands

    -- that after the quote is one of the rows before it: the new quote's columns do not matter
    pub pair_list_after : pair_list_of (quote_head h x t ws) (quote_rows h x t ws) ≡ listed a' b' (book_rows h t)
    unfolding pair_list_of past_list_of pair_stands quote_head after_quote quote_rows window_start expiring
    pair_list_after =
        let two = within.two in
        let most = within.most in
        rw (lt-ltb h.newest last_position room, stands)
        (past_after h.dimensions h.directions h.capacity h.newest x (book_rows h t) a' b' (omega arith) (omega arith))

    -- the positions that leave it
    pub pair_leaves_are : missing (pair_list_of h (book_rows h t)) (pair_list_of (quote_head h x t ws) (quote_rows h x t ws))
        ≡ gone S a a' b b' t.lower_ends t.upper_ends
    unfolding missing
    pair_leaves_are =
        rw (pair_list_before, pair_list_after, listed_positions h t w a b, listed_positions h t w a' b')
        (shifted_leaves (lower h t w) (upper h t w) S h.held a a' b b' pair_moves (lower_placed h t w) (upper_placed h t w)
        ∙ ap (λ (l : List ℕ). keep (ltb a a' && above_or_none b (get_or t.upper_ends (a - S) 0)) a [] ++ l)
        (by_places S (λ i. eqb (get_or t.upper_ends i 0) b' && ltb (get_or t.lower_ends i 0) a) a' (suc b - a') from_first))

    -- the positions that join it
    pub pair_joins_are : missing (pair_list_of (quote_head h x t ws) (quote_rows h x t ws)) (pair_list_of h (book_rows h t))
        ≡ come S a a' b b' t.lower_ends t.upper_ends
    unfolding missing
    pair_joins_are =
        rw (pair_list_before, pair_list_after, listed_positions h t w a b, listed_positions h t w a' b')
        (shifted_joins (lower h t w) (upper h t w) S h.held a a' b b' pair_moves (lower_placed h t w) (upper_placed h t w)
        ∙ ap (λ (l : List ℕ). cond (ltb a a') l [] ++ keep (ltb b b' && ltb (get_or t.lower_ends (b' - S) 0) a') b' [])
        (by_places S (λ i. eqb (get_or t.lower_ends i 0) a && above_or_none b' (get_or t.upper_ends i 0)) a' (suc b - a') from_first))

    -- so the changes of the pair are
    pub pair_changes_are : pair_changes (pair_list_of h (book_rows h t)) (pair_list_of (quote_head h x t ws) (quote_rows h x t ws))
        ≡ map pair_leave (gone S a a' b b' t.lower_ends t.upper_ends) ++ map pair_join (come S a a' b b' t.lower_ends t.upper_ends)
    unfolding pair_changes changes_by
    pair_changes_are = rw (pair_leaves_are, pair_joins_are)

-- a quote keeps the pair
stands_after : (h : Head) (x : List ℕ) (t : Tables) (ws : List ℕ) → pair_stands (quote_head h x t ws) ≡ pair_stands h
unfolding pair_stands quote_head
stands_after h x t ws = rw (onward h (length (live_rows (quote_rows h x t ws))) (length (quote_rows h x t ws))).first

-- where no pair is watched there are none
pub pair_changes_none : (h : Head) (x : List ℕ) (t : Tables) (ws : List ℕ) → pair_stands h ≡ false
    → pair_changes (pair_list_of h (book_rows h t)) (pair_list_of (quote_head h x t ws) (quote_rows h x t ws)) ≡ []
unfolding pair_changes changes_by missing filter pair_list_of
pair_changes_none h x t ws e = rw (stands_after h x t ws, e)
