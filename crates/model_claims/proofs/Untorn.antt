-- Books that are not torn, whether calls left them or not: how a call on one is answered, what other records and a quote leave, and that a
-- held row is alone on the past list at its own place.
use mathlib.Core.Path.{◌≡◌, refl, sym, ap, subst, ◌∙◌}
use mathlib.Core.Logic.{◌⊎◌, inl, inr}
use Prim.Native.Nat.{ℕ, suc, ◌+◌, ◌-◌, ◌≤◌, ◌<◌}
use native.Mathlib.Nat.{le_refl}
use native.Mathlib.Omega.{arith}
use mathlib.Core.Bool.{Bool, true, false, ◌&&◌, ◌||◌, not, cond}
use mathlib.Core.List.Memᴰ
use mathlib.Core.List.{List, [], ◌∷◌, map, Memᴰ}
use lib.Dec.{ltb, leb, eqb}
use lib.ListN.{length}
use borrow.Author.Tests.{ltb-true, leb-true, eqb-true, eqb-false, not-false, lt-ltb, le-ltb, le-leb, eq-eqb, ne_eqb}
use Rattle.lists.specs.Lists.{filter, any, between, contains, rising, padded}
use Rattle.lists.proofs.Booleans.{and_left, and_right, and_false, none_left, none_right}
use Rattle.lists.proofs.Filters.{filter_map}
use Rattle.lists.proofs.Members.{mem_none, into_filter, filter_same_mem, into_map, mem_contains, contains_filter}
use Rattle.lists.proofs.Rising.{cons_rising, rising_between, rising_filter, rising_bounds, rising_ext}
use Rattle.lists.proofs.Writing.{length_padded}
use Rattle.skyline.specs.Skyline.{window_start}
use Rattle.skyline.specs.Past.{covers}
use Rattle.refusals.specs.Refusals.{first_of, granted}
use Rattle.refusals.proofs.Numbers.{zero_passed}
use Rattle.head.specs.declared.Head.{Head}
use Rattle.head.specs.Heads.{last_position, settings_hold, after_quote, torn_pair}
use Rattle.head.proofs.Settings.{settings_within}
use Rattle.model.specs.Rows.{Row, Tables, filled, listed, expiring, renamed, row_after, rows_after}
use Rattle.model.specs.Book.{short_loan, torn_rows, torn_watches, book_rows, past_list_of, watchful_answer, reply_of, quote_rows, quote_head, quote_answer, quote_reply, quote_tables, past_cells}
use Rattle.model.specs.Calls.{Quote, Outputs, World, book_seen, head_after, world_after, book_step, positions_in}
use Rattle.model.specs.Promises.{world}
use Rattle.model_claims.specs.Untorn.{Untorn, AloneInBook}
use Rattle.model.proofs.Tables.{length_read}
use Rattle.model.proofs.Records.{Records, eight_records_lem}
use Rattle.model.proofs.Sound.{watches_sound}
use Rattle.model.proofs.Torn.{Whole, lower_astray, upper_astray, upper_place, untorn_whole, whole_untorn}
use Rattle.model.proofs.LookAfter.{passed, whole_next, tables_after, long_after, rows_read, pair_after}
use Rattle.model.proofs.Simulation.{long_tables, long_records}

-- a call on a book that is not torn is answered by what it adds
pub judged_untorn : {w : World} → Untorn w → (more : List (Bool × ℕ)) → watchful_answer w.head w.lent.tables w.lent.watches more ≡ first_of more
unfolding watchful_answer first_of
judged_untorn u more = rw (u.settings, u.long, u.rows, u.pair, u.watches)

-- an accepted call was made on a book that is not torn
pub accepted_untorn : (h : Head) (t : Tables) (ws : List ℕ) (more : List (Bool × ℕ)) → watchful_answer h t ws more ≡ 0
    → Untorn (world h t ws) × (first_of more ≡ 0)
unfolding watchful_answer
accepted_untorn h t ws more e =
    let a = zero_passed _ _ _ e in
    let b = zero_passed _ _ _ a.1 in
    let c = zero_passed _ _ _ b.1 in
    let torn = torn_rows h (book_rows h t) in
    let book = none_left (torn || torn_pair h) (torn_watches h.capacity ws) c.0 in (
      record {
        settings = not-false (settings_hold h.dimensions h.capacity h.directions) a.0;
        long = b.0;
        rows = none_left torn (torn_pair h) book;
        pair = none_right torn (torn_pair h) book;
        watches = none_right (torn || torn_pair h) (torn_watches h.capacity ws) c.0;
      },
      c.1,
    )

-- a row at a position, its lower end at most this
pub record RowAt (p low : ℕ) (rs : List Row) : Type 0 where
  pub row : Row
  pub held : Memᴰ row rs
  pub at : row.position ≡ p
  pub lower : row.lower_end ≤ low

-- a lower end is not above what it was once a position has expired
renamed_low : (g lower low : ℕ) → lower ≤ low → renamed g lower ≤ low
unfolding renamed
renamed_low g lower low h = go (eqb lower g)
  where
    go : (b : Bool) → cond b 0 lower ≤ low
    go true = omega arith
    go false = h

-- a row on the list of a window stands in it
pub covers_within : (a b lower position upper : ℕ) → covers a b lower position upper ≡ true → (a ≤ position) × (position ≤ b)
unfolding covers
covers_within a b lower position upper t =
    let from = ltb lower a && leb a position in
    let in_window = and_left (from && leb position b) (eqb upper 0 || ltb b upper) t in (
      leb-true a position (and_right (ltb lower a) (leb a position) (and_left from (leb position b) in_window)),
      leb-true position b (and_right from (leb position b) in_window),
    )

-- a row at the end of a window is on its list if its lower end is before the window
covers_last : (a p lower upper : ℕ) → lower < a → a ≤ p → (upper ≡ 0) ⊎ (p < upper) → covers a p lower p upper ≡ true
unfolding covers
covers_last a p lower upper free from e = rw (lt-ltb lower a free, le-leb a p from, le-leb p p (le_refl p)) (open_above e)
  where
    or_true : (b : Bool) → b || true ≡ true
    or_true true = refl
    or_true false = refl

    open_above : (upper ≡ 0) ⊎ (p < upper) → eqb upper 0 || ltb p upper ≡ true
    open_above (inl z) = rw z
    open_above (inr z) = rw (lt-ltb p upper z) (or_true (eqb upper 0))

-- the number p alone of a rising list
one_alone : (lo hi p : ℕ) (l : List ℕ) → rising lo hi l ≡ true → Memᴰ p l → filter (eqb p) l ≡ p ∷ []
unfolding rising contains any
one_alone lo hi p l risen m =
    let b = rising_bounds lo hi p l risen m in
    rising_ext lo hi (filter (eqb p) l) (p ∷ []) (rising_filter (eqb p) lo hi l risen)
    (cons_rising lo hi p [] (record { low = b.0; high = b.1; rest = refl }))
    (λ q. contains_filter (eqb p) q l ∙ same q (eqb p q) refl)
  where
    same : (q : ℕ) (b : Bool) → eqb p q ≡ b → contains q l && b ≡ eqb q p || false
    same q true e = let s = eqb-true p q e in rw (← s, mem_contains p l m, eq-eqb p p refl)
    same q false e = rw (ne_eqb q p (λ z. eqb-false p q e (sym z))) (and_false (contains q l))

-- two heads have the same settings and the same pair
pub record SameSettings (h next : Head) : Type 0 where
  pub dimensions : next.dimensions ≡ h.dimensions
  pub capacity : next.capacity ≡ h.capacity
  pub directions : next.directions ≡ h.directions
  pub n1 : next.n1 ≡ h.n1
  pub n2 : next.n2 ≡ h.n2

module _ (w : World) (u : Untorn w) where
  -- head, tables, records and rows of the book
  abbrev h : Head
  h = w.head

  abbrev t : Tables
  t = w.lent.tables

  abbrev ws : List ℕ
  ws = w.lent.watches

  abbrev d : ℕ
  d = h.dimensions

  abbrev N : ℕ
  N = h.capacity

  abbrev M : ℕ
  M = h.newest

  abbrev rs : List Row
  rs = book_rows h t

  -- the first position of the window of N
  abbrev S : ℕ
  S = window_start M N

  pub some_capacity : 1 ≤ N
  some_capacity = (settings_within d N h.directions u.settings).some_capacity

  pub small_capacity : N ≤ 1024
  small_capacity = (settings_within d N h.directions u.settings).small_capacity

  rows_counted : length rs ≡ h.held
  unfolding book_rows
  rows_counted = length_read d h.held t

  pub whole : Whole h rs
  whole = untorn_whole h rs (sym rows_counted) some_capacity u.rows

  -- the window of N begins at most behind the newest position
  start_within : S ≤ suc M
  unfolding window_start
  start_within = omega (arith, some_capacity)

  -- with other records
  pub rewatched : (l : List ℕ) → Records N l → Untorn (world h t (padded 8 l ws))
  unfolding short_loan
  rewatched l r = record {
    settings = u.settings;
    long =
        rw (
          long_tables t ws d N u.long,
          length_padded 8 l ws (eight_records_lem r) (long_records t ws d N u.long),
          le-ltb (length ws) 8 (long_records t ws d N u.long),
        );
    rows = u.rows;
    pair = u.pair;
    watches = watches_sound N l ws r;
  }

  -- ends stand in their places
  pub row_lower : (r : Row) → Memᴰ r rs → r.lower_end < r.position
  row_lower r m = ltb-true r.lower_end r.position (not-false (ltb r.lower_end r.position) (mem_none lower_astray r rs m whole.lower_ends_lem))

  row_upper : (r : Row) → Memᴰ r rs → (r.upper_end ≡ 0) ⊎ (r.position < r.upper_end)
  row_upper r m = go (upper_place M r (mem_none (upper_astray M) r rs m whole.upper_ends_lem))
    where
      go : (r.upper_end ≡ 0) ⊎ ((r.position < r.upper_end) × (r.upper_end ≤ M)) → (r.upper_end ≡ 0) ⊎ (r.position < r.upper_end)
      go (inl e) = inl e
      go (inr e) = inr e.0

  -- a row is on the list of a window that ends with it, if its lower end is before the window
  pub listed_last : (a p low : ℕ) → RowAt p low rs → low < a → a ≤ p → Memᴰ p (listed a p rs)
  unfolding listed
  listed_last a p low r free from =
      let q = r.row in
      let l = r.lower in
      subst (λ (v : ℕ). Memᴰ v (listed a p rs)) r.at
      (into_map Row.position q (filter on rs)
      (into_filter on q rs r.held (rw r.at (covers_last a p q.lower_end q.upper_end (omega arith) from (rw r.at at (row_upper q r.held))))))
    where
      on : Row → Bool
      on s = covers a p s.lower_end s.position s.upper_end

  -- ---- a held row alone

  -- of all rows the one at a position is on the list of that position
  own_place : (p : ℕ) (r : Row) → Memᴰ r rs → covers p p r.lower_end r.position r.upper_end ≡ eqb p r.position
  own_place p r m = go (eqb p r.position) refl
    where
      on : Bool
      on = covers p p r.lower_end r.position r.upper_end

      off : eqb p r.position ≡ false → (b : Bool) → on ≡ b → on ≡ false
      off e true c =
          let i = covers_within p p r.lower_end r.position r.upper_end c in
          let a = i.0 in
          let b = i.1 in
          absurd (eqb-false p r.position e (omega arith))
      off e false c = c

      go : (b : Bool) → eqb p r.position ≡ b → on ≡ b
      go true e =
          let same = eqb-true p r.position e in
          let below = row_lower r m in
          rw (← same) (covers_last p p r.lower_end r.upper_end (omega arith) (le_refl p) (rw (← same) at (row_upper r m)))
      go false e = off e on refl

  place_alone : (p : ℕ) → Memᴰ p (between S M) → listed p p rs ≡ p ∷ []
  unfolding listed
  place_alone p m =
      ap (map Row.position) (filter_same_mem (λ r. covers p p r.lower_end r.position r.upper_end) (λ r. eqb p r.position) rs (own_place p))
      ∙ sym (filter_map (eqb p) Row.position rs)
      ∙ ap (filter (eqb p)) whole.window
      ∙ one_alone S M p (between S M) (rising_between S M start_within) m

  -- a held position is the past list with n1 and n2 at its own place, an n from 1 to N
  pub held_alone_untorn : (p : ℕ) → Memᴰ p (positions_in w) → AloneInBook w p
  unfolding past_cells past_list_of window_start
  held_alone_untorn p m =
      let at-window = rw whole.window at m in
      let b = rising_bounds S M p (between S M) (rising_between S M start_within) at-window in
      let low = b.0 in
      let high = b.1 in
      let a : window_start M (M + 1 - p) ≡ p = omega arith in
      let e : M + 1 - (M + 1 - p) ≡ p = omega arith in
      record {
        some = omega arith;
        most = omega arith;
        alone = rw (a, e) (place_alone p at-window);
      }

  -- ---- a quote

  module _ (x : List ℕ) (o : Outputs) (accepted : quote_answer h x t ws (length o.bytes) ≡ 0) where
    -- the rows after it
    abbrev after : List Row
    after = quote_rows h x t ws

    abbrev next : World
    next = (book_step (Quote x) o w).1

    pub next_is : next ≡ world (quote_head h x t ws) (filled d N after t) ws
    unfolding book_seen head_after world_after book_step quote_reply reply_of quote_tables granted
    next_is = rw accepted

    -- the head after it
    pub head_after_lem : ((quote_head h x t ws).newest ≡ M + 1) × ((quote_head h x t ws).held ≡ length after) × SameSettings h (quote_head h x t ws)
    unfolding quote_head after_quote
    head_after_lem =
        rw (lt-ltb M last_position (passed h x t ws _ accepted).5)
        (refl, refl, record { dimensions = refl; capacity = refl; directions = refl; n1 = refl; n2 = refl })

    -- the rows are read back
    rows_after_lem : book_rows next.head next.lent.tables ≡ after
    rows_after_lem = rw (next_is, ← tables_after h x t ws _ accepted) (rows_read h x t ws _ accepted)

    -- a quote on a book that is not torn leaves one that is not
    pub untorn_after : Untorn next
    unfolding short_loan
    untorn_after =
        let s = head_after_lem.2 in
        rw next_is record {
          settings = rw (s.dimensions, s.capacity, s.directions) u.settings;
          long = rw (s.dimensions, s.capacity, long_after h x t ws _ accepted) u.long;
          rows = rw (rw next_is at rows_after_lem) (whole_untorn (quote_head h x t ws) after head_after_lem.1 (rw s.capacity some_capacity) (whole_next h x t ws _ accepted));
          pair = pair_after h x t ws _ accepted;
          watches = rw s.capacity u.watches;
        }

    row_after_lem : (p low : ℕ) → RowAt p low rs → (p ≡ expiring M N → ⊥) → RowAt p low after
    unfolding quote_rows rows_after row_after
    row_after_lem p low r kept =
        let g = expiring M N in
        let on : Row → Bool = λ q. not (eqb q.position g) in
        record {
          row = row_after d h.directions x (M + 1) g r.row;
          held =
              Memᴰ.append_left _
              (into_map (row_after d h.directions x (M + 1) g) r.row (filter on rs) (into_filter on r.row rs r.held (rw (r.at, ne_eqb p g kept))));
          at = r.at;
          lower = renamed_low g r.row.lower_end low r.lower;
        }

    -- a row that does not expire stays, with its lower end or without
    pub row_stays : (p low : ℕ) → RowAt p low rs → (p ≡ expiring M N → ⊥) → RowAt p low (book_rows next.head next.lent.tables)
    row_stays p low r kept = rw rows_after_lem (row_after_lem p low r kept)
