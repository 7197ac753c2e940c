-- How many changes a quote can write, on any tables that are not torn: for a watch at most one for each live row before and one for the new
-- row, for the pair at most one for each row.
use mathlib.Core.Path.{◌≡◌, refl, sym, ap, ◌∙◌}
use mathlib.Core.Logic.{◌⊎◌, inl, inr}
use Prim.Native.Nat.{ℕ, suc, ◌+◌, ◌-◌, ◌*◌, ◌≤◌, ◌<◌}
use native.Mathlib.Nat.{le_refl}
use native.Mathlib.Omega.{arith}
use mathlib.Core.Bool.{Bool, true, false, ◌&&◌, ◌||◌, not, cond}
use mathlib.Core.List.Memᴰ
use mathlib.Core.List.{List, [], ◌∷◌, ◌++◌, map, Memᴰ}
use lib.Dec.{ltb, eqb}
use lib.ListN.{length, take, length-append, length-take, length-map}
use borrow.Author.Tests.{eqb-true, eq-eqb, ne_eqb}
use Rattle.lists.specs.Lists.{filter, any, flat, run, contains, rising}
use Rattle.lists.proofs.Booleans.{and_left, or_left, or_right}
use Rattle.lists.proofs.Filters.{length_filter, map-append, map_map}
use Rattle.lists.proofs.Members.{mem_none, into_filter, of_filter, into_map, of_map, contains_mem, mem_contains, contains_filter}
use Rattle.lists.proofs.Runs.{length_run}
use Rattle.lists.proofs.Rising.{rising_between, rising_filter}
use Rattle.lists.proofs.Apart.{parts_fit, rising_map_filter, rising_snoc, rising_wide, contains_map_filter, contains_append}
use Rattle.skyline.specs.Skyline.{window_start}
use Rattle.skyline.specs.Past.{covers}
use Rattle.skyline.proofs.Past.{of_covers}
use Rattle.head.specs.declared.Head.{Head}
use Rattle.head.specs.Heads.{settings_hold, after_quote, torn_pair, last_position}
use Rattle.head.proofs.Settings.{Within, settings_within}
use Rattle.head.specs.declared.Desk.{Desk}
use Rattle.head.specs.Desks.{desk_in, size_in, watch_of}
use Rattle.frames.specs.declared.Message.{Message}
use Rattle.frame_kinds.specs.Kinds.{pair_join_kind}
use Rattle.frames.proofs.RoundTrips.{change_length_lem, position_length}
use Rattle.model.specs.Rows.{Row, Tables, row_at, rows_in, is_live, live_rows, listed, expiring, over_older, retired_by, row_after, lower_end_among, rows_after}
use Rattle.model.specs.Changes.{join_kind_of, leave, join, pair_leave, pair_join, missing, changes_by, changes, all_changes, pair_changes, frames, change_room}
use Rattle.model.specs.Book.{torn_rows, standing, book_rows, past_list_of, list_of, pair_stands, pair_list_of, quote_rows, quote_head, quote_bytes, ChangesFit, watch_bytes, pair_bytes}
use Rattle.model.proofs.Torn.{Whole, upper_astray, upper_place, pair_within, window_bounded, untorn_whole}
use Rattle.model.proofs.ChangeFrames.{frames_append, frames_bytes, changes_bytes, pair_bytes_lem}

or-false : (b : Bool) → b || false ≡ b
or-false true = refl
or-false false = refl

-- leaves and joins of two rising lists are no more than the members of a rising list that has those of both
changes_among_lem : (lo hi : ℕ) (leaves joins : ℕ → Message) (before after all : List ℕ)
    → rising lo hi before ≡ true → rising lo hi after ≡ true → rising lo hi all ≡ true
    → ((p : ℕ) → contains p before ≡ true → contains p all ≡ true) → ((p : ℕ) → contains p after ≡ true → contains p all ≡ true)
    → length (changes_by leaves joins before after) ≤ length all
unfolding changes_by missing
changes_among_lem lo hi leaves joins before after all eb ea el pb pa =
    let fit = parts_fit lo hi gone come all
    (rising_filter (λ p. not (contains p after)) lo hi before eb)
    (rising_filter (λ p. not (contains p before)) lo hi after ea)
    el
    (λ p t. pb p (and_left (contains p before) (not (contains p after)) (sym (contains_filter (λ p. not (contains p after)) p before) ∙ t)))
    (λ p t. pa p (and_left (contains p after) (not (contains p before)) (sym (contains_filter (λ p. not (contains p before)) p after) ∙ t)))
    (λ p. simp contains_filter (apart (contains p before) (contains p after))) in
    omega (arith, length-append (map leaves gone) (map joins come), length-map gone leaves, length-map come joins)
  where
    gone : List ℕ
    gone = missing before after

    come : List ℕ
    come = missing after before

    apart : (o n : Bool) → (o && not n) && (n && not o) ≡ false
    apart true true = refl
    apart true false = refl
    apart false true = refl
    apart false false = refl

module _ (h : Head) (x : List ℕ) (rs : List Row) (ok : Whole h rs) where
  -- the position that expires, and the first of the window
  abbrev gone : ℕ
  gone = expiring h.newest h.capacity

  abbrev start : ℕ
  start = window_start h.newest h.capacity

  -- the rows that stay, and the rows after the quote
  abbrev left : List Row
  left = filter (λ r. not (eqb r.position gone)) rs

  abbrev next : List Row
  next = rows_after h.dimensions h.directions h.capacity h.newest x rs

  -- a row that stays, after the quote
  abbrev after : Row → Row
  after = row_after h.dimensions h.directions x (h.newest + 1) gone

  -- the positions of the live rows and the new one
  abbrev all : List ℕ
  all = map Row.position (live_rows rs) ++ ((h.newest + 1) ∷ [])

  -- the window covers the row
  abbrev on_list : ℕ → ℕ → Row → Bool
  on_list a b r = covers a b r.lower_end r.position r.upper_end

  risen : rising start h.newest (map Row.position rs) ≡ true
  unfolding window_start
  risen = rw ok.window (rising_between start h.newest (omega arith))

  next_positions : map Row.position next ≡ map Row.position left ++ ((h.newest + 1) ∷ [])
  unfolding rows_after row_after
  next_positions =
      map-append Row.position (map after left) (row ∷ [])
      ∙ ap (λ (l : List ℕ). l ++ ((h.newest + 1) ∷ [])) (map_map Row.position after left)
    where
      row : Row
      row = record { position = h.newest + 1; lower_end = lower_end_among h.dimensions h.directions x left; upper_end = 0; columns = x }

  -- the new position behind a part of the old ones
  behind : (l : List ℕ) → rising start h.newest l ≡ true → rising start (h.newest + 1) (l ++ ((h.newest + 1) ∷ [])) ≡ true
  unfolding window_start
  behind l e = rising_snoc start h.newest (h.newest + 1) l (omega arith) (omega arith) e

  -- a live row's position is one of all
  live_among : (r : Row) → Memᴰ r rs → r.upper_end ≡ 0 → contains r.position all ≡ true
  unfolding live_rows is_live
  live_among r m e =
      rw contains_append (or_left (contains r.position (map Row.position (live_rows rs))) (contains r.position ((h.newest + 1) ∷ []))
      (mem_contains r.position (map Row.position (live_rows rs)) (into_map Row.position r (live_rows rs) (into_filter is_live r rs m (eq-eqb r.upper_end 0 e)))))

  -- a row whose upper end is in its place, 0 or above the window's end, is live
  live_above : (b : ℕ) (r : Row) → Memᴰ r rs → h.newest ≤ b → (r.upper_end ≡ 0) ⊎ (b < r.upper_end) → r.upper_end ≡ 0
  live_above b r m k (inl e) = e
  live_above b r m k (inr w) = absurd (go (upper_place h.newest r (mem_none (upper_astray h.newest) r rs m ok.upper_ends_lem)))
    where
      go : (r.upper_end ≡ 0) ⊎ ((r.position < r.upper_end) × (r.upper_end ≤ h.newest)) → ⊥
      go (inl e) = omega arith
      go (inr t) = let u = t.1 in omega arith

  old_among : (a p : ℕ) → contains p (listed a h.newest rs) ≡ true → contains p all ≡ true
  unfolding listed
  old_among a p t =
      let m = of_map Row.position p (filter (on_list a h.newest) rs) (contains_mem p (listed a h.newest rs) t) in
      let r = m.0 in
      let f = of_filter (on_list a h.newest) r rs m.1 in
      let c = of_covers a h.newest r.lower_end r.position r.upper_end f.1 in
      rw m.2 (live_among r f.0 (live_above h.newest r f.0 (le_refl h.newest) c.above))

  -- a row that is covered after the quote was live before it
  stays_among : (a b : ℕ) (r : Row) → h.newest ≤ b → Memᴰ r left → on_list a b (after r) ≡ true → contains r.position all ≡ true
  unfolding row_after retired_by
  stays_among a b r k m t = live_among r old (go (eqb r.upper_end 0) refl (of_covers a b _ r.position _ t).above)
    where
      old : Memᴰ r rs
      old = (of_filter (λ r. not (eqb r.position gone)) r rs m).0

      over : Bool
      over = over_older h.dimensions h.directions x r

      go : (z : Bool) → eqb r.upper_end 0 ≡ z → (cond (z && over) (h.newest + 1) r.upper_end ≡ 0) ⊎ (b < cond (z && over) (h.newest + 1) r.upper_end) → r.upper_end ≡ 0
      go true e s = eqb-true r.upper_end 0 e
      go false e s = live_above b r old k s

  next_among : (a b p : ℕ) → h.newest ≤ b → contains p (listed a b next) ≡ true → contains p all ≡ true
  unfolding listed row_after rows_after
  next_among a b p k t =
      let m = of_map Row.position p (filter (on_list a b) next) (contains_mem p (listed a b next) t) in
      let f = of_filter (on_list a b) m.0 next m.1 in
      rw m.2 (pick m.0 f.1 (Memᴰ.append_cases (map after left) f.0))
    where
      row : Row
      row = record { position = h.newest + 1; lower_end = lower_end_among h.dimensions h.directions x left; upper_end = 0; columns = x }

      pick : (r : Row) → on_list a b r ≡ true → Memᴰ r (map after left) ⊎ Memᴰ r (row ∷ []) → contains r.position all ≡ true
      pick r c (inl m) = let o = of_map after r left m in old o.0 o.1 r o.2 c
        where
          old : (q : Row) → Memᴰ q left → (r : Row) → r ≡ after q → on_list a b r ≡ true → contains r.position all ≡ true
          old q n r e c = rw e (stays_among a b q k n (rw e at c))
      pick r c (inr m) =
          rw (Memᴰ.eq_of_singleton m, contains_append) (or_right (contains (h.newest + 1) (map Row.position (live_rows rs))) (contains (h.newest + 1) ((h.newest + 1) ∷ []))
          (mem_contains (h.newest + 1) ((h.newest + 1) ∷ []) (Memᴰ.head refl)))

  -- every list of the rows before the quote rises, and every list of those after it
  old_rises : (a b : ℕ) → rising start (h.newest + 1) (listed a b rs) ≡ true
  unfolding listed
  old_rises a b =
      rising_wide start h.newest (h.newest + 1) (listed a b rs) (omega arith) (rising_map_filter Row.position (on_list a b) start h.newest rs risen)

  next_rises : (a b : ℕ) → rising start (h.newest + 1) (listed a b next) ≡ true
  unfolding listed
  next_rises a b =
      rising_map_filter Row.position (on_list a b) start (h.newest + 1) next
      (rw next_positions (behind (map Row.position left) (rising_map_filter Row.position (λ r. not (eqb r.position gone)) start h.newest rs risen)))

  -- at most one change for each live row and one for the new row
  rows_change : (w a a' b' : ℕ) → h.newest ≤ b' → length (changes w (listed a h.newest rs) (listed a' b' next)) ≤ suc (length (live_rows rs))
  unfolding changes live_rows
  rows_change w a a' b' k =
      let fit = changes_among_lem start (h.newest + 1) (leave w) (join w) (listed a h.newest rs) (listed a' b' next) all
      (old_rises a h.newest)
      (next_rises a' b')
      (behind (map Row.position (live_rows rs)) (rising_map_filter Row.position is_live start h.newest rs risen))
      (λ p t. old_among a p t)
      (λ p t. next_among a' b' p k t) in
      omega (arith, length-append (map Row.position (live_rows rs)) ((h.newest + 1) ∷ []), length-map (live_rows rs) Row.position)

  -- ---- the pair

  -- a position on a list is that of a row that the window covers
  on_listed : (a b p : ℕ) (rows : List Row) → contains p (listed a b rows) ≡ true → (p ≤ b) × (contains p (map Row.position rows) ≡ true)
  unfolding listed
  on_listed a b p rows t =
      let m = of_map Row.position p (filter (on_list a b) rows) (contains_mem p (listed a b rows) t) in
      let r = m.0 in
      let c = of_covers a b r.lower_end r.position r.upper_end (of_filter (on_list a b) r rows m.1).1 in
      (rw m.2 c.end, contains_map_filter Row.position (on_list a b) rows p t)

  -- a list that ends before the quote has old positions alone
  next_old : (a b p : ℕ) → b ≤ h.newest → contains p (listed a b next) ≡ true → contains p (map Row.position rs) ≡ true
  unfolding contains any
  next_old a b p k t =
      let o = on_listed a b p next t in
      let low = o.0 in
      let young = ne_eqb p (h.newest + 1) (λ e. omega arith) in
      let among = rw (next_positions, contains_append p (map Row.position left) ((h.newest + 1) ∷ []), young) at o.1 in
      contains_map_filter Row.position (λ r. not (eqb r.position gone)) rs p (sym (or-false (contains p (map Row.position left))) ∙ among)

  -- at most one change of the pair for each row
  pair_change : (a b a' b' : ℕ) → b' ≤ h.newest → length (pair_changes (listed a b rs) (listed a' b' next)) ≤ length rs
  unfolding pair_changes
  pair_change a b a' b' k =
      let fit = changes_among_lem start (h.newest + 1) pair_leave pair_join (listed a b rs) (listed a' b' next) (map Row.position rs)
      (old_rises a b)
      (next_rises a' b')
      (rising_wide start h.newest (h.newest + 1) (map Row.position rs) (omega arith) risen)
      (λ p t. (on_listed a b p rs t).1)
      (λ p t. next_old a' b' p k t) in
      omega (arith, length-map rs Row.position)

-- where no watch has more than 1,025 changes, each has 7,175 bytes at most
all_bytes : (watched : List ℕ) (before after : ℕ → List ℕ) → ((w : ℕ) → length (changes w (before (size_in w)) (after (size_in w))) ≤ 1025)
    → length (frames (all_changes watched before after)) ≤ 7175 * length watched
unfolding all_changes flat frames
all_bytes [] before after bounded = le_refl 0
all_bytes (w ∷ ws) before after bounded =
    let one = bounded w in
    let more = all_bytes ws before after bounded in
    omega (arith, changes_bytes w (before (size_in w)) (after (size_in w)), length-append (frames mine) (frames others), ap length (frames_append mine others))
  where
    mine : List Message
    mine = changes w (before (size_in w)) (after (size_in w))

    others : List Message
    others = all_changes ws before after

bounded_standing : (ws : List ℕ) → length (standing ws) ≤ 8
unfolding standing
bounded_standing ws = omega (arith, length_filter (ltb 0) (take 8 ws), length-take 8 ws)

length_rows : (h : Head) (t : Tables) → length (book_rows h t) ≡ h.held
unfolding book_rows rows_in
length_rows h t = length-map (run 0 h.held) (row_at h.dimensions t) ∙ length_run 0 h.held

-- a quote moves the newest position on by one, or leaves it, and keeps the pair
pub record Onward (h next : Head) : Type 0 where
  pub least : h.newest ≤ next.newest
  pub most : next.newest ≤ h.newest + 1
  pub first : next.n1 ≡ h.n1
  pub second : next.n2 ≡ h.n2

pub onward : (h : Head) (live held : ℕ) → Onward h (after_quote h live held)
unfolding after_quote
onward h live held = go (ltb h.newest last_position)
  where
    moved : Head
    moved = record {
      dimensions = h.dimensions;
      capacity = h.capacity;
      directions = h.directions;
      newest = h.newest + 1;
      live = live;
      held = held;
      n1 = h.n1;
      n2 = h.n2;
    }

    go : (b : Bool) → Onward h (cond b moved h)
    go true = record { least = omega arith; most = omega arith; first = refl; second = refl }
    go false = record { least = omega arith; most = omega arith; first = refl; second = refl }

-- at most N rows are live
live_bounded : (h : Head) (rs : List Row) → 1 ≤ h.capacity → Whole h rs → h.live ≤ h.capacity
unfolding live_rows
live_bounded h rs some ok =
    omega (arith, ok.live_count, length_filter is_live rs, length-map rs Row.position, ap length ok.window, window_bounded h.capacity some h.newest)

module _ (h : Head) (x : List ℕ) (rs : List Row) (counted : h.held ≡ length rs) (holds : settings_hold h.dimensions h.capacity h.directions ≡ true)
    (whole : torn_rows h rs ≡ false) where
  -- the rows and the head after the quote
  abbrev rows_next : List Row
  rows_next = rows_after h.dimensions h.directions h.capacity h.newest x rs

  abbrev head_next : Head
  head_next = after_quote h (length (live_rows rows_next)) (length rows_next)

  within : Within h.dimensions h.capacity
  within = settings_within h.dimensions h.capacity h.directions holds

  ok : Whole h rs
  ok = untorn_whole h rs counted within.some_capacity whole

  on : Onward h head_next
  on = onward h (length (live_rows rows_next)) (length rows_next)

  -- a watch has at most one change for each live row and one more
  each : (w : ℕ) → length (changes w (list_of h rs (size_in w)) (list_of head_next rows_next (size_in w))) ≤ h.live + 1
  unfolding list_of
  each w =
      let n = size_in w in
      omega (arith, rows_change h x rs ok w (window_start h.newest n) (window_start head_next.newest n) head_next.newest on.least, ok.live_count)

  most : h.live + 1 ≤ 1025
  most = omega (arith, within.small_capacity, live_bounded h rs within.some_capacity ok)

  -- eight watches have 57,400 bytes at most
  watches_fit : (watched : List ℕ) → length watched ≤ 8 → length (frames (all_changes watched (list_of h rs) (list_of head_next rows_next))) ≤ 57400
  watches_fit watched bounded = omega (arith, all_bytes watched (list_of h rs) (list_of head_next rows_next) (λ w. omega (arith, each w, most)))

  module _ (fine : torn_pair h ≡ false) where
    -- the pair has at most one change for each row
    pair_fit : length (pair_changes (pair_list_of h rs) (pair_list_of head_next rows_next)) ≤ 1024
    unfolding pair_list_of past_list_of pair_stands pair_changes changes_by missing filter
    pair_fit = rw (on.first, on.second) (go (pair_stands h) refl)
      where
        go : (b : Bool) → pair_stands h ≡ b
            → length (pair_changes (cond b (past_list_of h rs h.n1 h.n2) []) (cond b (past_list_of head_next rows_next h.n1 h.n2) [])) ≤ 1024
        go true e =
            let two = (pair_within h fine e).two in
            let high = on.most in
            omega (
              arith,
              pair_change h x rs ok (window_start h.newest h.n2) (h.newest + 1 - h.n1)
                  (window_start head_next.newest h.n2) (head_next.newest + 1 - h.n1) (omega arith),
              length-map rs Row.position,
              ap length ok.window,
              window_bounded h.capacity within.some_capacity h.newest,
              within.small_capacity,
            )
        go false e = omega arith

    -- so all have 62,520 bytes at most, the room that is asked for
    pub bytes_fit : (watched : List ℕ) → length watched ≤ 8
        → length (frames (all_changes watched (list_of h rs) (list_of head_next rows_next) ++ pair_changes (pair_list_of h rs) (pair_list_of head_next rows_next))) ≤ change_room
    bytes_fit watched bounded =
        omega (
          arith,
          watches_fit watched bounded,
          pair_fit,
          pair_bytes_lem before after,
          length-append (frames plain) (frames (pair_changes before after)),
          ap length (frames_append plain (pair_changes before after)),
        )
      where
        before : List ℕ
        before = pair_list_of h rs

        after : List ℕ
        after = pair_list_of head_next rows_next

        plain : List Message
        plain = all_changes watched (list_of h rs) (list_of head_next rows_next)

-- a quote on tables that are not torn writes no more
pub changes_fit : (h : Head) (x : List ℕ) (t : Tables) (ws : List ℕ) → settings_hold h.dimensions h.capacity h.directions ≡ true
    → torn_rows h (book_rows h t) ≡ false → torn_pair h ≡ false → ChangesFit h x t ws
unfolding quote_rows quote_head quote_bytes
changes_fit h x t ws holds whole fine =
    let rs = book_rows h t in
    let counted = sym (length_rows h t) in
    record {
      changes_each = each h x rs counted holds whole;
      changes_most = most h x rs counted holds whole;
      watches_most = watches_fit h x rs counted holds whole (standing ws) (bounded_standing ws);
      pair_most = pair_fit h x rs counted holds whole fine;
      bytes_most = bytes_fit h x rs counted holds whole fine (standing ws) (bounded_standing ws);
    }

-- a list of the rows is no longer than the rows
pub length_listed : (a b : ℕ) (rs : List Row) → length (listed a b rs) ≤ length rs
unfolding listed
length_listed a b rs =
    let on : Row → Bool = λ r. covers a b r.lower_end r.position r.upper_end in
    omega (arith, length-map (filter on rs) Row.position, length_filter on rs)

module _ (h : Head) (t : Tables) (holds : settings_hold h.dimensions h.capacity h.directions ≡ true) (whole : torn_rows h (book_rows h t) ≡ false) where
  -- a list of rows that are not torn has 1,024 positions at most
  list_bounded : (a b : ℕ) → length (listed a b (book_rows h t)) ≤ 1024
  list_bounded a b =
      let w = settings_within h.dimensions h.capacity h.directions holds in
      let ok = untorn_whole h (book_rows h t) (sym (length_rows h t)) w.some_capacity whole in
      omega (
        arith,
        length_listed a b (book_rows h t),
        length-map (book_rows h t) Row.position,
        ap length ok.window,
        window_bounded h.capacity w.some_capacity h.newest,
        w.small_capacity,
      )

  -- so the joins of a watch find room
  pub watch_fits : (desk : Desk) (n : ℕ) (ws : List ℕ) → length (watch_bytes h desk n t ws) ≤ change_room
  unfolding watch_bytes list_of
  watch_fits desk n ws =
      let w = watch_of desk n in
      let list = listed (window_start h.newest n) h.newest (book_rows h t) in
      omega (arith, frames_bytes 7 (join w) (change_length_lem (join_kind_of (desk_in w)) (size_in w)) list, list_bounded (window_start h.newest n) h.newest)

  -- and those of the pair
  pub pair_fits : (n1 n2 : ℕ) (ws : List ℕ) → length (pair_bytes h n1 n2 t ws) ≤ change_room
  unfolding pair_bytes past_list_of
  pair_fits n1 n2 ws =
      let list = listed (window_start h.newest n2) (h.newest + 1 - n1) (book_rows h t) in
      omega (arith, frames_bytes 5 pair_join (position_length pair_join_kind) list, list_bounded (window_start h.newest n2) (h.newest + 1 - n1))
