-- The test of torn rows: its two parts put together.
use mathlib.Core.Path.{◌≡◌, refl, sym, ap, ◌∙◌}
use Prim.Native.Nat.{ℕ, zero, suc, ◌+◌, ◌-◌, min, ◌≤◌}
use native.Mathlib.Omega.{arith}
use mathlib.Core.Bool.{Bool, true, false, ◌&&◌, ◌||◌, not}
use mathlib.Core.List.{List, [], ◌∷◌, map}
use lib.Dec.{ltb, leb, eqb}
use lib.ListN.{length, drop, length-map}
use borrow.Author.Tests.{ltb-false, lt-ltb, le-ltb, eqb-true, eq-eqb, ne_eqb, not-true, not-false}
use Rattle.lists.specs.Lists.{any, head_or, run, between}
use Rattle.lists.proofs.Booleans.{and_left, and_right, both, clash, none_left, none_right, neither}
use Rattle.lists.proofs.Filters.{map_map, any_map, filter_map}
use Rattle.skyline.specs.Skyline.{window_start}
use Rattle.head.specs.declared.Head.{Head}
use Rattle.head.specs.Heads.{last_position}
use Rattle.model.specs.Rows.{Row, Tables, row_at, rows_in, is_live, live_rows}
use Rattle.model.specs.Book.{torn_rows, book_rows}
use Rattle.model.specs.Promises.{tables}
use Rattle.model.proofs.Torn.{lower_astray, upper_astray, Whole, window_length, untorn_whole, whole_untorn}
use Rattle.table_cells.specs.Places.{torn_head, in_place, in_places}
use Rattle.table_cells.proofs.Reading.{length_rows}

-- the columns do not matter to torn rows
pub torn_columns : (h : Head) (cs cs' ps ls us : List ℕ) → torn_rows h (book_rows h (tables cs ps ls us)) ≡ torn_rows h (book_rows h (tables cs' ps ls us))
unfolding torn_rows book_rows rows_in row_at live_rows is_live
torn_columns h cs cs' ps ls us = simp (map_map, any_map, filter_map, length-map)

-- nor to rows in their places
places_columns : (M p d d' : ℕ) (cs cs' ps ls us is : List ℕ)
    → in_places M p (map (row_at d (tables cs ps ls us)) is) ≡ in_places M p (map (row_at d' (tables cs' ps ls us)) is)
unfolding in_places in_place row_at
places_columns M p d d' cs cs' ps ls us [] = refl
places_columns M p d d' cs cs' ps ls us (i ∷ is) = rw (places_columns M (suc p) d d' cs cs' ps ls us is)

-- nor to how many are live
live_columns : (d d' : ℕ) (cs cs' ps ls us is : List ℕ)
    → length (live_rows (map (row_at d (tables cs ps ls us)) is)) ≡ length (live_rows (map (row_at d' (tables cs' ps ls us)) is))
unfolding live_rows is_live row_at
live_columns d d' cs cs' ps ls us is = simp (filter_map, length-map)

-- ---- rows in their places

-- a row in its place: its position, and that neither end is astray
pub record Placed (M p : ℕ) (r : Row) : Type 0 where
  pub stands : r.position ≡ p
  pub lower : lower_astray r ≡ false
  pub upper : upper_astray M r ≡ false

-- an upper end in its place, as the code tests it
upper_test : (M p u : ℕ) → eqb u 0 || ltb p u && leb u M ≡ not (ltb 0 u && not (ltb p u && leb u M))
upper_test M p zero = refl
upper_test M p (suc u) = rw (lt-ltb 0 (suc u) (omega arith), ne_eqb (suc u) 0 (λ z. omega arith)) (sym (not_not (ltb p (suc u) && leb (suc u) M)))
  where
    not_not : (b : Bool) → not (not b) ≡ b
    not_not true = refl
    not_not false = refl

place_is : (M p : ℕ) (r : Row) → in_place M p r ≡ true → Placed M p r
unfolding in_place
place_is M p r e =
    let stands = eqb r.position p in
    let lower = ltb r.lower_end r.position in
    let upper = eqb r.upper_end 0 || ltb r.position r.upper_end && leb r.upper_end M in
    let two = and_left (stands && lower) upper e in
    record {
      stands = eqb-true r.position p (and_left stands lower two);
      lower = rw (and_right stands lower two);
      upper = not-true (upper_astray M r) (sym (upper_test M r.position r.upper_end) ∙ and_right (stands && lower) upper e);
    }

is_place : (M p : ℕ) (r : Row) → Placed M p r → in_place M p r ≡ true
unfolding in_place
is_place M p r v =
    rw (upper_test, eq-eqb r.position p v.stands, not-false (ltb r.lower_end r.position) v.lower, v.upper)

-- rows in their places: their positions are a run, and no end is astray
pub record PlacedAll (M p : ℕ) (rs : List Row) : Type 0 where
  pub stand : map Row.position rs ≡ run p (length rs)
  pub lower : any lower_astray rs ≡ false
  pub upper : any (upper_astray M) rs ≡ false

places_are : (M p : ℕ) (rs : List Row) → in_places M p rs ≡ true → PlacedAll M p rs
unfolding in_places run any
places_are M p [] e = record { stand = refl; lower = refl; upper = refl }
places_are M p (r ∷ rs) e =
    let one = place_is M p r (and_left (in_place M p r) (in_places M (suc p) rs) e) in
    let rest = places_are M (suc p) rs (and_right (in_place M p r) (in_places M (suc p) rs) e) in
    record {
      stand = rw (one.stands, rest.stand);
      lower = neither (lower_astray r) (any lower_astray rs) one.lower rest.lower;
      upper = neither (upper_astray M r) (any (upper_astray M) rs) one.upper rest.upper;
    }

are_places : (M p : ℕ) (rs : List Row) → PlacedAll M p rs → in_places M p rs ≡ true
unfolding in_places run any head_or
are_places M p [] v = refl
are_places M p (r ∷ rs) v =
    both (in_place M p r) (in_places M (suc p) rs)
    (is_place M p r (record {
      stands = ap (head_or 0) v.stand;
      lower = none_left (lower_astray r) (any lower_astray rs) v.lower;
      upper = none_left (upper_astray M r) (any (upper_astray M) rs) v.upper;
    }))
    (are_places M (suc p) rs (record {
      stand = ap (drop 1) v.stand;
      lower = none_right (lower_astray r) (any lower_astray rs) v.lower;
      upper = none_right (upper_astray M r) (any (upper_astray M) rs) v.upper;
    }))

-- ---- the two parts
module _ (h : Head) (rs : List Row) (counted : length rs ≡ h.held) (some : 1 ≤ h.capacity) where
  -- the rows of a whole book are as many as the positions of its window
  whole_held : Whole h rs → h.held ≡ min h.newest h.capacity
  unfolding window_start
  whole_held w =
      let n = sym (length-map rs Row.position) ∙ ap length w.window ∙ window_length h.capacity h.newest in
      omega (arith, n)

  pub head_torn : torn_head h ≡ true → torn_rows h rs ≡ true
  unfolding torn_head
  head_torn e = not_false' (torn_rows h rs) (λ f. let w = untorn_whole h rs (sym counted) some f in clash (torn_head h) e
      (neither (ltb last_position h.newest) (not (eqb h.held (min h.newest h.capacity))) (le-ltb last_position h.newest w.low_newest) (rw (eq-eqb h.held (min h.newest h.capacity) (whole_held w)))))
    where
      not_false' : (b : Bool) → (b ≡ false → ⊥) → b ≡ true
      not_false' true f = refl
      not_false' false f = absurd (f refl)

-- what a head shows that is not torn
pub record Likely (h : Head) : Type 0 where
  pub low_newest : h.newest ≤ last_position
  pub fills : h.held ≡ min h.newest h.capacity

pub head_likely : (h : Head) → torn_head h ≡ false → Likely h
unfolding torn_head
head_likely h e =
    let held = eqb h.held (min h.newest h.capacity) in
    record {
      low_newest = ltb-false last_position h.newest (none_left (ltb last_position h.newest) (not held) e);
      fills = eqb-true h.held (min h.newest h.capacity) (not-false held (none_right (ltb last_position h.newest) (not held) e));
    }

module _ (h : Head) (rs : List Row) (counted : length rs ≡ h.held) (some : 1 ≤ h.capacity) (likely : Likely h) where
  abbrev first : ℕ
  first = window_start h.newest h.capacity

  abbrev alive : Bool
  alive = eqb h.live (length (live_rows rs))

  -- the positions of the window, by the number of rows
  window_run : between (window_start h.newest h.capacity) h.newest ≡ run first (length rs)
  unfolding window_start between
  window_run =
      let f = likely.fills in
      let n : suc h.newest - first ≡ length rs = omega arith in
      rw n

  places_untorn : in_places h.newest first rs && alive ≡ true → torn_rows h rs ≡ false
  places_untorn e =
      let p = places_are h.newest first rs (and_left (in_places h.newest first rs) alive e) in
      whole_untorn h rs (sym counted) some (record {
        low_newest = likely.low_newest;
        window = p.stand ∙ sym window_run;
        lower_ends_lem = p.lower;
        upper_ends_lem = p.upper;
        live_count = eqb-true h.live (length (live_rows rs)) (and_right (in_places h.newest first rs) alive e);
      })

  untorn_places : torn_rows h rs ≡ false → in_places h.newest first rs && alive ≡ true
  untorn_places e =
      let w = untorn_whole h rs (sym counted) some e in
      both (in_places h.newest first rs) alive
      (are_places h.newest first rs (record { stand = w.window ∙ window_run; lower = w.lower_ends_lem; upper = w.upper_ends_lem }))
      (eq-eqb h.live (length (live_rows rs)) w.live_count)

  -- under a head that is not torn the places of the rows decide
  torn_places : torn_rows h rs ≡ not (in_places h.newest first rs && alive)
  torn_places = go (torn_rows h rs) (in_places h.newest first rs && alive) places_untorn untorn_places
    where
      go : (a b : Bool) → (b ≡ true → a ≡ false) → (a ≡ false → b ≡ true) → a ≡ not b
      go true true f g = f refl
      go true false f g = refl
      go false b f g = rw (g refl)

-- the positions of the rows are no larger than the next one
pub likely_fits : (h : Head) → 1 ≤ h.capacity → Likely h → window_start h.newest h.capacity + h.held ≤ 16777216
unfolding window_start
likely_fits h some likely = let f = likely.fills in let n = likely.low_newest in omega arith

-- by what the loop finds, which does not look at the columns
pub by_places : (h : Head) (t : Tables) (first : ℕ) (placed : Bool) → 1 ≤ h.capacity → torn_head h ≡ false → first ≡ window_start h.newest h.capacity
    → placed ≡ in_places h.newest first (rows_in 0 h.held t) && eqb h.live (length (live_rows (rows_in 0 h.held t)))
    → not placed ≡ torn_rows h (book_rows h t)
unfolding book_rows rows_in
by_places h t first placed some e b f =
    rw (f, b, places_columns h.newest (window_start h.newest h.capacity) 0 h.dimensions t.columns t.columns t.positions t.lower_ends t.upper_ends (run 0 h.held), live_columns 0 h.dimensions t.columns t.columns t.positions t.lower_ends t.upper_ends (run 0 h.held))
    (sym (torn_places h (rows_in h.dimensions h.held t) (length_rows h.dimensions h.held t) some (head_likely h e)))
