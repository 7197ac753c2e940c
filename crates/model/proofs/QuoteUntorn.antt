-- A quote on rows that are not torn, of any content, leaves rows that are not torn.
use mathlib.Core.Path.{◌≡◌, refl, sym, ap, ◌∙◌}
use mathlib.Core.Logic.{◌⊎◌, inl, inr}
use Prim.Native.Nat.{ℕ, suc, ◌+◌, ◌-◌, ◌≤◌, ◌<◌, zero-le}
use native.Mathlib.Omega.{arith}
use native.Mathlib.Numerals.{add-one}
use mathlib.Core.Bool.{Bool, true, false, ◌&&◌, not, cond}
use mathlib.Core.List.Memᴰ
use mathlib.Core.List.{List, [], ◌∷◌, map, Memᴰ}
use lib.Dec.{ltb, leb, eqb}
use lib.ListN.{length}
use borrow.Author.Tests.{lt-ltb, le-leb, ltb-true, not-false}
use Rattle.lists.specs.Lists.{filter, any, last_or, between}
use Rattle.lists.proofs.Booleans.{and_false}
use Rattle.lists.proofs.Filters.{filter_map, map-append, map_map}
use Rattle.lists.proofs.Members.{mem_none, none_mem, of_filter, of_map, into_map}
use Rattle.lists.proofs.Runs.{between_snoc, of_run}
use Rattle.skyline.specs.Skyline.{window_start}
use Rattle.head.specs.declared.Head.{Head}
use Rattle.head.specs.Heads.{last_position, after_quote, torn_pair}
use Rattle.model.specs.Rows.{Row, live_rows, expiring, renamed, over_older, over_younger, retired_by, row_after, lower_end_among, rows_after}
use Rattle.model.specs.Book.{torn_rows}
use Rattle.model.proofs.Quotes.{window_moves, window_bounds, left_positions}
use Rattle.model.proofs.Torn.{Whole, lower_astray, upper_astray, upper_place, untorn_whole, whole_untorn}

-- the last of numbers that are at most m is at most m
last_most : (m z : ℕ) (l : List ℕ) → z ≤ m → ((p : ℕ) → Memᴰ p l → p ≤ m) → last_or z l ≤ m
unfolding last_or
last_most m z [] h f = h
last_most m z (x ∷ xs) h f = last_most m x xs (f x (Memᴰ.head refl)) (λ p n. f p (Memᴰ.tail n))

module _ (h : Head) (x : List ℕ) (rs : List Row) (some : 1 ≤ h.capacity) (room : h.newest < last_position) (w : Whole h rs) where
  abbrev M : ℕ
  M = h.newest

  -- the position that expires
  abbrev g : ℕ
  g = expiring M h.capacity

  -- the rows that stay, and each of them after the quote
  abbrev left : List Row
  left = filter (λ r. not (eqb r.position g)) rs

  abbrev after : Row → Row
  after = row_after h.dimensions h.directions x (M + 1) g

  -- the new row
  abbrev new : Row
  new = record { position = M + 1; lower_end = lower_end_among h.dimensions h.directions x left; upper_end = 0; columns = x }

  -- the rows after the quote, and their head
  abbrev next : List Row
  next = rows_after h.dimensions h.directions h.capacity M x rs

  abbrev head : Head
  head = after_quote h (length (live_rows next)) (length next)

  left_are : map Row.position left ≡ between (suc g) M
  left_are =
      sym (filter_map (λ p. not (eqb p g)) Row.position rs) ∙ ap (filter (λ p. not (eqb p g))) w.window ∙ left_positions M h.capacity some

  -- a row that stays is behind the position that expires
  left_within : (r : Row) → Memᴰ r left → (suc g ≤ r.position) × (r.position ≤ M) × Memᴰ r rs
  unfolding between
  left_within r m =
      let t = of_run (suc g) (suc M - suc g) r.position (rw left_are at (into_map Row.position r left m)) in
      (t.0, omega (arith, window_bounds M h.capacity some), (of_filter (λ r. not (eqb r.position g)) r rs m).0)

  next_positions : map Row.position next ≡ between (window_start (suc M) h.capacity) (suc M)
  unfolding rows_after row_after
  next_positions =
      map-append Row.position (map after left) (new ∷ [])
      ∙ rw (map_map Row.position after left, left_are, window_moves M h.capacity some, add-one) (sym (between_snoc (suc g) M (omega (arith, window_bounds M h.capacity some))))

  -- what holds of each row that stays and of the new one holds of all
  all_next : (f : Row → Bool) → ((r : Row) → Memᴰ r left → f (after r) ≡ false) → f new ≡ false → any f next ≡ false
  unfolding rows_after
  all_next f old young = none_mem f next (λ r m. pick r (Memᴰ.append_cases (map after left) m))
    where
      pick : (r : Row) → Memᴰ r (map after left) ⊎ Memᴰ r (new ∷ []) → f r ≡ false
      pick r (inl m) = let t = of_map after r left m in rw t.2 (old t.0 t.1)
      pick r (inr m) = rw (Memᴰ.eq_of_singleton m) young

  -- lower ends stay below, or become 0
  old_lower : (r : Row) → Memᴰ r left → lower_astray (after r) ≡ false
  unfolding row_after renamed
  old_lower r m =
      let t = left_within r m in
      go (eqb r.lower_end g) (ltb-true r.lower_end r.position (not-false (ltb r.lower_end r.position) (mem_none lower_astray r rs t.2 w.lower_ends_lem))) t.0
    where
      go : (b : Bool) → r.lower_end < r.position → suc g ≤ r.position → not (ltb (cond b 0 r.lower_end) r.position) ≡ false
      go true u v = rw (lt-ltb 0 r.position (omega arith))
      go false u v = rw (lt-ltb r.lower_end r.position u)

  -- the new one names an older position, or none
  new_lower : lower_astray new ≡ false
  unfolding lower_end_among
  new_lower = let e = last_most M 0 (map Row.position found) zero-le below in rw (lt-ltb (last_or 0 (map Row.position found)) (M + 1) (omega arith))
    where
      found : List Row
      found = filter (λ r. over_younger h.dimensions h.directions r x) left

      below : (p : ℕ) → Memᴰ p (map Row.position found) → p ≤ M
      below p m =
          let t = of_map Row.position p found m in
          rw t.2 (left_within t.0 (of_filter (λ r. over_younger h.dimensions h.directions r x) t.0 left t.1).0).1

  -- upper ends stay, or name the new position
  old_upper : (r : Row) → Memᴰ r left → upper_astray (suc M) (after r) ≡ false
  unfolding row_after retired_by
  old_upper r m =
      let t = left_within r m in
      go (eqb r.upper_end 0) (over_older h.dimensions h.directions x r) t.1 (upper_place M r (mem_none (upper_astray M) r rs t.2 w.upper_ends_lem))
    where
      kept : r.position ≤ M → (r.upper_end ≡ 0) ⊎ ((r.position < r.upper_end) × (r.upper_end ≤ M)) → ltb 0 r.upper_end && not (ltb r.position r.upper_end && leb r.upper_end (suc M)) ≡ false
      kept u (inl e) = rw e
      kept u (inr t) = rw (lt-ltb r.position r.upper_end t.0, le-leb r.upper_end (suc M) (let v = t.1 in omega arith)) (and_false (ltb 0 r.upper_end))

      go : (z o : Bool) → r.position ≤ M → (r.upper_end ≡ 0) ⊎ ((r.position < r.upper_end) × (r.upper_end ≤ M))
          → let u = cond (z && o) (M + 1) r.upper_end in ltb 0 u && not (ltb r.position u && leb u (suc M)) ≡ false
      go true true u t = rw (lt-ltb r.position (M + 1) (omega arith), le-leb (M + 1) (suc M) (omega arith)) (and_false (ltb 0 (M + 1)))
      go true false u t = kept u t
      go false o u t = kept u t

  -- the head after the quote
  head_newest : head.newest ≡ suc M
  unfolding after_quote
  head_newest = rw (lt-ltb M last_position room, add-one)

  head_others : (head.capacity ≡ h.capacity) × (head.live ≡ length (live_rows next)) × (head.held ≡ length next)
  unfolding after_quote
  head_others = rw (lt-ltb M last_position room) (refl, refl, refl)

  pub whole_after : Whole head next
  whole_after = record {
    low_newest = rw head_newest room;
    window = rw (head_newest, head_others.0) next_positions;
    lower_ends_lem = all_next lower_astray old_lower new_lower;
    upper_ends_lem = rw head_newest (all_next (upper_astray (suc M)) old_upper refl);
    live_count = head_others.1;
  }

-- a quote on a book that is not torn leaves one that is not
pub quote_untorn : (h : Head) (x : List ℕ) (rs : List Row) → 1 ≤ h.capacity → h.newest < last_position → h.held ≡ length rs → torn_rows h rs ≡ false
    → let next = rows_after h.dimensions h.directions h.capacity h.newest x rs in torn_rows (after_quote h (length (live_rows next)) (length next)) next ≡ false
quote_untorn h x rs some room counted e =
    let w = untorn_whole h rs counted some e in
    let o = head_others h x rs some room w in
    whole_untorn (head h x rs some room w) (next h x rs some room w) o.2 (rw o.0 some) (whole_after h x rs some room w)

-- and its pair as torn as it was
pub pair_untorn : (h : Head) (live held : ℕ) → torn_pair (after_quote h live held) ≡ torn_pair h
unfolding after_quote torn_pair
pair_untorn h live held = go (ltb h.newest last_position)
  where
    moved : Head
    moved = record {
      dimensions = h.dimensions;
      capacity = h.capacity;
      directions = h.directions;
      newest = h.newest + 1;
      live = live;
      held = held;
      n1 = h.n1;
      n2 = h.n2;
    }

    go : (b : Bool) → torn_pair (cond b moved h) ≡ torn_pair h
    go true = refl
    go false = refl
