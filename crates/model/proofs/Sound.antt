-- The rows of a reference model are not torn, and neither are watch records that are filled from its watches.
use mathlib.Core.Path.{◌≡◌, refl, ap}
use mathlib.Core.Logic.{◌⊎◌, inl, inr}
use Prim.Native.Nat.{ℕ, zero, suc, ◌-◌, ◌≤◌, ◌<◌}
use native.Mathlib.Nat.{le_refl}
use native.Mathlib.Omega.{arith}
use mathlib.Core.Bool.{Bool, true, false, ◌&&◌, not, cond}
use mathlib.Core.List.{List, [], ◌∷◌, ◌++◌, map, Memᴰ, append-nil}
use lib.Dec.{ltb, leb, eqb}
use lib.ListN.{length, take, replicate, length-map}
use borrow.Author.Tests.{ltb-false, lt-ltb, le-ltb, leb-true, le-leb, eqb-true, eqb-false, eq-eqb, ne_eqb, not-true, not-false}
use Rattle.lists.specs.Lists.{keep, filter, any, run, between, contains, rising, padded}
use Rattle.lists.proofs.Booleans.{clash, and_left, and_right, and_false, or_cases, or_left, or_right, none_left, none_right}
use Rattle.lists.proofs.Filters.{filter_append, map_map, map-id}
use Rattle.lists.proofs.Members.{of_map, none_mem}
use Rattle.lists.proofs.Runs.{of_run}
use Rattle.lists.proofs.Rising.{rising_cons, cons_rising}
use Rattle.lists.proofs.Writing.{take_padded}
use Rattle.dominance.specs.Renewal.{quote_at}
use Rattle.skyline.specs.Skyline.{window_start}
use Rattle.skyline.specs.Past.{lower_end, upper_end}
use Rattle.skyline.proofs.Ends.{lower_below, upper_within}
use Rattle.head.specs.Heads.{last_position}
use Rattle.model.specs.Rows.{Row}
use Rattle.model.specs.Reference.{Reference, newest, over, row_of, rows_of, head_of}
use Rattle.model.specs.Shares.{above_shares}
use Rattle.model.specs.Book.{torn_rows, is_watch, ordered, torn_watches, standing}
use Rattle.model.proofs.Tables.{Fit}
use Rattle.model.proofs.Torn.{Whole, lower_astray, upper_astray, window_bounded, whole_untorn}
use Rattle.model.proofs.Desks.{watch_range, highest}
use Rattle.model.proofs.Records.{Records, eight_records_lem}

module _ (s : Reference) where
  -- the first position of the window of N
  abbrev S : ℕ
  S = window_start (newest s) s.capacity

  -- the positions that have a row
  pub positions_are : map Row.position (rows_of s) ≡ between S (newest s)
  unfolding rows_of row_of
  positions_are = rw (map_map, map-id)

  -- as many rows as positions
  rows_counted : length (rows_of s) ≡ length (between S (newest s))
  unfolding rows_of
  rows_counted = length-map (between S (newest s)) (row_of s)

  -- no quotes leave no rows
  pub rows_none : newest s ≡ 0 → rows_of s ≡ []
  unfolding rows_of between window_start run
  rows_none e = let z : suc (newest s) - S ≡ 0 = omega arith in rw z

  -- a row is that of its position, which is held
  pub row_held : (r : Row) → Memᴰ r (rows_of s) → (p : ℕ) × (S ≤ p) × (p ≤ newest s) × (1 ≤ p) × (r ≡ row_of s p)
  unfolding rows_of between window_start
  row_held r m =
      let t = of_map (row_of s) r (between S (newest s)) m in
      let u = of_run S (suc (newest s) - S) t.0 t.1 in
      (t.0, u.0, omega arith, omega arith, t.2)

  -- every quote has d columns
  abbrev pub Wide : Type 0
  Wide = (p : ℕ) → 1 ≤ p → p ≤ newest s → length (quote_at s.quotes p) ≡ s.dimensions

  -- quotes of d columns leave rows of d columns
  pub rows_wide : Wide → Fit s.dimensions (rows_of s)
  unfolding row_of
  rows_wide wide r m = let t = row_held r m in rw t.4 (wide t.0 t.3 t.2)

  -- a row's lower end is below its position
  lower_placed : (p : ℕ) → 1 ≤ p → lower_astray (row_of s p) ≡ false
  unfolding row_of
  lower_placed p h = rw (lt-ltb (lower_end (over s) S p) p (lower_below (over s) S p h))

  -- its upper end is 0, or above its position and not above the newest
  upper_placed : (p : ℕ) → upper_astray (newest s) (row_of s p) ≡ false
  unfolding row_of
  upper_placed p = go (upper_within (over s) (newest s) p)
    where
      u : ℕ
      u = upper_end (over s) (newest s) p

      go : (u ≡ 0) ⊎ ((p < u) × (u ≤ newest s)) → ltb 0 u && not (ltb p u && leb u (newest s)) ≡ false
      go (inl e) = rw e
      go (inr t) = rw (lt-ltb p u t.0, le-leb u (newest s) t.1) (and_false (ltb 0 u))

  module _ (hN : 1 ≤ s.capacity) where
    -- at most N rows
    pub rows_bounded : length (rows_of s) ≤ s.capacity
    rows_bounded = rw rows_counted (window_bounded s.capacity hN (newest s))

    -- the rows of a reference model are whole
    pub rows_whole : newest s ≤ last_position → Whole (head_of s) (rows_of s)
    unfolding head_of
    rows_whole h = record {
      low_newest = h;
      window = positions_are;
      lower_ends_lem = none_mem lower_astray (rows_of s) (λ r m. let t = row_held r m in rw t.4 (lower_placed t.0 t.3));
      upper_ends_lem = none_mem (upper_astray (newest s)) (rows_of s) (λ r m. let t = row_held r m in rw t.4 (upper_placed t.0));
      live_count = refl;
    }

    -- and not torn
    pub rows_sound : newest s ≤ last_position → torn_rows (head_of s) (rows_of s) ≡ false
    unfolding head_of
    rows_sound h = whole_untorn (head_of s) (rows_of s) refl hN (rows_whole h)

-- ---- watch records that are not torn

-- where no record is above 0 none stands
none_positive : (l : List ℕ) → any (ltb 0) l ≡ false → filter (ltb 0) l ≡ []
unfolding filter any
none_positive [] e = refl
none_positive (x ∷ xs) e = rw (none_left (ltb 0 x) (any (ltb 0) xs) e) (none_positive xs (none_right (ltb 0 x) (any (ltb 0) xs) e))

-- ordered records are rising watches and empties behind them
ordered_rising : (N lo : ℕ) (l : List ℕ) → ordered lo N l ≡ true
    → (rising lo highest (filter (ltb 0) l) ≡ true) × ((w : ℕ) → contains w (filter (ltb 0) l) ≡ true → is_watch N w ≡ true)
unfolding ordered filter rising contains any
ordered_rising N lo [] e = (refl, λ w t. absurd (clash false t refl))
ordered_rising N lo (x ∷ xs) e = go (eqb x 0) refl e (λ f. ordered_rising N (suc x) xs f)
  where
    kept : List ℕ
    kept = filter (ltb 0) xs

    Fine : ℕ → List ℕ → Type 0
    Fine a l = (rising a highest l ≡ true) × ((w : ℕ) → contains w l ≡ true → is_watch N w ≡ true)

    go : (b : Bool) → eqb x 0 ≡ b → cond b (not (any (ltb 0) xs)) (leb lo x && is_watch N x && ordered (suc x) N xs) ≡ true
        → (ordered (suc x) N xs ≡ true → Fine (suc x) kept) → Fine lo (keep (ltb 0 x) x kept)
    go true z f rest = rw (eqb-true x 0 z, none_positive xs (not-true (any (ltb 0) xs) f)) (refl, λ w t. absurd (clash false t refl))
    go false z f rest =
        let some = eqb-false x 0 z in
        let two = and_left (leb lo x && is_watch N x) (ordered (suc x) N xs) f in
        let fine = and_right (leb lo x) (is_watch N x) two in
        let low = leb-true lo x (and_left (leb lo x) (is_watch N x) two) in
        let r = rest (and_right (leb lo x && is_watch N x) (ordered (suc x) N xs) f) in
        rw (lt-ltb 0 x (omega arith))
        (cons_rising lo highest x kept record { low = low; high = (watch_range N x fine).1; rest = r.0 }, λ w t. each w fine r.1 (or_cases (eqb w x) (contains w kept) t))
      where
        each : (w : ℕ) → is_watch N x ≡ true → ((v : ℕ) → contains v kept ≡ true → is_watch N v ≡ true) → (eqb w x ≡ true) ⊎ (contains w kept ≡ true) → is_watch N w ≡ true
        each w fine r (inl t) = rw (eqb-true w x t) fine
        each w fine r (inr t) = r w t

-- so the watches that stand in records that are not torn are as the models keep them
pub untorn_records : (N : ℕ) (ws : List ℕ) → torn_watches N ws ≡ false → Records N (standing ws)
unfolding torn_watches standing
untorn_records N ws e =
    let over = ltb 2 (above_shares (standing ws)) in
    let ordered-eight = ordered 1 N (take 8 ws) in
    let r = ordered_rising N 1 (take 8 ws) (not-false ordered-eight (none_left (not ordered-eight) over e)) in
    record { risen = r.0; each = r.1; shares = ltb-false 2 (above_shares (standing ws)) (none_right (not ordered-eight) over e) }

-- ---- records that are filled from watches

filter_zeros : (k : ℕ) → filter (ltb 0) (replicate k 0) ≡ []
unfolding filter
filter_zeros zero = refl
filter_zeros (suc k) = filter_zeros k

pub any_zeros : (k : ℕ) → any (ltb 0) (replicate k 0) ≡ false
unfolding any
any_zeros zero = refl
any_zeros (suc k) = any_zeros k

-- numbers that rise from 1 or more on are not 0
rising_positive : (lo hi : ℕ) (l : List ℕ) → 1 ≤ lo → rising lo hi l ≡ true → filter (ltb 0) l ≡ l
unfolding filter
rising_positive lo hi [] h e = refl
rising_positive lo hi (x ∷ xs) h e =
    let r = rising_cons lo hi x xs e in
    let u = r.low in
    rw (lt-ltb 0 x (omega arith)) (ap (λ (l : List ℕ). x ∷ l) (rising_positive (suc x) hi xs (omega arith) r.rest))

module _ (N : ℕ) where
  -- rising watches and zeros behind them are ordered
  rising_ordered : (lo hi k : ℕ) (l : List ℕ) → 1 ≤ lo → rising lo hi l ≡ true → ((w : ℕ) → contains w l ≡ true → is_watch N w ≡ true)
      → ordered lo N (l ++ replicate k 0) ≡ true
  unfolding ordered contains any
  rising_ordered lo hi zero [] h e each = refl
  rising_ordered lo hi (suc k) [] h e each = rw (any_zeros k)
  rising_ordered lo hi k (x ∷ xs) h e each =
      let r = rising_cons lo hi x xs e in
      let u = r.low in
      rw (ne_eqb x 0 (λ z. omega arith), le-leb lo x u, each x (or_left (eqb x x) (contains x xs) (eq-eqb x x refl)))
      (rising_ordered (suc x) hi k xs (omega arith) r.rest (λ w t. each w (or_right (eqb w x) (contains w xs) t)))

  module _ (l ws : List ℕ) (f : Records N l) where
    -- what is filled into the records is read back
    pub standing_padded : standing (padded 8 l ws) ≡ l
    unfolding standing
    standing_padded = rw (take_padded 8 l ws (eight_records_lem f), filter_append, filter_zeros, rising_positive 1 highest l (le_refl 1) f.risen) (append-nil l)

    -- and records that are filled so are not torn
    pub watches_sound : torn_watches N (padded 8 l ws) ≡ false
    unfolding torn_watches
    watches_sound =
        rw (
          standing_padded,
          take_padded 8 l ws (eight_records_lem f),
          rising_ordered 1 highest (8 - length l) l (le_refl 1) f.risen f.each,
          le-ltb 2 (above_shares l) f.shares,
        )
