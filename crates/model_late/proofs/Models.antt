-- Two reference models with the same settings, one with the quotes of the other behind m that the other missed: their lists, past lists, rows
-- and changes.
use mathlib.Core.Path.{◌≡◌, sym, ap, ◌∙◌}
use Prim.Native.Nat.{ℕ, suc, ◌+◌, ◌-◌, ◌≤◌}
use native.Mathlib.Omega.{arith}
use mathlib.Core.List.{List, [], ◌∷◌, ◌++◌, map, append_assoc}
use lib.Dec.{ltb}
use lib.ListN.{length, length-append, length-map}
use lib.Seq.{get_or-append-add}
use borrow.Author.Tests.{ltb-true, lt-ltb}
use Rattle.lists.specs.Lists.{filter, between}
use Rattle.lists.proofs.Booleans.{agree}
use Rattle.lists.proofs.Filters.{filter_map, map_map}
use Rattle.lists.proofs.Members.{filter_same_mem, map_same_mem}
use Rattle.lists.proofs.Runs.{of_run}
use Rattle.dominance.specs.Renewal.{quote_at, renewed}
use Rattle.skyline.specs.Skyline.{window_start}
use Rattle.skyline.specs.Past.{upper_end}
use Rattle.model.specs.Rows.{Row, is_live, live_rows}
use Rattle.model.specs.Reference.{Reference, newest, over, skyline_of, past_of, row_of, rows_of, with_quote}
use Rattle.model_late.specs.Shift.{moved, shifted, lifted_row, moved_change, list_changes, Behind}
use Rattle.model_late.proofs.Shifting.{lift_none, start_moved, between_moved, lower_moved, upper_moved, skyline_moved, changes_moved}

-- a quote behind those that were missed
quote_moved : (missed quotes : List (List ℕ)) (p : ℕ) → 1 ≤ p → quote_at (missed ++ quotes) (moved (length missed) p) ≡ quote_at quotes p
unfolding quote_at
quote_moved missed quotes p h =
    let place : moved (length missed) p - 1 ≡ length missed + (p - 1) = omega arith in
    rw place (get_or-append-add missed quotes (p - 1) [])

-- a later one stays a later one
later_moved : (m p q : ℕ) → ltb (moved m p) (moved m q) ≡ ltb p q
later_moved m p q =
    agree (ltb (moved m p) (moved m q)) (ltb p q)
    (λ t. let e = ltb-true (moved m p) (moved m q) t in lt-ltb p q (omega arith))
    (λ t. let e = ltb-true p q t in lt-ltb (moved m p) (moved m q) (omega arith))

-- a lifted row is live exactly if the row is
live_lifted : (m : ℕ) (rs : List Row) → length (live_rows (map (lifted_row m) rs)) ≡ length (live_rows rs)
unfolding live_rows is_live lifted_row
live_lifted m rs =
    rw (filter_map is_live (lifted_row m) rs, length-map (filter (λ r. is_live (lifted_row m r)) rs) (lifted_row m))
    (ap length (filter_same_mem (λ r. is_live (lifted_row m r)) is_live rs (λ r i. lift_none m r.upper_end)))

module _ {m : ℕ} {morning late : Reference} (b : Behind m morning late) where
  -- how many quotes the late one has
  abbrev k : ℕ
  k = newest late

  quote_same : (p : ℕ) → 1 ≤ p → quote_at morning.quotes (moved m p) ≡ quote_at late.quotes p
  quote_same p h = rw (b.quotes, ← b.counted) (quote_moved b.missed late.quotes p h)

  pub newest_moved : newest morning ≡ moved m k
  newest_moved = ap length b.quotes ∙ length-append b.missed late.quotes ∙ ap (λ (n : ℕ). n + k) b.counted

  -- one position is over another as it was
  over_same : (p q : ℕ) → 1 ≤ p → 1 ≤ q → over morning (moved m p) (moved m q) ≡ over late p q
  unfolding renewed
  over_same p q h j = rw (b.dimensions, b.directions, quote_same p h, quote_same q j, later_moved m q p)

  -- the list of n, once n quotes are in
  pub late_list : (n : ℕ) → n ≤ k → skyline_of morning n ≡ shifted m (skyline_of late n)
  unfolding skyline_of window_start
  late_list n h =
      rw (newest_moved, start_moved m k n h)
      (skyline_moved m (over morning) (over late) over_same (window_start k n) k (omega arith))

  -- the past list of n1 and n2, once n2 are in
  pub late_past : (n1 n2 : ℕ) → n1 ≤ n2 → n2 ≤ k → past_of morning n1 n2 ≡ shifted m (past_of late n1 n2)
  unfolding past_of window_start
  late_past n1 n2 j h =
      let end : moved m k + 1 - n1 ≡ moved m (k + 1 - n1) = omega arith in
      rw (newest_moved, start_moved m k n2 h, end)
      (skyline_moved m (over morning) (over late) over_same (window_start k n2) (k + 1 - n1) (omega arith))

  -- ---- rows

  row_same : late.capacity ≤ k → (p : ℕ) → 1 ≤ p → row_of morning (moved m p) ≡ lifted_row m (row_of late p)
  unfolding row_of lifted_row window_start
  row_same h p j =
      let S = window_start k late.capacity in
      rw (
        newest_moved,
        b.capacity,
        start_moved m k late.capacity h,
        quote_same p j,
        lower_moved m (over morning) (over late) over_same S p (omega arith) j,
        upper_moved m (over morning) (over late) over_same k p j,
      )

  -- the window of N, once N quotes are in
  window_moved : late.capacity ≤ k
      → between (window_start (newest morning) morning.capacity) (newest morning) ≡ shifted m (between (window_start k late.capacity) k)
  window_moved h = rw (newest_moved, b.capacity, start_moved m k late.capacity h) (between_moved m (window_start k late.capacity) k)

  -- the rows, once N quotes are in: positions move, both ends are lifted, columns are the same
  pub late_rows : late.capacity ≤ k → rows_of morning ≡ map (lifted_row m) (rows_of late)
  unfolding rows_of between window_start
  late_rows h =
      let S = window_start k late.capacity in
      ap (map (row_of morning)) (window_moved h)
      ∙ map_map (row_of morning) (moved m) (between S k)
      ∙ map_same_mem (λ p. row_of morning (moved m p)) (λ p. lifted_row m (row_of late p)) (between S k)
      (λ p i. let t = of_run S (suc k - S) p i in row_same h p (omega arith))
      ∙ sym (map_map (lifted_row m) (row_of late) (between S k))

  -- as many of them are live
  pub late_live : late.capacity ≤ k → length (live_rows (rows_of morning)) ≡ length (live_rows (rows_of late))
  late_live h = ap (λ (rs : List Row). length (live_rows rs)) (late_rows h) ∙ live_lifted m (rows_of late)

  -- and as many are held: N
  pub late_held : late.capacity ≤ k → length (rows_of morning) ≡ length (rows_of late)
  late_held h = ap length (late_rows h) ∙ length-map (rows_of late) (lifted_row m)

  -- ---- one quote more

  -- a quote that both take
  pub behind_quote : (x : List ℕ) → Behind m (with_quote morning x) (with_quote late x)
  unfolding with_quote
  behind_quote x = record {
    missed = b.missed;
    counted = b.counted;
    quotes = ap (λ (l : List (List ℕ)). l ++ (x ∷ [])) b.quotes ∙ append_assoc b.missed late.quotes (x ∷ []);
    dimensions = b.dimensions;
    capacity = b.capacity;
    directions = b.directions;
  }

-- a quote more is one position more
newest_quoted : (s : Reference) (x : List ℕ) → newest (with_quote s x) ≡ suc (newest s)
unfolding with_quote
newest_quoted s x = length-append s.quotes (x ∷ []) ∙ omega arith

module _ {m : ℕ} {morning late : Reference} (b : Behind m morning late) (x : List ℕ) where
  -- the changes of n with a quote that both take, once n quotes are in before it
  pub late_changes : (n : ℕ) → n ≤ newest late
      → list_changes (skyline_of morning n) (skyline_of (with_quote morning x) n)
      ≡ map (moved_change m) (list_changes (skyline_of late n) (skyline_of (with_quote late x) n))
  late_changes n h =
      rw (late_list b n h, late_list (behind_quote b x) n (rw (newest_quoted late x) (omega arith)))
      (changes_moved m (skyline_of late n) (skyline_of (with_quote late x) n))

  -- and of the pair n1 and n2, once n2 are in
  pub late_pair_changes : (n1 n2 : ℕ) → n1 ≤ n2 → n2 ≤ newest late
      → list_changes (past_of morning n1 n2) (past_of (with_quote morning x) n1 n2)
      ≡ map (moved_change m) (list_changes (past_of late n1 n2) (past_of (with_quote late x) n1 n2))
  late_pair_changes n1 n2 j h =
      rw (late_past b n1 n2 j h, late_past (behind_quote b x) n1 n2 j (rw (newest_quoted late x) (omega arith)))
      (changes_moved m (past_of late n1 n2) (past_of (with_quote late x) n1 n2))
