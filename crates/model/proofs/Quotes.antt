-- The rows after one more quote are the book model's step of the rows before, and every past list is what its window covers of them.
use mathlib.Core.Path.{◌≡◌, sym, ap, ap₂, ◌∙◌}
use Prim.Native.Nat.{ℕ, suc, ◌+◌, ◌-◌, ◌≤◌, ◌<◌}
use native.Mathlib.Omega.{arith}
use native.Mathlib.Numerals.{add-one}
use mathlib.Core.Bool.{Bool, ◌&&◌, not, cond}
use mathlib.Core.List.{List, [], ◌∷◌, ◌++◌, map}
use lib.Dec.{eqb}
use lib.ListN.{length, length-append, get_or-append}
use lib.Seq.{get_or-append_seam}
use borrow.Author.Tests.{lt-ltb, eq-eqb, ne_eqb}
use Rattle.lists.specs.Lists.{filter, last_or, run, between}
use Rattle.lists.proofs.Filters.{filter_map, map-append, map_map, map-id}
use Rattle.lists.proofs.Members.{map_same_mem}
use Rattle.lists.proofs.Runs.{between_snoc, filter_same, filter_all, filter_from, of_run}
use Rattle.dominance.specs.Renewal.{quote_at, renewed}
use Rattle.dominance.proofs.Renewal.{renewed_later, renewed_earlier, renewed_irreflexive}
use Rattle.skyline.specs.Skyline.{window_start}
use Rattle.skyline.specs.Past.{lower_end, upper_end}
use Rattle.skyline.proofs.Ends.{upper_new, lower_new, lower_step, upper_step, lower_cong, upper_cong}
use Rattle.skyline.proofs.Past.{past_covered, past_of_one}
use Rattle.head.specs.Heads.{last_position, after_quote}
use Rattle.model.specs.Rows.{Row, live_rows, expiring, renamed, listed, over_older, over_younger, retired_by, row_after, lower_end_among, rows_after}
use Rattle.model.specs.Reference.{Reference, newest, over, skyline_of, past_of, row_of, rows_of, head_of, with_quote}

-- a row of an older position, with the columns of the quote there, and the quote at a younger position p
module _ (d directions : ℕ) (quotes : List (List ℕ)) (p : ℕ) (r : Row) (h : r.position < p) (e : quote_at quotes r.position ≡ r.columns) where
  -- the younger position is over the older one exactly if its quote is over the row
  pub younger_over : renewed d directions quotes p r.position ≡ over_older d directions (quote_at quotes p) r
  unfolding over_older
  younger_over = renewed_later d directions quotes p r.position h ∙ rw e

  -- the older position is over the younger one exactly if the row is over its quote
  pub older_over : renewed d directions quotes r.position p ≡ over_younger d directions r (quote_at quotes p)
  unfolding over_younger
  older_over = renewed_earlier d directions quotes r.position p (omega arith) ∙ rw e

-- quotes that come later leave a position's quote as it is
pub quote_within : (quotes more : List (List ℕ)) (p : ℕ) → 1 ≤ p → p ≤ length quotes → quote_at (quotes ++ more) p ≡ quote_at quotes p
unfolding quote_at
quote_within quotes more p h k = get_or-append quotes more [] (p - 1) (omega arith)

-- and they leave what is over what between positions that were there
pub over_within : (d directions : ℕ) (quotes more : List (List ℕ)) (p q : ℕ) → 1 ≤ p → p ≤ length quotes → 1 ≤ q → q ≤ length quotes
    → renewed d directions (quotes ++ more) p q ≡ renewed d directions quotes p q
unfolding renewed
over_within d directions quotes more p q a b u v = rw (quote_within quotes more p a b, quote_within quotes more q u v)

-- for 1 ≤ n1 ≤ n2 ≤ N the list by the rows' ends is the past list of n1 and n2
pub past_listed : (s : Reference) (n1 n2 : ℕ) → 1 ≤ n1 → n1 ≤ n2 → n2 ≤ s.capacity
    → listed (window_start (newest s) n2) (newest s + 1 - n1) (rows_of s) ≡ past_of s n1 n2
unfolding listed rows_of row_of past_of
past_listed s n1 n2 h k l =
    rw (filter_map, map_map, map-id) (sym (past_covered (over s) (renewed_irreflexive s.dimensions s.directions s.quotes) s.capacity (newest s) n1 n2 h k l))

-- with n1 = 1 it is the list of n
pub past_is_skyline : (s : Reference) (n : ℕ) → past_of s 1 n ≡ skyline_of s n
unfolding past_of skyline_of
past_is_skyline s n = past_of_one (over s) (newest s) n

-- so for n from 1 to N the list by the rows' ends is the skyline of n
pub skyline_listed : (s : Reference) (n : ℕ) → 1 ≤ n → n ≤ s.capacity → listed (window_start (newest s) n) (newest s) (rows_of s) ≡ skyline_of s n
skyline_listed s n h k =
    let e : newest s ≡ newest s + 1 - 1 = omega arith in
    ap (λ (b : ℕ). listed (window_start (newest s) n) b (rows_of s)) e ∙ past_listed s 1 n (omega arith) h k ∙ past_is_skyline s n

-- ---- the window that moves on

module _ (M N : ℕ) (some : 1 ≤ N) where
  -- the window after a quote begins behind the position that expires
  pub window_moves : window_start (suc M) N ≡ suc (expiring M N)
  unfolding window_start expiring
  window_moves = omega arith

  -- which is the first of the window before it, or 0
  pub window_bounds : (expiring M N ≤ window_start M N) × (window_start M N ≤ suc (expiring M N)) × (expiring M N ≤ M) × (1 ≤ window_start M N)
  unfolding window_start expiring
  window_bounds = omega arith

  -- the positions of the window but the one that expires
  pub left_positions : filter (λ p. not (eqb p (expiring M N))) (between (window_start M N) M) ≡ between (suc (expiring M N)) M
  unfolding between
  left_positions =
      let o = window_bounds in
      let cut : suc M - S ≡ (suc g - S) + (suc M - suc g) = omega arith in
      let mid : S + (suc g - S) ≡ suc g = omega arith in
      ap (λ (k : ℕ). filter f (run S k)) cut
      ∙ filter_from f S (suc g - S) (suc M - suc g) (λ q u v. let e : q ≡ g = omega arith in rw (eq-eqb q g e))
      ∙ ap (λ (a : ℕ). filter f (run a (suc M - suc g))) mid
      ∙ filter_all f (suc g) (suc M - suc g) (λ q u v. rw (ne_eqb q g (λ e. omega arith)))
    where
      g : ℕ
      g = expiring M N

      S : ℕ
      S = window_start M N

      f : ℕ → Bool
      f p = not (eqb p g)

-- ---- one more quote

module _ (s : Reference) (x : List ℕ) (some : 1 ≤ s.capacity) where
  -- the newest position before the quote
  abbrev M : ℕ
  M = newest s

  -- the first position of the window of N before the quote
  abbrev S : ℕ
  S = window_start M s.capacity

  -- the position that expires
  abbrev g : ℕ
  g = expiring M s.capacity

  -- the quotes with x behind them
  abbrev more : List (List ℕ)
  more = s.quotes ++ (x ∷ [])

  -- which position is over which, with x behind
  abbrev D : ℕ → ℕ → Bool
  D = renewed s.dimensions s.directions more

  moves : window_start (suc M) s.capacity ≡ suc g
  moves = window_moves M s.capacity some

  pub onward : (g ≤ S) × (S ≤ suc g) × (g ≤ M) × (1 ≤ S)
  onward = window_bounds M s.capacity some

  pub newest_after : length more ≡ suc M
  newest_after = length-append s.quotes (x ∷ []) ∙ add-one M

  pub quote_new : quote_at more (suc M) ≡ x
  unfolding quote_at
  quote_new = let e : suc M - 1 ≡ M = omega arith in rw e (get_or-append_seam s.quotes x [] [])

  -- the quote changes nothing of that in the window before it
  pub unchanged : (p q : ℕ) → S ≤ p → p ≤ M → S ≤ q → q ≤ M → D p q ≡ over s p q
  unchanged p q a b u v = over_within s.dimensions s.directions s.quotes (x ∷ []) p q (omega (arith, onward)) b (omega (arith, onward)) v

  -- the new quote over an older one, and the other way round
  pub new_over : (p : ℕ) → 1 ≤ p → p ≤ M → D (suc M) p ≡ over_older s.dimensions s.directions x (row_of s p)
  unfolding row_of
  new_over p u v = younger_over s.dimensions s.directions more (suc M) (row_of s p) (omega arith) (quote_within s.quotes (x ∷ []) p u v) ∙ rw quote_new

  pub over_old : (q : ℕ) → 1 ≤ q → q ≤ M → D q (suc M) ≡ over_younger s.dimensions s.directions (row_of s q) x
  unfolding row_of
  over_old q u v = older_over s.dimensions s.directions more (suc M) (row_of s q) (omega arith) (quote_within s.quotes (x ∷ []) q u v) ∙ rw quote_new

  -- the rows that stay, by the book model's rule
  abbrev left : List Row
  left = filter (λ r. not (eqb r.position g)) (rows_of s)

  -- they are those positions' rows
  pub left_is : left ≡ map (row_of s) (between (suc g) M)
  unfolding rows_of row_of
  left_is = filter_map (λ r. not (eqb r.position g)) (row_of s) (between S M) ∙ ap (map (row_of s)) (left_positions M s.capacity some)

  -- a position that stays was held
  within : (p : ℕ) → suc g ≤ p → (S ≤ p) × (1 ≤ p)
  within p u = omega (arith, onward)

  -- its lower end
  old_lower : (p : ℕ) → suc g ≤ p → p ≤ M → lower_end D (suc g) p ≡ cond (eqb (lower_end (over s) S p) g) 0 (lower_end (over s) S p)
  old_lower p u v = rw (← (lower_cong D (over s) S M unchanged p (within p u).0 v)) (lower_step D S g p onward.0 onward.1 u)

  -- its upper end
  old_upper : (p : ℕ) → suc g ≤ p → p ≤ M
      → upper_end D (suc M) p ≡ cond (eqb (upper_end (over s) M p) 0 && over_older s.dimensions s.directions x (row_of s p)) (suc M) (upper_end (over s) M p)
  old_upper p u v = rw (← (upper_cong D (over s) S M unchanged p (within p u).0 v), ← over_new) (upper_step D M p v)
    where
      over_new : D (suc M) p ≡ over_older s.dimensions s.directions x (row_of s p)
      over_new = new_over p (within p u).1 v

  -- a row that stays
  old_row : (p : ℕ) → suc g ≤ p → p ≤ M → row_of (with_quote s x) p ≡ row_after s.dimensions s.directions x (M + 1) g (row_of s p)
  unfolding row_of with_quote row_after retired_by renamed
  old_row p u v = rw (newest_after, add-one, moves, old_lower p u v, old_upper p u v, quote_within s.quotes (x ∷ []) p (within p u).1 v)

  -- the lower end of the new row is sought among all rows that stay
  pub new_lower : lower_end D (suc g) (suc M) ≡ lower_end_among s.dimensions s.directions x left
  unfolding lower_end_among row_of between
  new_lower =
      lower_new D (suc g) M
      ∙ ap (last_or 0) (filter_same (λ q. D q (suc M)) (λ q. over_younger s.dimensions s.directions (row_of s q) x) (suc g) (suc M - suc g) (λ q u v. over_old q (omega arith) (omega (arith, onward))))
      ∙ sym (ap (lower_end_among s.dimensions s.directions x) left_is ∙ rw (filter_map, map_map, map-id))

  -- the new row
  new_row : row_of (with_quote s x) (suc M) ≡ record { position = M + 1; lower_end = lower_end_among s.dimensions s.directions x left; upper_end = 0; columns = x }
  unfolding row_of with_quote
  new_row = rw (add-one, newest_after, moves, new_lower, upper_new D (suc M) (suc M) (omega arith), quote_new)

  -- the positions held after the quote
  held_after_lem : between (window_start (length more) s.capacity) (length more) ≡ between (suc g) M ++ (suc M ∷ [])
  held_after_lem = rw (newest_after, moves) (between_snoc (suc g) M (omega (arith, onward)))

  -- the rows that stay
  old_rows : map (row_of (with_quote s x)) (between (suc g) M) ≡ map (row_after s.dimensions s.directions x (M + 1) g) left
  unfolding between
  old_rows =
      map_same_mem (row_of (with_quote s x)) (λ p. row_after s.dimensions s.directions x (M + 1) g (row_of s p)) (run (suc g) (suc M - suc g)) (λ p m. let r = of_run (suc g) (suc M - suc g) p m in old_row p r.0 (omega (arith, onward)))
      ∙ sym (map_map (row_after s.dimensions s.directions x (M + 1) g) (row_of s) (between (suc g) M))
      ∙ ap (map (row_after s.dimensions s.directions x (M + 1) g)) (sym left_is)

  -- the rows of the quotes with one more are the book model's step of the rows before
  pub rows_after_quote : rows_of (with_quote s x) ≡ rows_after s.dimensions s.directions s.capacity (newest s) x (rows_of s)
  unfolding rows_of with_quote rows_after
  rows_after_quote =
      ap (map (row_of (with_quote s x))) held_after_lem
      ∙ map-append (row_of (with_quote s x)) (between (suc g) M) (suc M ∷ [])
      ∙ ap₂ (λ (l : List Row) (r : Row). l ++ (r ∷ [])) old_rows new_row

  -- and their head is its step of the head before
  pub head_after_quote : newest s < last_position
      → let next = rows_after s.dimensions s.directions s.capacity (newest s) x (rows_of s) in
      after_quote (head_of s) (length (live_rows next)) (length next) ≡ head_of (with_quote s x)
  unfolding after_quote head_of with_quote
  head_after_quote h = rw (lt-ltb (newest s) last_position h, ← rows_after_quote, newest_after, add-one)
