-- The ends that the audit asks of rows that fill their window are the ends of their positions on the tape.
use mathlib.Core.Path.{◌≡◌, sym, ap, ◌∙◌}
use Prim.Native.Nat.{ℕ, suc, ◌+◌, ◌-◌, ◌≤◌, ◌<◌}
use native.Mathlib.Decide.{dec_lt}
use native.Mathlib.Omega.{arith}
use mathlib.Core.Bool.{Bool, false, ◌&&◌, not}
use mathlib.Core.List.{List, map, Memᴰ}
use lib.Dec.{ltb, eqb}
use borrow.Author.Tests.{lt-ltb, le-ltb, eqb-true, eq-eqb, not-false}
use Rattle.lists.specs.Lists.{filter, any, head_or, last_or, run, between}
use Rattle.lists.proofs.Booleans.{none_left, none_right}
use Rattle.lists.proofs.Filters.{filter_map}
use Rattle.lists.proofs.Members.{mem_none, none_mem, into_map, filter_same_mem}
use Rattle.lists.proofs.Runs.{filter_same, filter_from, filter_upto, of_run}
use Rattle.dominance.specs.Renewal.{quote_at, renewed}
use Rattle.skyline.specs.Past.{lower_end, upper_end}
use Rattle.model.specs.Rows.{Row, over_older, over_younger}
use Rattle.model_audit.specs.Audit.{right_lower, right_upper, wrong_end}
use Rattle.model.proofs.Quotes.{younger_over, older_over}

-- those of a window that are older than p
older_part : (f : ℕ → Bool) (S M p : ℕ) → 1 ≤ S → S ≤ p → p ≤ M → filter (λ q. ltb q p && f q) (between S M) ≡ filter f (between S (p - 1))
unfolding between
older_part f S M p h u v =
    let cut : suc M - S ≡ (suc (p - 1) - S) + (suc M - p) = omega arith in
    ap (λ (k : ℕ). filter (λ q. ltb q p && f q) (run S k)) cut
    ∙ filter_upto (λ q. ltb q p && f q) S (suc (p - 1) - S) (suc M - p) (λ q a b. rw (le-ltb q p (omega arith)))
    ∙ filter_same (λ q. ltb q p && f q) f S (suc (p - 1) - S) (λ q a b. rw (lt-ltb q p (omega arith)))

-- those that are younger
younger_part : (f : ℕ → Bool) (S M p : ℕ) → S ≤ p → p ≤ M → filter (λ q. ltb p q && f q) (between S M) ≡ filter f (between (suc p) M)
unfolding between
younger_part f S M p u v =
    let cut : suc M - S ≡ (suc p - S) + (suc M - suc p) = omega arith in
    let mid : S + (suc p - S) ≡ suc p = omega arith in
    ap (λ (k : ℕ). filter (λ q. ltb p q && f q) (run S k)) cut
    ∙ filter_from (λ q. ltb p q && f q) S (suc p - S) (suc M - suc p) (λ q a b. rw (le-ltb p q (omega arith)))
    ∙ ap (λ (a : ℕ). filter (λ q. ltb p q && f q) (run a (suc M - suc p))) mid
    ∙ filter_same (λ q. ltb p q && f q) f (suc p) (suc M - suc p) (λ q a b. rw (lt-ltb p q a))

-- tests that agree where p is less than q
where_less : (p q : ℕ) {a b : Bool} → (p < q → a ≡ b) → ltb p q && a ≡ ltb p q && b
where_less p q {a} {b} f = go (dec_lt p q)
  where
    go : Dec (p < q) → ltb p q && a ≡ ltb p q && b
    go (yes h) = rw (f h)
    go (no n) = rw (le-ltb p q (omega arith))

module _ (d directions S M : ℕ) (qs : List (List ℕ)) (rs : List Row) (low : 1 ≤ S) (window : map Row.position rs ≡ between S M)
    (columns : (r : Row) → Memᴰ r rs → quote_at qs r.position ≡ r.columns) where
  -- one position of the tape is over another
  abbrev over : ℕ → ℕ → Bool
  over = renewed d directions qs

  -- a row is in the window
  pub row_within : (r : Row) → Memᴰ r rs → (S ≤ r.position) × (r.position ≤ M)
  unfolding between
  row_within r m = let t = of_run S (suc M - S) r.position (rw window at (into_map Row.position r rs m)) in (t.0, omega arith)

  -- an older row is over a younger one, and a younger one over an older one, as their positions are
  lower_rows : (q r : Row) → Memᴰ q rs → Memᴰ r rs → ltb q.position r.position && over_younger d directions q r.columns ≡ ltb q.position r.position && over q.position r.position
  lower_rows q r m n =
      where_less q.position r.position (λ h. sym (older_over d directions qs r.position q h (columns q m) ∙ rw (columns r n)))

  upper_rows : (q r : Row) → Memᴰ q rs → Memᴰ r rs → ltb r.position q.position && over_older d directions q.columns r ≡ ltb r.position q.position && over q.position r.position
  upper_rows q r m n =
      where_less r.position q.position (λ h. sym (younger_over d directions qs q.position r h (columns r n) ∙ rw (columns q m)))

  -- a test of rows by position, and one of their positions
  by_position : (f : ℕ → Bool) → map Row.position (filter (λ q. f q.position) rs) ≡ filter f (between S M)
  by_position f = sym (filter_map f Row.position rs) ∙ ap (filter f) window

  module _ (r : Row) (m : Memᴰ r rs) where
    pub right_lower_lem : right_lower d directions rs r ≡ lower_end over S r.position
    unfolding right_lower lower_end
    right_lower_lem =
        ap (λ (l : List Row). last_or 0 (map Row.position l)) (filter_same_mem (λ q. ltb q.position r.position && over_younger d directions q r.columns) (λ q. ltb q.position r.position && over q.position r.position) rs (λ q n. lower_rows q r n m))
        ∙ ap (last_or 0) (by_position (λ q. ltb q r.position && over q r.position) ∙ older_part (λ q. over q r.position) S M r.position low (row_within r m).0 (row_within r m).1)

    pub right_upper_lem : right_upper d directions rs r ≡ upper_end over M r.position
    unfolding right_upper upper_end
    right_upper_lem =
        ap (λ (l : List Row). head_or 0 (map Row.position l)) (filter_same_mem (λ q. ltb r.position q.position && over_older d directions q.columns r) (λ q. ltb r.position q.position && over q.position r.position) rs (λ q n. upper_rows q r n m))
        ∙ ap (head_or 0) (by_position (λ q. ltb r.position q && over q r.position) ∙ younger_part (λ q. over q r.position) S M r.position (row_within r m).0 (row_within r m).1)

  -- where no end is wrong, both are those of the tape
  pub ends_are : any (wrong_end d directions rs) rs ≡ false → (r : Row) → Memᴰ r rs → (r.lower_end ≡ lower_end over S r.position) × (r.upper_end ≡ upper_end over M r.position)
  unfolding wrong_end
  ends_are e r m =
      let n = mem_none (wrong_end d directions rs) r rs m e in
      let lower = eqb r.lower_end (right_lower d directions rs r) in
      let upper = eqb r.upper_end (right_upper d directions rs r) in (
        eqb-true r.lower_end (right_lower d directions rs r) (not-false lower (none_left (not lower) (not upper) n)) ∙ right_lower_lem r m,
        eqb-true r.upper_end (right_upper d directions rs r) (not-false upper (none_right (not lower) (not upper) n)) ∙ right_upper_lem r m,
      )

  -- and the other way round
  pub are_ends : ((r : Row) → Memᴰ r rs → (r.lower_end ≡ lower_end over S r.position) × (r.upper_end ≡ upper_end over M r.position)) → any (wrong_end d directions rs) rs ≡ false
  unfolding wrong_end
  are_ends f =
      none_mem (wrong_end d directions rs) rs (λ r m. rw (
        eq-eqb r.lower_end (right_lower d directions rs r) ((f r m).0 ∙ sym (right_lower_lem r m)),
        eq-eqb r.upper_end (right_upper d directions rs r) ((f r m).1 ∙ sym (right_upper_lem r m)),
      ))
