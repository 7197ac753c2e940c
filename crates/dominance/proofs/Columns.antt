-- Dominance taken apart column by column, and put together again.
use mathlib.Core.Path.{◌≡◌, refl}
use mathlib.Core.Logic.{◌⊎◌, inl, inr}
use Prim.Native.Nat.{ℕ, zero, suc, ◌<◌}
use native.Mathlib.Nat.{le_refl}
use native.Mathlib.Omega.{arith}
use native.Mathlib.Decide.{dec_lt}
use mathlib.Core.Bool.{true, false, ◌||◌, not}
use mathlib.Core.List.{List}
use borrow.Author.Tests.{not-true}
use Rattle.lists.proofs.Booleans.{clash, not_of, and_left, and_right, both, or_cases, or_left, or_right}
use Rattle.dominance.specs.Dominance.{better_at, no_worse, some_better, dominates}

-- in no column below d is q better than p, and in some column p is better than q
pub record Dominates (d directions : ℕ) (p q : List ℕ) : Type 0 where
  pub no_worse_lem : (i : ℕ) → i < d → better_at directions i q p ≡ false
  pub at : ℕ
  pub below : at < d
  pub is_better : better_at directions at p q ≡ true

module _ (directions : ℕ) (p q : List ℕ) where
  pub no_worse_at : (d : ℕ) → no_worse d directions p q ≡ true → (i : ℕ) → i < d → better_at directions i q p ≡ false
  unfolding no_worse
  no_worse_at zero e i h = absurd (omega arith)
  no_worse_at (suc d) e i h =
      go (dec_lt i d) (λ k. no_worse_at d (and_left (no_worse d directions p q) (not (better_at directions d q p)) e) i k)
    where
      go : Dec (i < d) → (i < d → better_at directions i q p ≡ false) → better_at directions i q p ≡ false
      go (yes k) r = r k
      go (no n) r =
          let z : i ≡ d = omega arith in
          rw z (not-true (better_at directions d q p) (and_right (no_worse d directions p q) (not (better_at directions d q p)) e))

  pub at_no_worse : (d : ℕ) → ((i : ℕ) → i < d → better_at directions i q p ≡ false) → no_worse d directions p q ≡ true
  unfolding no_worse
  at_no_worse zero f = refl
  at_no_worse (suc d) f =
      both (no_worse d directions p q) (not (better_at directions d q p)) (at_no_worse d (λ i h. f i (omega arith))) (not_of (better_at directions d q p) (f d (le_refl (suc d))))

  pub better_at_lem : (d : ℕ) → some_better d directions p q ≡ true → (i : ℕ) × (i < d) × (better_at directions i p q ≡ true)
  unfolding some_better
  better_at_lem zero e = absurd (clash false e refl)
  better_at_lem (suc d) e = go (or_cases (some_better d directions p q) (better_at directions d p q) e) (λ t. better_at_lem d t)
    where
      go : (some_better d directions p q ≡ true) ⊎ (better_at directions d p q ≡ true)
          → (some_better d directions p q ≡ true → (i : ℕ) × (i < d) × (better_at directions i p q ≡ true)) → (i : ℕ) × (i < suc d) × (better_at directions i p q ≡ true)
      go (inl t) r = let s = r t in (s.0, omega arith, s.2)
      go (inr t) r = (d, le_refl (suc d), t)

  pub at_better : (d i : ℕ) → i < d → better_at directions i p q ≡ true → some_better d directions p q ≡ true
  unfolding some_better
  at_better zero i h e = absurd (omega arith)
  at_better (suc d) i h e = go (dec_lt i d) (λ k. at_better d i k e)
    where
      go : Dec (i < d) → (i < d → some_better d directions p q ≡ true) → some_better d directions p q || better_at directions d p q ≡ true
      go (yes k) r = or_left (some_better d directions p q) (better_at directions d p q) (r k)
      go (no n) r = let z : d ≡ i = omega arith in or_right (some_better d directions p q) (better_at directions d p q) (rw z e)

  pub dominates_columns : (d : ℕ) → dominates d directions p q ≡ true → Dominates d directions p q
  unfolding dominates
  dominates_columns d e =
      let b = better_at_lem d (and_right (no_worse d directions p q) (some_better d directions p q) e) in
      record { no_worse_lem = no_worse_at d (and_left (no_worse d directions p q) (some_better d directions p q) e); at = b.0; below = b.1; is_better = b.2 }

  pub columns_dominate : (d : ℕ) → Dominates d directions p q → dominates d directions p q ≡ true
  unfolding dominates
  columns_dominate d c =
      both (no_worse d directions p q) (some_better d directions p q) (at_no_worse d c.no_worse_lem) (at_better d c.at c.below c.is_better)
