-- Blocks of rows: how many are live, and those that need not be gone through row by row.
use mathlib.Core.Path.{◌≡◌, refl, ap}
use Prim.Native.Nat.{ℕ, zero, suc, ◌+◌, ◌*◌, ◌≤◌, ◌<◌}
use native.Mathlib.Numerals.{add-one}
use native.Mathlib.Decide.{dec_le}
use native.Mathlib.Omega.{arith}
use mathlib.Core.Bool.{Bool, true, false, ◌&&◌, ◌||◌, not, cond}
use mathlib.Core.List.{List, []}
use lib.ListN.{length, drop, length-append}
use borrow.Author.Tests.{not-true, not-false}
use Rattle.lists.specs.Lists.{keep, filter, any, run}
use Rattle.lists.proofs.Booleans.{and_left, and_right}
use Rattle.lists.proofs.Filters.{filter_append, any_append}
use Rattle.lists.proofs.Runs.{run_snoc, none_any}
use Rattle.dominance.specs.declared.Comparison.{Comparison}
use Rattle.dominance.specs.Dominance.{some_better}
use Rattle.dominance.specs.Compared.{compared}
use Rattle.dominance.proofs.Comparing.{no_worse_by, dominated_by_lem, compared_take}
use Rattle.table_finding.specs.Found.{live, live_in, Rows, row_at, over, under, crosses, dull_in}

-- ---- live rows counted

pub live_more : (uppers : List ℕ) (a k : ℕ) → live_in uppers a (k + 1) ≡ live_in uppers a k + cond (live uppers (a + k)) 1 0
unfolding live_in filter
live_more uppers a k = rw (add-one, run_snoc, filter_append, length-append) (ap (λ (n : ℕ). live_in uppers a k + n) (go (live uppers (a + k))))
  where
    go : (b : Bool) → length (keep b (a + k) []) ≡ cond b 1 0
    go true = refl
    go false = refl

-- where none is counted none is live
pub none_live : (f : ℕ → Bool) (a k : ℕ) → length (filter f (run a k)) ≡ 0 → (q : ℕ) → a ≤ q → q < a + k → f q ≡ false
unfolding filter run
none_live f a zero e q h l = absurd (omega arith)
none_live f a (suc k) e q h l = go (f a) refl e (dec_le (suc a) q) (λ z m. none_live f (suc a) k z q m (omega arith))
  where
    go : (b : Bool) → f a ≡ b → length (keep b a (filter f (run (suc a) k))) ≡ 0 → Dec (suc a ≤ q)
        → (length (filter f (run (suc a) k)) ≡ 0 → suc a ≤ q → f q ≡ false) → f q ≡ false
    go true t z d r = absurd (omega arith)
    go false t z (yes m) r = r z m
    go false t z (no m) r = let s : q ≡ a = omega arith in rw s t

module _ (s : Rows) where
  -- ---- rows that are not comparable

  crosses_by : (i : ℕ) (c : Comparison) → c ≡ compared s.d s.directions s.quote (drop (i * s.d) s.columns) → crosses s i ≡ c.better && c.worse
  unfolding crosses row_at compared
  crosses_by i c e = rw e (ap (λ (r : Comparison). r.better && r.worse) (compared_take s.d s.directions s.quote (drop (i * s.d) s.columns)))

  pub dull_none : (a : ℕ) → dull_in s a 0 ≡ true
  unfolding dull_in any run
  dull_none a = refl

  pub dull_more : (a k : ℕ) (c : Comparison) → c ≡ compared s.d s.directions s.quote (drop ((a + k) * s.d) s.columns)
      → dull_in s a (k + 1) ≡ dull_in s a k && (c.better && c.worse)
  unfolding dull_in any
  dull_more a k c e = rw (add-one, run_snoc, any_append, crosses_by (a + k) c e) (go (any (λ i. not (crosses s i)) (run a k)) c.better c.worse)
    where
      go : (x y z : Bool) → not (x || (not (y && z) || false)) ≡ not x && (y && z)
      go true y z = refl
      go false true true = refl
      go false true false = refl
      go false false z = refl

  apart : (i : ℕ) → crosses s i ≡ true → (over s i ≡ false) × (under s i ≡ false)
  unfolding crosses over under compared
  apart i e =
      let better = some_better s.d s.directions s.quote (row_at s i) in
      let worse = some_better s.d s.directions (row_at s i) s.quote in
      let b : better ≡ true = and_left better worse e in
      let w : worse ≡ true = and_right better worse e in
      (rw (no_worse_by, w), rw (dominated_by_lem, b, w))

  pub dull_apart : (a k : ℕ) → dull_in s a k ≡ true → (q : ℕ) → a ≤ q → q < a + k → (over s q ≡ false) × (under s q ≡ false)
  unfolding dull_in
  dull_apart a k e q h l = apart q (not-false (crosses s q) (none_any (λ i. not (crosses s i)) a k (not-true (any (λ i. not (crosses s i)) (run a k)) e) q h l))
