-- Laws of tests of the first k numbers: some, each, the least. Assumes nothing.
use mathlib.Core.Path.{◌≡◌, refl, sym, ap, ◌∙◌}
use mathlib.Core.Bool.{Bool, true, false, not, cond}
use mathlib.Core.Logic.{◌⊎◌, inl, inr, ⊎_elim}
use Prim.Native.Nat.{ℕ, zero, suc, ◌<◌, ◌≤◌}
use native.Mathlib.Omega.{arith}
use native.Mathlib.Decide.{dec_lt}
use lib.Dec.{eqb}
use borrow.Author.Tests.{eq-eqb, ne_eqb}
use Rattle.lists.proofs.Booleans.{either, clash, refute, and_left, and_right, both, or_cases, or_left, or_right, neither, none_left, none_right}
use Rattle.drill_model.specs.Turns.{some_below, each_below, least_below}

-- below a bound or not
pub below_or_not : (i k : ℕ) → (i < k) ⊎ (k ≤ i)
below_or_not i k = go (dec_lt i k)
  where
    go : Dec (i < k) → (i < k) ⊎ (k ≤ i)
    go (yes h) = inl h
    go (no h) = inr (omega arith)

-- below k + 1: below k, or k itself
pub below_cases : (i k : ℕ) → i < suc k → (i < k) ⊎ (i ≡ k)
below_cases i k h = ⊎_elim (λ a. inl a) (λ b. inr (omega arith)) (below_or_not i k)

module _ (f : ℕ → Bool) where
  pub some_at : (k i : ℕ) → i < k → f i ≡ true → some_below f k ≡ true
  unfolding some_below
  some_at zero i h e = absurd (omega arith)
  some_at (suc k) i h e =
      ⊎_elim (λ a. or_left (some_below f k) (f k) (some_at k i a e)) (λ b. or_right (some_below f k) (f k) (rw b at e)) (below_cases i k h)

  pub some_found : (k : ℕ) → some_below f k ≡ true → (i : ℕ) × (i < k) × (f i ≡ true)
  unfolding some_below
  some_found zero e = absurd (clash false e refl)
  some_found (suc k) e =
      ⊎_elim (λ a. let t = some_found k a in (t.0, omega (arith, t.1), t.2)) (λ b. (k, omega arith, b)) (or_cases (some_below f k) (f k) e)

  pub some_none : (k : ℕ) → ((i : ℕ) → i < k → f i ≡ false) → some_below f k ≡ false
  some_none k h = refute (some_below f k) (λ e. let t = some_found k e in clash (f t.0) t.2 (h t.0 t.1))

  pub none_some : (k i : ℕ) → some_below f k ≡ false → i < k → f i ≡ false
  none_some k i e h = refute (f i) (λ t. clash (some_below f k) (some_at k i h t) e)

  pub each_at : (k i : ℕ) → each_below f k ≡ true → i < k → f i ≡ true
  unfolding each_below
  each_at zero i e h = absurd (omega arith)
  each_at (suc k) i e h =
      ⊎_elim (λ a. each_at k i (and_left (each_below f k) (f k) e) a) (λ b. rw b (and_right (each_below f k) (f k) e)) (below_cases i k h)

  pub each_all : (k : ℕ) → ((i : ℕ) → i < k → f i ≡ true) → each_below f k ≡ true
  unfolding each_below
  each_all zero h = refl
  each_all (suc k) h = both (each_below f k) (f k) (each_all k (λ i u. h i (omega arith))) (h k (omega arith))

  pub each_not : (k i : ℕ) → i < k → f i ≡ false → each_below f k ≡ false
  each_not k i h e = refute (each_below f k) (λ t. clash (f i) (each_at k i t h) e)

  -- none passes: there is no least
  pub least_none : (k : ℕ) → some_below f k ≡ false → least_below f k ≡ 0
  unfolding least_below some_below
  least_none zero e = refl
  least_none (suc k) e = rw (none_left (some_below f k) (f k) e, none_right (some_below f k) (f k) e)

  -- the first that passes is the least
  pub least_at : (k i : ℕ) → i < k → some_below f i ≡ false → f i ≡ true → least_below f k ≡ suc i
  unfolding least_below
  least_at zero i h e t = absurd (omega arith)
  least_at (suc k) i h e t =
      ⊎_elim
      (λ a. rw (some_at k i a t) (least_at k i a e t))
      (λ b. rw (rw b at e, rw b at t) (ap suc (sym b)))
      (below_cases i k h)

  -- the least passes, and no smaller one does
  pub least_is : (k i : ℕ) → least_below f k ≡ suc i → (i < k) × (f i ≡ true) × ((j : ℕ) → j < i → f j ≡ false)
  unfolding least_below
  least_is zero i e = absurd (omega arith)
  least_is (suc k) i e = ⊎_elim
      (λ a. let t = least_is k i (rw a at e) in (omega (arith, t.0), t.1, t.2))
      (λ (b : some_below f k ≡ false). ⊎_elim
      (λ (c : f k ≡ true). let found : suc k ≡ suc i = rw (b, c) at e in let same : k ≡ i = omega arith in
      (omega arith, rw (← same) c, λ j u. none_some k j b (omega arith)))
      (λ (c : f k ≡ false). let found : 0 ≡ suc i = rw (b, c) at e in absurd (omega arith))
      (either (f k)))
      (either (some_below f k))

  -- the least, counted from 1, is at most k
  pub least_within : (k : ℕ) → least_below f k ≤ k
  unfolding least_below
  least_within zero = omega arith
  least_within (suc k) = go (some_below f k) (f k) (least_within k)
    where
      go : (b c : Bool) → least_below f k ≤ k → cond b (least_below f k) (cond c (suc k) 0) ≤ suc k
      go true c h = omega arith
      go false true h = omega arith
      go false false h = omega arith

  -- some passes exactly if there is a least
  pub least_some : (k : ℕ) → least_below f k ≡ 0 → some_below f k ≡ false
  unfolding least_below some_below
  least_some zero z = refl
  least_some (suc k) z = ⊎_elim
      (λ a. absurd (clash (some_below f k) a (least_some k (rw a at z))))
      (λ (b : some_below f k ≡ false). ⊎_elim
      (λ (c : f k ≡ true). let found : suc k ≡ 0 = rw (b, c) at z in absurd (omega arith))
      (λ (c : f k ≡ false). neither (some_below f k) (f k) b c)
      (either (f k)))
      (either (some_below f k))

  pub some_least : (k : ℕ) → some_below f k ≡ not (eqb (least_below f k) 0)
  some_least k = ⊎_elim
      (λ (a : some_below f k ≡ true). a ∙ sym (ap not (ne_eqb (least_below f k) 0 (λ z. clash (some_below f k) a (least_some k z)))))
      (λ (b : some_below f k ≡ false). b ∙ sym (ap not (eq-eqb (least_below f k) 0 (least_none k b))))
      (either (some_below f k))

-- the same tests give the same answers
module _ (f g : ℕ → Bool) where
  pub some_same : (k : ℕ) → ((i : ℕ) → i < k → f i ≡ g i) → some_below f k ≡ some_below g k
  unfolding some_below
  some_same zero h = refl
  some_same (suc k) h = rw (some_same k (λ i u. h i (omega arith)), h k (omega arith))

  pub each_same : (k : ℕ) → ((i : ℕ) → i < k → f i ≡ g i) → each_below f k ≡ each_below g k
  unfolding each_below
  each_same zero h = refl
  each_same (suc k) h = rw (each_same k (λ i u. h i (omega arith)), h k (omega arith))

  pub least_same : (k : ℕ) → ((i : ℕ) → i < k → f i ≡ g i) → least_below f k ≡ least_below g k
  unfolding least_below
  least_same zero h = refl
  least_same (suc k) h = rw (some_same k (λ i u. h i (omega arith)), least_same k (λ i u. h i (omega arith)), h k (omega arith))
