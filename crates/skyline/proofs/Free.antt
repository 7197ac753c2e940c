-- Members of a skyline: those that no position of the window dominates, rising.
use mathlib.Core.Path.{◌≡◌}
use Prim.Native.Nat.{ℕ, suc, ◌-◌, ◌≤◌}
use native.Mathlib.Omega.{arith}
use native.Mathlib.Decide.{dec_le}
use mathlib.Core.Bool.{Bool, true, false, not}
use mathlib.Core.List.{Memᴰ}
use borrow.Author.Tests.{not-true}
use Rattle.lists.specs.Lists.{run, between, rising}
use Rattle.lists.proofs.Booleans.{not_of}
use Rattle.lists.proofs.Members.{into_filter, of_filter}
use Rattle.lists.proofs.Runs.{into_run, of_run, any_none, none_any}
use Rattle.lists.proofs.Rising.{rising_run, rising_filter}
use Rattle.skyline.specs.Skyline.{dominated_in, skyline}

module _ (dom : ℕ → ℕ → Bool) where
  -- none of the positions s to M dominates p
  abbrev pub Free : ℕ → ℕ → ℕ → Type 0
  Free s M p = (q : ℕ) → s ≤ q → q ≤ M → dom q p ≡ false

  pub free_of : (s M p : ℕ) → s ≤ suc M → dominated_in dom s M p ≡ false → Free s M p
  unfolding dominated_in between
  free_of s M p h e q u v = none_any (λ q. dom q p) s (suc M - s) e q u (omega arith)

  pub of_free : (s M p : ℕ) → s ≤ suc M → Free s M p → dominated_in dom s M p ≡ false
  unfolding dominated_in between
  of_free s M p h f = any_none (λ q. dom q p) s (suc M - s) (λ q u v. f q u (omega arith))

  pub into_skyline : (a b p : ℕ) → a ≤ p → p ≤ b → Free a b p → Memᴰ p (skyline dom a b)
  unfolding skyline between
  into_skyline a b p h k f =
      into_filter (λ q. not (dominated_in dom a b q)) p (run a (suc b - a)) (into_run a (suc b - a) p h (omega arith))
      (not_of (dominated_in dom a b p) (of_free a b p (omega arith) f))

  pub of_skyline : (a b p : ℕ) → Memᴰ p (skyline dom a b) → (a ≤ p) × (p ≤ b) × Free a b p
  unfolding skyline between
  of_skyline a b p m =
      let t = of_filter (λ q. not (dominated_in dom a b q)) p (run a (suc b - a)) m in
      let r = of_run a (suc b - a) p t.0 in
      let k : p ≤ b = omega arith in
      (r.0, k, free_of a b p (omega arith) (not-true (dominated_in dom a b p) t.1))

  -- a skyline rises within its window
  pub skyline_rises : (a b lo hi : ℕ) → lo ≤ a → b ≤ hi → rising lo hi (skyline dom a b) ≡ true
  unfolding skyline between run rising
  skyline_rises a b lo hi h k = rising_filter (λ p. not (dominated_in dom a b p)) lo hi (run a (suc b - a)) (go (dec_le a (suc b)))
    where
      go : Dec (a ≤ suc b) → rising lo hi (run a (suc b - a)) ≡ true
      go (yes w) = rising_run lo hi a (suc b - a) h (omega arith)
      go (no w) = let z : suc b - a ≡ 0 = omega arith in rw z
