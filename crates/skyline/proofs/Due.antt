-- When a held position comes onto the list of a closed window (000, theorem 4.1).
use mathlib.Core.Path.{◌≡◌}
use Prim.Native.Nat.{ℕ, ◌+◌, ◌-◌, ◌≤◌, ◌<◌}
use native.Mathlib.Omega.{arith}
use native.Mathlib.Decide.{dec_lt}
use mathlib.Core.Bool.{Bool, false}
use mathlib.Core.List.{Memᴰ}
use Rattle.skyline.specs.Skyline.{window_start, skyline}
use Rattle.skyline.specs.Past.{lower_end}
use Rattle.skyline.proofs.Free.{into_skyline, of_skyline}
use Rattle.skyline.proofs.Ends.{lower_spec}

module _ (dom : ℕ → ℕ → Bool) where
  -- a due position is on the past list of the pair once p + n1 − (M + 1) more quotes are in
  pub due_joins : (irr : (p : ℕ) → dom p p ≡ false) (S M n1 n2 p : ℕ) → S ≤ window_start M n2 → n1 ≤ n2 → 1 ≤ p
      → M + 1 < p + n1 → lower_end dom S p < window_start M n2
      → Memᴰ p (skyline dom (window_start (M + (p + n1 - (M + 1))) n2) (M + (p + n1 - (M + 1)) + 1 - n1))
  unfolding window_start
  due_joins irr S M n1 n2 p hS hn h1 hd hl =
      into_skyline dom (window_start (M + k) n2) (M + k + 1 - n1) p (omega arith) (omega arith)
      (λ q u v. go q u (omega arith) (dec_lt q p))
    where
      k : ℕ
      k = p + n1 - (M + 1)

      go : (q : ℕ) → window_start (M + k) n2 ≤ q → q ≤ p → Dec (q < p) → dom q p ≡ false
      go q u v (yes w) = (lower_spec dom S p).after q (omega arith) (omega arith) w
      go q u v (no n) = let z : q ≡ p = omega arith in rw z (irr p)

  -- and not while fewer are in
  pub due_not_before : (M n1 n2 p k : ℕ) → k < p + n1 - (M + 1)
      → Memᴰ p (skyline dom (window_start (M + k) n2) (M + k + 1 - n1)) → ⊥
  unfolding window_start
  due_not_before M n1 n2 p k h m = let t = of_skyline dom (window_start (M + k) n2) (M + k + 1 - n1) p m in omega arith
