-- Where ends need not be sought, over a transitive dominance: which positions can have a position as their lower or upper
-- end, and on which lists.
use mathlib.Core.Path.{◌≡◌}
use mathlib.Core.Logic.{◌⊎◌, inl, inr}
use Prim.Native.Nat.{ℕ, ◌≤◌, ◌<◌}
use native.Mathlib.Omega.{arith}
use native.Mathlib.Decide.{dec_lt}
use mathlib.Core.Bool.{Bool, true, false}
use Rattle.lists.proofs.Booleans.{clash}
use Rattle.lists.proofs.Runs.{order}
use Rattle.skyline.specs.Past.{lower_end, upper_end}
use Rattle.skyline.proofs.Ends.{NoneOrOlder, NoneOrYounger, lower_spec, upper_spec}

module _ (dom : ℕ → ℕ → Bool) (tra : (p q r : ℕ) → dom p q ≡ true → dom q r ≡ true → dom p r ≡ true) where
  module _ (irr : (p : ℕ) → dom p p ≡ false) where
    -- a position whose lower end is p lies before p's upper end, if p has one: behind it no lower end names p
    pub lower_before_upper : (S M p q : ℕ) → 0 < p → lower_end dom S q ≡ p → 0 < upper_end dom M p → q < upper_end dom M p
    lower_before_upper S M p q h e k = go (lower_spec dom S q).named (upper_spec dom M p).named
      where
        u : ℕ
        u = upper_end dom M p

        go : NoneOrOlder dom S q (lower_end dom S q)
            → NoneOrYounger dom M p u → q < u
        go (inl z) s = absurd (omega arith)
        go (inr t) (inl z) = absurd (omega arith)
        go (inr t) (inr s) = cmp (order q u)
          where
            over : dom u q ≡ true
            over = tra u p q s.2 (rw e at t.2)

            cmp : (q < u) ⊎ ((q ≡ u) ⊎ (u < q)) → q < u
            cmp (inl w) = w
            cmp (inr (inl w)) = absurd (clash (dom u q) over (rw w (irr u)))
            cmp (inr (inr w)) =
                absurd (clash (dom u q) over ((lower_spec dom S q).after u (omega arith) (omega arith) w))

    -- a list gains a position whose lower end is p, as p leaves its window, only if p is live on that list
    pub gained_from_live : (S M b p q : ℕ) → 0 < p → lower_end dom S q ≡ p → q ≤ b
        → (upper_end dom M q ≡ 0) ⊎ (b < upper_end dom M q)
        → (upper_end dom M p ≡ 0) ⊎ (b < upper_end dom M p)
    gained_from_live S M b p q h e k above =
        go (lower_spec dom S q).named (upper_spec dom M p).named above (dec_lt b u)
      where
        u : ℕ
        u = upper_end dom M p

        go : NoneOrOlder dom S q (lower_end dom S q)
            → NoneOrYounger dom M p u → (upper_end dom M q ≡ 0) ⊎ (b < upper_end dom M q) → Dec (b < u) → (u ≡ 0) ⊎ (b < u)
        go (inl z) s t d = absurd (omega arith)
        go (inr r) (inl z) t d = inl z
        go (inr r) (inr s) t (yes w) = inr w
        go (inr r) (inr s) t (no n) = absurd (clash (dom u q) (tra u p q s.2 (rw e at r.2)) (clear t))
          where
            before : q < u
            before = lower_before_upper S M p q h e (omega arith)

            clear : (upper_end dom M q ≡ 0) ⊎ (b < upper_end dom M q) → dom u q ≡ false
            clear (inl z) = (upper_spec dom M q).live z u before s.1
            clear (inr w) = (upper_spec dom M q).before u before (omega arith)

    -- a position whose upper end is p lies behind p's lower end
    pub upper_behind_lower : (S M p q : ℕ) → 1 ≤ q → 0 < p → upper_end dom M q ≡ p → lower_end dom S p < q
    upper_behind_lower S M p q h k e = go (lower_spec dom S p).named (upper_spec dom M q).named
      where
        y : ℕ
        y = lower_end dom S p

        go : NoneOrOlder dom S p y
            → NoneOrYounger dom M q (upper_end dom M q) → y < q
        go (inl z) s = omega arith
        go (inr t) (inl z) = absurd (omega arith)
        go (inr t) (inr s) = cmp (order y q)
          where
            over : dom y q ≡ true
            over = tra y p q t.2 (rw e at s.2)

            cmp : (y < q) ⊎ ((y ≡ q) ⊎ (q < y)) → y < q
            cmp (inl w) = w
            cmp (inr (inl w)) = absurd (clash (dom y q) over (rw w (irr q)))
            cmp (inr (inr w)) = absurd (clash (dom y q) over ((upper_spec dom M q).before y w (omega arith)))
