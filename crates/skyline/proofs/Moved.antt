-- Which rows a window covers as it moves on by one, and as ends are renamed or set, by position and ends.
use mathlib.Core.Path.{◌≡◌, refl}
use mathlib.Core.Logic.{◌⊎◌, inl, inr}
use Prim.Native.Nat.{ℕ, suc, ◌≤◌, ◌<◌}
use native.Mathlib.Omega.{arith}
use native.Mathlib.Decide.{dec_lt}
use mathlib.Core.Bool.{Bool, true, false, ◌&&◌, ◌||◌, not, cond}
use mathlib.Core.List.{List}
use lib.Dec.{ltb, eqb}
use borrow.Author.Tests.{ltb-true, eqb-true, lt-ltb, eq-eqb, ne_eqb, not-true}
use Rattle.lists.specs.Lists.{filter, contains}
use Rattle.lists.proofs.Booleans.{agree, clash, refute, not_of, or_cases, or_left, or_right}
use Rattle.skyline.specs.Past.{covers}
use Rattle.skyline.proofs.Past.{Covered, of_covers, into_covers}

-- a row that cannot be covered is not
uncovered : (a b l p u : ℕ) → (Covered a b l p u → ⊥) → not (covers a b l p u) ≡ true
uncovered a b l p u f = not_of (covers a b l p u) (refute (covers a b l p u) (λ t. f (of_covers a b l p u t)))

-- a row that is not covered cannot be
of_uncovered : (a b l p u : ℕ) → not (covers a b l p u) ≡ true → Covered a b l p u → ⊥
of_uncovered a b l p u n c = clash (covers a b l p u) (into_covers a b l p u c) (not-true (covers a b l p u) n)

module _ (a a' b b' l p u : ℕ) where
  -- as the window moves on, a row leaves that is left behind by its start, or whose upper end is its new end
  pub covers_leaves : a ≤ a' → b ≤ b' → b' ≤ suc b → covers a b l p u ≡ true
      → not (covers a' b' l p u) ≡ ltb p a' || eqb u b'
  covers_leaves ha hb hb' e = agree (not (covers a' b' l p u)) (ltb p a' || eqb u b') there back
    where
      c : Covered a b l p u
      c = of_covers a b l p u e

      there : not (covers a' b' l p u) ≡ true → ltb p a' || eqb u b' ≡ true
      there n = go (dec_lt p a') c.above
        where
          stays : a' ≤ p → (u ≡ 0) ⊎ (b' < u) → ⊥
          stays h t =
              let below = c.below in
              let end = c.end in
              of_uncovered a' b' l p u n record { below = omega arith; start = h; end = omega arith; above = t }

          go : Dec (p < a') → (u ≡ 0) ⊎ (b < u) → ltb p a' || eqb u b' ≡ true
          go (yes h) t = or_left (ltb p a') (eqb u b') (lt-ltb p a' h)
          go (no h) (inl t) = absurd (stays (omega arith) (inl t))
          go (no h) (inr t) = pick (dec_lt b' u)
            where
              pick : Dec (b' < u) → ltb p a' || eqb u b' ≡ true
              pick (yes w) = absurd (stays (omega arith) (inr w))
              pick (no w) = or_right (ltb p a') (eqb u b') (eq-eqb u b' (omega arith))

      back : ltb p a' || eqb u b' ≡ true → not (covers a' b' l p u) ≡ true
      back t = uncovered a' b' l p u (λ n. go n (or_cases (ltb p a') (eqb u b') t) n.above)
        where
          go : Covered a' b' l p u → (ltb p a' ≡ true) ⊎ (eqb u b' ≡ true) → (u ≡ 0) ⊎ (b' < u) → ⊥
          go n (inl t) s = omega (arith, ltb-true p a' t, n.start)
          go n (inr t) (inl s) = omega (arith, eqb-true u b' t, n.below, n.start, n.end)
          go n (inr t) (inr s) = omega (arith, eqb-true u b' t)

  -- as the window moves on, a row joins that its new end takes in, or whose lower end its start has left behind
  pub covers_joins : a ≤ a' → a' ≤ suc a → b ≤ b' → covers a' b' l p u ≡ true
      → not (covers a b l p u) ≡ ltb b p || eqb l a
  covers_joins ha ha' hb e = agree (not (covers a b l p u)) (ltb b p || eqb l a) there back
    where
      c : Covered a' b' l p u
      c = of_covers a' b' l p u e

      wider : (u ≡ 0) ⊎ (b' < u) → (u ≡ 0) ⊎ (b < u)
      wider (inl t) = inl t
      wider (inr t) = inr (omega arith)

      there : not (covers a b l p u) ≡ true → ltb b p || eqb l a ≡ true
      there n = go (dec_lt b p) (dec_lt l a)
        where
          go : Dec (b < p) → Dec (l < a) → ltb b p || eqb l a ≡ true
          go (yes h) d = or_left (ltb b p) (eqb l a) (lt-ltb b p h)
          go (no h) (yes k) =
              let start = c.start in
              absurd (of_uncovered a b l p u n record { below = k; start = omega arith; end = omega arith; above = wider c.above })
          go (no h) (no k) = or_right (ltb b p) (eqb l a) (eq-eqb l a (omega (arith, c.below)))

      back : ltb b p || eqb l a ≡ true → not (covers a b l p u) ≡ true
      back t = uncovered a b l p u (λ n. go n (or_cases (ltb b p) (eqb l a) t))
        where
          go : Covered a b l p u → (ltb b p ≡ true) ⊎ (eqb l a ≡ true) → ⊥
          go n (inl t) = omega (arith, ltb-true b p t, n.end)
          go n (inr t) = omega (arith, eqb-true l a t, n.below)

-- a lower end that named an expired position, and is now 0, covers as before
pub covers_renamed : (a b g l p u : ℕ) → g < a → covers a b (cond (eqb l g) 0 l) p u ≡ covers a b l p u
unfolding covers
covers_renamed a b g l p u h = go (eqb l g) refl
  where
    go : (t : Bool) → eqb l g ≡ t → covers a b (cond t 0 l) p u ≡ covers a b l p u
    go true e = let z = eqb-true l g e in rw (lt-ltb 0 a (omega arith), lt-ltb l a (omega arith))
    go false e = refl

-- an upper end above the window's end covers as none does
pub covers_retired : (a b x l p u : ℕ) → b < x → (t : Bool)
    → covers a b l p (cond (eqb u 0 && t) x u) ≡ covers a b l p u
unfolding covers
covers_retired a b x l p u h t = go (eqb u 0) refl t
  where
    go : (z : Bool) → eqb u 0 ≡ z → (t : Bool) → covers a b l p (cond (z && t) x u) ≡ covers a b l p u
    go true e true = rw (e, lt-ltb b x h, ne_eqb x 0 (omega arith))
    go true e false = refl
    go false e t = refl

-- the positions of the first list that are not on the second
abbrev pub missing : List ℕ → List ℕ → List ℕ
missing these those = filter (λ p. not (contains p those)) these
