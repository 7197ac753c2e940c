-- The list of any window inside the held positions is what its two bounds cover, by both ends (000, 3.5); who is live,
-- who is held.
use mathlib.Core.Path.{◌≡◌, sym, ap, ◌∙◌}
use mathlib.Core.Logic.{◌⊎◌, inl, inr, ◌↔◌}
use Prim.Native.Nat.{ℕ, suc, ◌+◌, ◌-◌, ◌≤◌, ◌<◌}
use native.Mathlib.Nat.{le_refl}
use native.Mathlib.Omega.{arith}
use native.Mathlib.Decide.{dec_lt}
use mathlib.Core.Bool.{Bool, true, false, ◌&&◌, ◌||◌, not}
use mathlib.Core.List.{[], ◌∷◌, Memᴰ}
use lib.Dec.{ltb, leb, eqb}
use borrow.Author.Tests.{ltb-true, leb-true, eqb-true, lt-ltb, le-leb, eq-eqb, not-true}
use Rattle.lists.specs.Lists.{filter, any, run, between}
use Rattle.lists.proofs.Booleans.{agree, clash, refute, not_of, and_left, and_right, both, or_cases, or_left, or_right}
use Rattle.lists.proofs.Runs.{order, filter_same, filter_from, filter_upto}
use Rattle.skyline.specs.Skyline.{window_start, stabbed, dominated_in, skyline}
use Rattle.skyline.specs.Past.{lower_end, upper_end, covers}
use Rattle.skyline.proofs.Free.{Free, free_of, of_free, into_skyline, of_skyline}
use Rattle.skyline.proofs.Ends.{NoneOrOlder, NoneOrYounger, lower_spec, upper_spec, upper_most, live_of}

-- what `covers` says
pub record Covered (a b lower position upper : ℕ) : Type 0 where
  pub below : lower < a
  pub start : a ≤ position
  pub end : position ≤ b
  pub above : (upper ≡ 0) ⊎ (b < upper)

pub of_covers : (a b l p u : ℕ) → covers a b l p u ≡ true → Covered a b l p u
unfolding covers
of_covers a b l p u e =
    let three = and_left (ltb l a && leb a p && leb p b) (eqb u 0 || ltb b u) e in
    let two = and_left (ltb l a && leb a p) (leb p b) three in
    record {
      below = ltb-true l a (and_left (ltb l a) (leb a p) two);
      start = leb-true a p (and_right (ltb l a) (leb a p) two);
      end = leb-true p b (and_right (ltb l a && leb a p) (leb p b) three);
      above = pick (or_cases (eqb u 0) (ltb b u) (and_right (ltb l a && leb a p && leb p b) (eqb u 0 || ltb b u) e));
    }
  where
    pick : (eqb u 0 ≡ true) ⊎ (ltb b u ≡ true) → (u ≡ 0) ⊎ (b < u)
    pick (inl t) = inl (eqb-true u 0 t)
    pick (inr t) = inr (ltb-true b u t)

pub into_covers : (a b l p u : ℕ) → Covered a b l p u → covers a b l p u ≡ true
unfolding covers
into_covers a b l p u c = rw (lt-ltb l a c.below, le-leb a p c.start, le-leb p b c.end) (pick c.above)
  where
    pick : (u ≡ 0) ⊎ (b < u) → eqb u 0 || ltb b u ≡ true
    pick (inl t) = or_left (eqb u 0) (ltb b u) (eq-eqb u 0 t)
    pick (inr t) = or_right (eqb u 0) (ltb b u) (lt-ltb b u t)

-- up to the newest position, where no upper end is above it, the covered rows are the live ones that the start stabs
pub covers_live : (a M l p u : ℕ) → p ≤ M → u ≤ M → covers a M l p u ≡ eqb u 0 && stabbed a l p
unfolding stabbed
covers_live a M l p u h k = agree (covers a M l p u) (eqb u 0 && (ltb l a && leb a p)) there back
  where
    none : Covered a M l p u → (u ≡ 0) ⊎ (M < u) → u ≡ 0
    none c (inl t) = t
    none c (inr t) = absurd (omega arith)

    there : covers a M l p u ≡ true → eqb u 0 && (ltb l a && leb a p) ≡ true
    there e =
        let c = of_covers a M l p u e in
        both (eqb u 0) (ltb l a && leb a p) (eq-eqb u 0 (none c c.above))
        (both (ltb l a) (leb a p) (lt-ltb l a c.below) (le-leb a p c.start))

    back : eqb u 0 && (ltb l a && leb a p) ≡ true → covers a M l p u ≡ true
    back e =
        let s = and_right (eqb u 0) (ltb l a && leb a p) e in
        into_covers a M l p u record {
          below = ltb-true l a (and_left (ltb l a) (leb a p) s);
          start = leb-true a p (and_right (ltb l a) (leb a p) s);
          end = h;
          above = inl (eqb-true u 0 (and_left (eqb u 0) (ltb l a && leb a p) e));
        }

-- the past list with n1 = 1 is the list of n
pub past_of_one : (dom : ℕ → ℕ → Bool) (M n : ℕ)
    → skyline dom (window_start M n) (M + 1 - 1) ≡ skyline dom (window_start M n) M
past_of_one dom M n = let e : M + 1 - 1 ≡ M = omega arith in rw e

module _ (dom : ℕ → ℕ → Bool) where
  -- the window from a to b covers p by its ends, of the positions from S to M
  abbrev pub covers_at : ℕ → ℕ → ℕ → ℕ → ℕ → Bool
  covers_at S M a b p = covers a b (lower_end dom S p) p (upper_end dom M p)

  -- what that says
  abbrev pub CoveredAt : ℕ → ℕ → ℕ → ℕ → ℕ → Type 0
  CoveredAt S M a b p = Covered a b (lower_end dom S p) p (upper_end dom M p)

  pub of_covers_at : (S M a b p : ℕ) → covers_at S M a b p ≡ true → CoveredAt S M a b p
  of_covers_at S M a b p = of_covers a b (lower_end dom S p) p (upper_end dom M p)

  pub into_covers_at : (S M a b p : ℕ) → CoveredAt S M a b p → covers_at S M a b p ≡ true
  into_covers_at S M a b p = into_covers a b (lower_end dom S p) p (upper_end dom M p)

  -- some n1 and n2 with 1 ≤ n1 ≤ n2 ≤ N have p on their past list
  abbrev pub OnPast : ℕ → ℕ → ℕ → Type 0
  OnPast N M p = (n1 : ℕ) × (n2 : ℕ) × (1 ≤ n1) × (n1 ≤ n2) × (n2 ≤ N) × Memᴰ p (skyline dom (window_start M n2) (M + 1 - n1))

  -- what no position from a to b dominates is covered
  pub free_covered : (S M a b p : ℕ) → S ≤ a → 1 ≤ a → b ≤ M → a ≤ p → p ≤ b → Free dom a b p → CoveredAt S M a b p
  free_covered S M a b p hS h1 hM ha hb f = record {
    below = low (dec_lt lo a) (lower_spec dom S p).named;
    start = ha;
    end = hb;
    above = up (dec_lt b hi) (upper_spec dom M p).named;
  }
    where
      lo : ℕ
      lo = lower_end dom S p

      hi : ℕ
      hi = upper_end dom M p

      low : Dec (lo < a) → NoneOrOlder dom S p lo → lo < a
      low (yes h) s = h
      low (no n) (inl e) = absurd (omega arith)
      low (no n) (inr t) = absurd (clash (dom lo p) t.2 (f lo (omega arith) (omega arith)))

      up : Dec (b < hi) → NoneOrYounger dom M p hi → (hi ≡ 0) ⊎ (b < hi)
      up d (inl e) = inl e
      up (yes h) (inr t) = inr h
      up (no n) (inr t) = absurd (clash (dom hi p) t.2 (f hi (omega arith) (omega arith)))

  module _ (irr : (p : ℕ) → dom p p ≡ false) where
    -- what is covered no position from a to b dominates
    pub covered_free : (S M a b p : ℕ) → S ≤ a → b ≤ M → CoveredAt S M a b p → Free dom a b p
    covered_free S M a b p hS hM c q u v = go (order q p) c.above
      where
        go : (q < p) ⊎ ((q ≡ p) ⊎ (p < q)) → (upper_end dom M p ≡ 0) ⊎ (b < upper_end dom M p) → dom q p ≡ false
        go (inl h) s = (lower_spec dom S p).after q (omega arith) (let l = c.below in omega arith) h
        go (inr (inl h)) s = rw h (irr p)
        go (inr (inr h)) (inl e) = (upper_spec dom M p).live e q h (omega arith)
        go (inr (inr h)) (inr w) = (upper_spec dom M p).before q h (omega arith)

    -- the skyline of any window inside the held positions is what the window covers of them (000, theorem 3.4)
    pub past_stabs : (S M a b : ℕ) → S ≤ a → 1 ≤ a → a ≤ suc b → b ≤ M
        → skyline dom a b ≡ filter (covers_at S M a b) (between S M)
    unfolding skyline between
    past_stabs S M a b hS h1 hab hb =
        let cut : suc M - S ≡ (a - S) + ((suc b - a) + (M - b)) = omega arith in
        let mid : S + (a - S) ≡ a = omega arith in
        sym (
        ap (λ (k : ℕ). filter f (run S k)) cut
        ∙ filter_from f S (a - S) ((suc b - a) + (M - b))
        (λ q u v. refute (f q) (λ t. let c = (of_covers_at S M a b q t).start in omega arith))
        ∙ ap (λ (x : ℕ). filter f (run x ((suc b - a) + (M - b)))) mid
        ∙ filter_upto f a (suc b - a) (M - b)
        (λ q u v. refute (f q) (λ t. let c = (of_covers_at S M a b q t).end in omega arith))
        ∙ filter_same f (λ p. not (dominated_in dom a b p)) a (suc b - a) (λ p u v. at p u (omega arith))
        )
      where
        f : ℕ → Bool
        f = covers_at S M a b

        at : (p : ℕ) → a ≤ p → p ≤ b → f p ≡ not (dominated_in dom a b p)
        at p u v =
            agree (f p) (not (dominated_in dom a b p))
            (λ t. not_of (dominated_in dom a b p) (of_free dom a b p hab (covered_free S M a b p hS hb (of_covers_at S M a b p t))))
            (λ t.
            let free = free_of dom a b p hab (not-true (dominated_in dom a b p) t) in
            into_covers_at S M a b p (free_covered S M a b p hS h1 hb u v free))

    -- for 1 ≤ n1 ≤ n2 ≤ N the past list is what its window covers of the window of N (02, 1/13)
    pub past_covered : (N M n1 n2 : ℕ) → 1 ≤ n1 → n1 ≤ n2 → n2 ≤ N
        → skyline dom (window_start M n2) (M + 1 - n1)
        ≡ filter (covers_at (window_start M N) M (window_start M n2) (M + 1 - n1)) (between (window_start M N) M)
    unfolding window_start
    past_covered N M n1 n2 h k l =
        past_stabs (window_start M N) M (window_start M n2) (M + 1 - n1) (omega arith) (omega arith) (omega arith) (omega arith)

    -- the list of n is that of the live positions that its start stabs
    pub listed_live : (N M n : ℕ) → 1 ≤ n → n ≤ N
        → skyline dom (window_start M n) M
        ≡ filter (λ p. eqb (upper_end dom M p) 0 && stabbed (window_start M n) (lower_end dom (window_start M N) p) p)
        (between (window_start M N) M)
    unfolding window_start between
    listed_live N M n h k =
        past_stabs S M a M (omega arith) (omega arith) (omega arith) (le_refl M)
        ∙ filter_same (covers_at S M a M) (λ p. eqb (upper_end dom M p) 0 && stabbed a (lower_end dom S p) p) S (suc M - S)
        (λ p u v. covers_live a M (lower_end dom S p) p (upper_end dom M p) (omega arith) (upper_most dom M p))
      where
        S : ℕ
        S = window_start M N

        a : ℕ
        a = window_start M n

    -- a live position heads the list of the window that starts at it
    pub live_listed : (M p : ℕ) → p ≤ M → upper_end dom M p ≡ 0 → Memᴰ p (skyline dom p M)
    live_listed M p h e = into_skyline dom p M p (le_refl p) h (λ q u v. go q u v (dec_lt p q))
      where
        go : (q : ℕ) → p ≤ q → q ≤ M → Dec (p < q) → dom q p ≡ false
        go q u v (yes w) = (upper_spec dom M p).live e q w v
        go q u v (no n) = let z : q ≡ p = omega arith in rw z (irr p)

    -- a position of the window of N is live exactly if some n from 1 to N lists it
    pub live_iff_listed : (N M p : ℕ) → window_start M N ≤ p → p ≤ M
        → (upper_end dom M p ≡ 0) ↔ ((n : ℕ) × (1 ≤ n) × (n ≤ N) × Memᴰ p (skyline dom (window_start M n) M))
    unfolding window_start
    live_iff_listed N M p h k = (there, back)
      where
        there : upper_end dom M p ≡ 0 → (n : ℕ) × (1 ≤ n) × (n ≤ N) × Memᴰ p (skyline dom (window_start M n) M)
        there e =
            let at : window_start M (suc M - p) ≡ p = omega arith in
            (suc M - p, omega arith, omega arith, rw at (live_listed M p k e))

        back : (n : ℕ) × (1 ≤ n) × (n ≤ N) × Memᴰ p (skyline dom (window_start M n) M) → upper_end dom M p ≡ 0
        back t =
            let r = of_skyline dom (window_start M t.0) M p t.3 in
            live_of dom M p (λ q u v. r.2 q (omega arith) v)

    -- a position alone is its own list
    pub held_listed_alone : (p : ℕ) → skyline dom p p ≡ p ∷ []
    unfolding skyline dominated_in between filter any run
    held_listed_alone p = let one : suc p - p ≡ 1 = omega arith in rw (one, irr p)

    -- a position is held exactly if some n1 from 1 to n2, n2 up to N, has it on its past list
    pub held_iff_past : (N M p : ℕ)
        → ((window_start M N ≤ p) × (p ≤ M)) ↔ OnPast N M p
    unfolding window_start
    held_iff_past N M p = (there, back)
      where
        there : (window_start M N ≤ p) × (p ≤ M) → OnPast N M p
        there t =
            let a : window_start M (suc M - p) ≡ p = omega arith in
            let b : M + 1 - (suc M - p) ≡ p = omega arith in
            let alone = into_skyline dom p p p (le_refl p) (le_refl p) (λ q u v. let z : q ≡ p = omega arith in rw z (irr p)) in
            (suc M - p, suc M - p, omega arith, le_refl (suc M - p), omega arith, rw (a, b) alone)

        back : OnPast N M p → (window_start M N ≤ p) × (p ≤ M)
        back t = let r = of_skyline dom (window_start M t.1) (M + 1 - t.0) p t.5 in (omega arith, omega arith)

  -- a position that is not live is on no list that reaches the newest, now (M' is M) or after any further quotes
  pub retired_never_listed : (M M' a p : ℕ) → M ≤ M' → (upper_end dom M p ≡ 0 → ⊥) → Memᴰ p (skyline dom a M') → ⊥
  retired_never_listed M M' a p h n m =
      let r = of_skyline dom a M' p m in
      n (live_of dom M p (λ q u v. r.2 q (omega arith) (omega arith)))
