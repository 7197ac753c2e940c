-- The skyline of positions that are split in two, from the skylines of the two parts (000, 2.2): over any strict partial order each part's
-- skyline is thinned by the other's.
use mathlib.Core.Path.{◌≡◌, refl, sym, ap, ◌∙◌}
use mathlib.Core.Logic.{◌⊎◌, inl, inr}
use Prim.Native.Nat.{ℕ, zero, suc, ◌+◌, ◌-◌, ◌≤◌, ◌<◌}
use native.Mathlib.Nat.{le_refl}
use native.Mathlib.Omega.{arith}
use mathlib.Core.Bool.{Bool, true, false, ◌&&◌, ◌||◌, not}
use mathlib.Core.List.Memᴰ
use mathlib.Core.List.{List, [], ◌∷◌, ◌++◌, Memᴰ}
use lib.ListN.{length}
use borrow.Author.Tests.{not-true}
use Rattle.lists.specs.Lists.{keep, filter, any, run, between}
use Rattle.lists.proofs.Booleans.{either, agree, clash, refute, not_of, or_assoc, or_swap}
use Rattle.lists.proofs.Filters.{filter_append, filter_filter, any_append}
use Rattle.lists.proofs.Members.{mem_any, any_mem, mem_none, into_filter, of_filter, filter_same_mem}
use Rattle.lists.proofs.Runs.{run_append}
use Rattle.skyline.specs.Skyline.{dominated_in, skyline}
use Rattle.skyline.specs.Halves.{dominated_by, thinned, unbeaten}

-- ---- filters of which one passes less

module _ (f g : ℕ → Bool) (implies : (x : ℕ) → f x ≡ true → g x ≡ true) where
  fewer : (l : List ℕ) → length (filter f l) ≤ length (filter g l)
  unfolding filter
  fewer [] = le_refl 0
  fewer (x ∷ xs) = go (f x) (g x) (implies x) (fewer xs)
    where
      go : (a b : Bool) → (a ≡ true → b ≡ true) → length (filter f xs) ≤ length (filter g xs) → length (keep a x (filter f xs)) ≤ length (keep b x (filter g xs))
      go true true i h = omega arith
      go true false i h = absurd (clash false (i refl) refl)
      go false true i h = omega arith
      go false false i h = h

  strictly_fewer : (r : ℕ) (l : List ℕ) → Memᴰ r l → f r ≡ false → g r ≡ true → length (filter f l) < length (filter g l)
  unfolding filter
  strictly_fewer r _ (Memᴰ.head {x = y} {xs} e) u v = rw (rw e at u, rw e at v) (omega (arith, fewer xs))
  strictly_fewer r _ (Memᴰ.tail {x = y} {xs} m) u v = go (f y) (g y) (implies y) (strictly_fewer r xs m u v)
    where
      go : (a b : Bool) → (a ≡ true → b ≡ true) → length (filter f xs) < length (filter g xs) → length (keep a y (filter f xs)) < length (keep b y (filter g xs))
      go true true i h = omega arith
      go true false i h = absurd (clash false (i refl) refl)
      go false true i h = omega arith
      go false false i h = h

none_of : (f : ℕ → Bool) (r : ℕ) (l : List ℕ) → Memᴰ r l → f r ≡ true → length (filter f l) ≤ 0 → ⊥
none_of f r l m e h = go (filter f l) (into_filter f r l m e) h
  where
    go : (k : List ℕ) → Memᴰ r k → length k ≤ 0 → ⊥
    go [] m h = Memᴰ.not-nil m
    go (x ∷ xs) m h = omega arith

neither_is : (a b : Bool) → not (a || b) ≡ not a && not b
neither_is true b = refl
neither_is false b = refl

and_turned : (a b : Bool) → a && b ≡ b && a
and_turned true true = refl
and_turned true false = refl
and_turned false true = refl
and_turned false false = refl

or_turned : (a b : Bool) → a || b ≡ b || a
or_turned true true = refl
or_turned true false = refl
or_turned false true = refl
or_turned false false = refl

module _ (dom : ℕ → ℕ → Bool) (irreflexive : (p : ℕ) → dom p p ≡ false)
    (transitive : (p q r : ℕ) → dom p q ≡ true → dom q r ≡ true → dom p r ≡ true) where
  abbrev under : List ℕ → ℕ → Bool
  under = dominated_by dom

  -- ---- what some position dominates, one of the skyline dominates

  -- a position that dominates p is of the skyline, or another dominates it
  found_over : (l : List ℕ) (p q : ℕ) → Memᴰ q l → dom q p ≡ true → ((r : ℕ) → Memᴰ r l → dom r q ≡ true → under (unbeaten dom l) p ≡ true)
      → under (unbeaten dom l) p ≡ true
  unfolding dominated_by thinned unbeaten
  found_over l p q m e other = go (either (under l q))
    where
      go : (under l q ≡ true) ⊎ (under l q ≡ false) → under (unbeaten dom l) p ≡ true
      go (inl t) = let r = any_mem (λ x. dom x q) l t in other r.0 r.1 r.2
      go (inr t) = mem_any (λ x. dom x p) q (unbeaten dom l) (into_filter (λ x. not (under l x)) q l m (not_of (under l q) t)) e

  free_over : (k : ℕ) (l : List ℕ) (p q : ℕ) → Memᴰ q l → dom q p ≡ true → length (filter (λ x. dom x q) l) ≤ k → under (unbeaten dom l) p ≡ true
  free_over zero l p q m e h = found_over l p q m e (λ r n f. absurd (none_of (λ x. dom x q) r l n f h))
  free_over (suc k) l p q m e h =
      found_over l p q m e
      (λ r n f.
      let s = strictly_fewer (λ x. dom x r) (λ x. dom x q) (λ x t. transitive x r q t f) r l n (irreflexive r) f in
      free_over k l p r n (transitive r q p f e) (omega arith))

  pub under_unbeaten : (l : List ℕ) (p : ℕ) → under (unbeaten dom l) p ≡ under l p
  unfolding dominated_by thinned unbeaten
  under_unbeaten l p =
      agree (under (unbeaten dom l) p) (under l p)
      (λ t. let r = any_mem (λ x. dom x p) (unbeaten dom l) t in mem_any (λ x. dom x p) r.0 l (of_filter (λ x. not (under l x)) r.0 l r.1).0 r.2)
      (λ t. let r = any_mem (λ x. dom x p) l t in
      free_over (length (filter (λ x. dom x r.0) l)) l p r.0 r.1 r.2 (le_refl (length (filter (λ x. dom x r.0) l))))

  -- ---- a split in two

  -- of positions that are those of two parts, the unbeaten ones of one part are its skyline thinned by the other's
  part_unbeaten : (w l m : List ℕ) → ((p : ℕ) → under w p ≡ under l p || under m p) → thinned dom l w ≡ thinned dom (unbeaten dom l) (unbeaten dom m)
  unfolding thinned unbeaten
  part_unbeaten w l m h =
      filter_same_mem (λ p. not (under w p)) (λ p. not (under l p) && not (under (unbeaten dom m) p)) l
      (λ p _. rw (h p, under_unbeaten m p) (neither_is (under l p) (under m p)))
      ∙ sym (filter_filter (λ p. not (under (unbeaten dom m) p)) (λ p. not (under l p)) l)

  -- the skyline of two lists of positions, one behind the other
  pub unbeaten_append : (l m : List ℕ) → unbeaten dom (l ++ m) ≡ thinned dom (unbeaten dom l) (unbeaten dom m) ++ thinned dom (unbeaten dom m) (unbeaten dom l)
  unfolding thinned unbeaten dominated_by
  unbeaten_append l m =
      filter_append (λ p. not (under (l ++ m) p)) l m
      ∙ rw (
        part_unbeaten (l ++ m) l m (λ p. any_append (λ q. dom q p) l m),
        part_unbeaten (l ++ m) m l (λ p. any_append (λ q. dom q p) l m ∙ or_turned (under l p) (under m p)),
      )

  -- what passes a test is beaten by what is over it, which passes the test or does not
  under_split : (g : ℕ → Bool) (w : List ℕ) (p : ℕ) → under w p ≡ under (filter g w) p || under (filter (λ x. not (g x)) w) p
  unfolding dominated_by filter any
  under_split g [] p = refl
  under_split g (x ∷ xs) p = rw (under_split g xs p) (go (g x))
    where
      A : List ℕ
      A = filter g xs

      B : List ℕ
      B = filter (λ x. not (g x)) xs

      go : (b : Bool) → dom x p || (under A p || under B p) ≡ under (keep b x A) p || under (keep (not b) x B) p
      go true = or_assoc (dom x p) (under A p) (under B p)
      go false = or_swap (dom x p) (under A p) (under B p)

  -- positions that are split in two by any test, by position or by a column's median: what of the skyline passes the test is the skyline of
  -- what passes, thinned by the skyline of what does not
  pub skyline_split : (g : ℕ → Bool) (w : List ℕ) → filter g (unbeaten dom w) ≡ thinned dom (unbeaten dom (filter g w)) (unbeaten dom (filter (λ p. not (g p)) w))
  unfolding thinned unbeaten
  skyline_split g w =
      filter_filter g (λ p. not (under w p)) w
      ∙ filter_same_mem (λ p. not (under w p) && g p) (λ p. g p && not (under w p)) w (λ p _. and_turned (not (under w p)) (g p))
      ∙ sym (filter_filter (λ p. not (under w p)) g w)
      ∙ part_unbeaten w (filter g w) (filter (λ p. not (g p)) w) (under_split g w)

  -- thinned by what is left of the other part's skyline: what was thinned out of it by this part beats none of this part's skyline
  pub thinned_again : (l m : List ℕ) → thinned dom (unbeaten dom m) (thinned dom l (unbeaten dom m)) ≡ thinned dom (unbeaten dom m) l
  unfolding thinned unbeaten dominated_by
  thinned_again l m = filter_same_mem (λ p. not (under (thinned dom l (unbeaten dom m)) p)) (λ p. not (under l p)) (unbeaten dom m) (λ p n. ap not (left p n))
    where
      none : (p q : ℕ) → Memᴰ p (unbeaten dom m) → dom q p ≡ true → under (unbeaten dom m) q ≡ false
      none p q n e =
          refute (under (unbeaten dom m) q)
          (λ t. let r = any_mem (λ x. dom x q) (unbeaten dom m) t in
          clash (dom r.0 p) (transitive r.0 q p r.2 e)
          (mem_none (λ x. dom x p) r.0 m (of_filter (λ x. not (under m x)) r.0 m r.1).0 (not-true (under m p) (of_filter (λ x. not (under m x)) p m n).1)))

      left : (p : ℕ) → Memᴰ p (unbeaten dom m) → under (thinned dom l (unbeaten dom m)) p ≡ under l p
      left p n =
          agree (under (thinned dom l (unbeaten dom m)) p) (under l p)
          (λ t. let r = any_mem (λ x. dom x p) (thinned dom l (unbeaten dom m)) t in
          mem_any (λ x. dom x p) r.0 l (of_filter (λ x. not (under (unbeaten dom m) x)) r.0 l r.1).0 r.2)
          (λ t. let r = any_mem (λ x. dom x p) l t in
          mem_any (λ x. dom x p) r.0 (thinned dom l (unbeaten dom m))
          (into_filter (λ x. not (under (unbeaten dom m) x)) r.0 l r.1 (not_of (under (unbeaten dom m) r.0) (none p r.0 n r.2))) r.2)

  -- ---- windows

  -- the skyline of a window is that of its positions
  skyline_is : (a b : ℕ) → skyline dom a b ≡ unbeaten dom (between a b)
  unfolding skyline dominated_in unbeaten thinned dominated_by
  skyline_is a b = refl

  between_halves : (a b c : ℕ) → a ≤ suc b → b ≤ c → between a c ≡ between a b ++ between (suc b) c
  unfolding between
  between_halves a b c h k =
      let e : suc c - a ≡ (suc b - a) + (suc c - suc b) = omega arith in
      let f : a + (suc b - a) ≡ suc b = omega arith in
      ap (run a) e ∙ run_append a (suc b - a) (suc c - suc b) ∙ ap (λ (x : ℕ). run a (suc b - a) ++ run x (suc c - suc b)) f

  -- the skyline of the positions a to c is that of a to b, thinned by that of b + 1 to c, and then the second, thinned by the first
  pub skyline_halves : (a b c : ℕ) → a ≤ suc b → b ≤ c
      → skyline dom a c ≡ thinned dom (skyline dom a b) (skyline dom (suc b) c) ++ thinned dom (skyline dom (suc b) c) (skyline dom a b)
  skyline_halves a b c h k =
      rw (skyline_is a c, skyline_is a b, skyline_is (suc b) c, between_halves a b c h k) (unbeaten_append (between a b) (between (suc b) c))

  -- the same, the second thinned by what is left of the first
  pub skyline_in_turn : (a b c : ℕ) → a ≤ suc b → b ≤ c
      → skyline dom a c ≡ thinned dom (skyline dom a b) (skyline dom (suc b) c)
      ++ thinned dom (skyline dom (suc b) c) (thinned dom (skyline dom a b) (skyline dom (suc b) c))
  skyline_in_turn a b c h k =
      skyline_halves a b c h k
      ∙ rw (skyline_is (suc b) c) (ap (λ (r : List ℕ). thinned dom (skyline dom a b) (unbeaten dom (between (suc b) c)) ++ r)
      (sym (thinned_again (skyline dom a b) (between (suc b) c))))
