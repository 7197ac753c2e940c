-- Dominance between positions, by which a later quote is over an earlier equal one: what it is for a later and for an earlier position,
-- and that it is a strict partial order, over any list of quotes.
use mathlib.Core.Path.{◌≡◌, refl, ap, ◌∙◌}
use mathlib.Core.Logic.{◌⊎◌, inl, inr}
use Prim.Native.Nat.{ℕ, zero, suc, ◌≤◌, ◌<◌}
use native.Mathlib.Nat.{le_refl}
use native.Mathlib.Decide.{dec_lt}
use native.Mathlib.Omega.{arith}
use mathlib.Core.Bool.{Bool, true, false, ◌&&◌, ◌||◌, or-false}
use mathlib.Core.List.{List}
use lib.Dec.{ltb, eqb}
use lib.ListN.{get_or}
use borrow.Author.Tests.{ltb-true, ltb-false, lt-ltb, le-ltb, eqb-true, eq-eqb}
use Rattle.lists.proofs.Booleans.{agree, clash, either, refute, and_left, and_right, both, or_cases, or_left, or_right}
use Rattle.dominance.specs.Dominance.{higher, better, better_at, no_worse, some_better, dominates}
use Rattle.dominance.specs.Renewal.{quote_at, equal_columns, renewed}
use Rattle.dominance.proofs.Columns.{no_worse_at, at_no_worse, at_better}
use Rattle.dominance.proofs.Laws.{better_irreflexive, dominates_no_less, dominates_irreflexive, dominates_no_worse, no_worse_dominates, dominates_transitive}

-- ---- equal columns

-- values of which neither is better are equal
equal_values : (h : Bool) (x y : ℕ) → better h x y ≡ false → better h y x ≡ false → x ≡ y
unfolding better
equal_values true x y e f = omega (arith, ltb-false)
equal_values false x y e f = omega (arith, ltb-false)

equal_at : (p q : List ℕ) (d : ℕ) → equal_columns d p q ≡ true → (i : ℕ) → i < d → get_or p i 0 ≡ get_or q i 0
unfolding equal_columns
equal_at p q zero e i h = absurd (omega arith)
equal_at p q (suc d) e i h = go (dec_lt i d) (λ k. equal_at p q d (and_left (equal_columns d p q) (eqb (get_or p d 0) (get_or q d 0)) e) i k)
  where
    go : Dec (i < d) → (i < d → get_or p i 0 ≡ get_or q i 0) → get_or p i 0 ≡ get_or q i 0
    go (yes k) r = r k
    go (no n) r =
        let z : i ≡ d = omega arith in
        rw z (eqb-true (get_or p d 0) (get_or q d 0) (and_right (equal_columns d p q) (eqb (get_or p d 0) (get_or q d 0)) e))

at_equal : (p q : List ℕ) (d : ℕ) → ((i : ℕ) → i < d → get_or p i 0 ≡ get_or q i 0) → equal_columns d p q ≡ true
unfolding equal_columns
at_equal p q zero f = refl
at_equal p q (suc d) f =
    both (equal_columns d p q) (eqb (get_or p d 0) (get_or q d 0)) (at_equal p q d (λ i h. f i (omega arith))) (eq-eqb (get_or p d 0) (get_or q d 0) (f d (le_refl (suc d))))

equal_transitive : (d : ℕ) (p q r : List ℕ) → equal_columns d p q ≡ true → equal_columns d q r ≡ true → equal_columns d p r ≡ true
equal_transitive d p q r e f = at_equal p r d (λ i h. equal_at p q d e i h ∙ equal_at q r d f i h)

module _ (d directions : ℕ) where
  equal_no_worse : (p q : List ℕ) → equal_columns d p q ≡ true → no_worse d directions p q ≡ true
  unfolding better_at
  equal_no_worse p q e = at_no_worse directions p q d (λ i h. rw (equal_at p q d e i h) (better_irreflexive (higher directions i) (get_or q i 0)))

  -- no worse is: dominating or equal
  pub no_worse_cases : (p q : List ℕ) → dominates d directions p q || equal_columns d p q ≡ no_worse d directions p q
  unfolding dominates better_at
  no_worse_cases p q =
      agree (dominates d directions p q || equal_columns d p q) (no_worse d directions p q)
      (λ t. one (or_cases (dominates d directions p q) (equal_columns d p q) t))
      (λ t. other t (either (some_better d directions p q)))
    where
      one : (dominates d directions p q ≡ true) ⊎ (equal_columns d p q ≡ true) → no_worse d directions p q ≡ true
      one (inl t) = dominates_no_less d directions p q t
      one (inr t) = equal_no_worse p q t

      other : no_worse d directions p q ≡ true → (some_better d directions p q ≡ true) ⊎ (some_better d directions p q ≡ false)
          → dominates d directions p q || equal_columns d p q ≡ true
      other t (inl b) = or_left (dominates d directions p q) (equal_columns d p q) (both (no_worse d directions p q) (some_better d directions p q) t b)
      other t (inr b) =
          or_right (dominates d directions p q) (equal_columns d p q)
          (at_equal p q d (λ i h. equal_values (higher directions i) (get_or p i 0) (get_or q i 0)
          (refute (better_at directions i p q) (λ a. clash (some_better d directions p q) (at_better directions p q d i h a) b))
          (no_worse_at directions p q d t i h)))

  module _ (quotes : List (List ℕ)) where
    abbrev over : ℕ → ℕ → Bool
    over = renewed d directions quotes

    -- a later quote is over the earlier ones than which it is no worse
    pub renewed_later : (p q : ℕ) → q < p → over p q ≡ no_worse d directions (quote_at quotes p) (quote_at quotes q)
    unfolding renewed
    renewed_later p q h =
        let x = quote_at quotes p in
        let y = quote_at quotes q in
        ap (λ (later : Bool). dominates d directions x y || (later && equal_columns d x y)) (lt-ltb q p h) ∙ no_worse_cases x y

    -- an earlier quote is over the later ones that it dominates
    pub renewed_earlier : (p q : ℕ) → p ≤ q → over p q ≡ dominates d directions (quote_at quotes p) (quote_at quotes q)
    unfolding renewed
    renewed_earlier p q h =
        let x = quote_at quotes p in
        let y = quote_at quotes q in
        ap (λ (later : Bool). dominates d directions x y || (later && equal_columns d x y)) (le-ltb q p h) ∙ or-false (dominates d directions x y)

    -- no position is over itself
    pub renewed_irreflexive : (p : ℕ) → over p p ≡ false
    renewed_irreflexive p = renewed_earlier p p (le_refl p) ∙ dominates_irreflexive d directions (quote_at quotes p)

    pub renewed_transitive : (p q r : ℕ) → over p q ≡ true → over q r ≡ true → over p r ≡ true
    unfolding renewed
    renewed_transitive p q r e f =
        go (or_cases (dominates d directions x y) (ltb q p && equal_columns d x y) e) (or_cases (dominates d directions y z) (ltb r q && equal_columns d y z) f)
      where
        x : List ℕ
        x = quote_at quotes p

        y : List ℕ
        y = quote_at quotes q

        z : List ℕ
        z = quote_at quotes r

        go : (dominates d directions x y ≡ true) ⊎ (ltb q p && equal_columns d x y ≡ true) → (dominates d directions y z ≡ true) ⊎ (ltb r q && equal_columns d y z ≡ true)
            → dominates d directions x z || (ltb r p && equal_columns d x z) ≡ true
        go (inl a) (inl b) = or_left (dominates d directions x z) (ltb r p && equal_columns d x z) (dominates_transitive d directions x y z a b)
        go (inl a) (inr b) =
            or_left (dominates d directions x z) (ltb r p && equal_columns d x z)
            (dominates_no_worse d directions x y z a (equal_no_worse y z (and_right (ltb r q) (equal_columns d y z) b)))
        go (inr a) (inl b) =
            or_left (dominates d directions x z) (ltb r p && equal_columns d x z)
            (no_worse_dominates d directions x y z (equal_no_worse x y (and_right (ltb q p) (equal_columns d x y) a)) b)
        go (inr a) (inr b) =
            let k = ltb-true q p (and_left (ltb q p) (equal_columns d x y) a) in
            let l = ltb-true r q (and_left (ltb r q) (equal_columns d y z) b) in
            or_right (dominates d directions x z) (ltb r p && equal_columns d x z)
            (both (ltb r p) (equal_columns d x z) (lt-ltb r p (omega arith))
            (equal_transitive d x y z (and_right (ltb q p) (equal_columns d x y) a) (and_right (ltb r q) (equal_columns d y z) b)))
