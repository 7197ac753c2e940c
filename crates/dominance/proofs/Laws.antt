-- Dominance is a strict partial order, for every number of columns.
use mathlib.Core.Path.{◌≡◌}
use Prim.Native.Nat.{ℕ}
use native.Mathlib.Nat.{le_refl}
use native.Mathlib.Omega.{arith}
use mathlib.Core.Bool.{Bool, true, false}
use mathlib.Core.List.{List}
use lib.ListN.{get_or}
use borrow.Author.Tests.{ltb-true, ltb-false, lt-ltb, le-ltb}
use Rattle.lists.proofs.Booleans.{clash, refute, and_left}
use Rattle.dominance.specs.Dominance.{higher, better, better_at, no_worse, some_better, dominates}
use Rattle.dominance.proofs.Columns.{no_worse_at, dominates_columns, columns_dominate}

pub better_irreflexive : (h : Bool) (x : ℕ) → better h x x ≡ false
unfolding better
better_irreflexive true x = le-ltb x x (le_refl x)
better_irreflexive false x = le-ltb x x (le_refl x)

-- better than one that is no worse is better
better_through : (h : Bool) (x y z : ℕ) → better h x y ≡ true → better h z y ≡ false → better h x z ≡ true
unfolding better
better_through true x y z e f = lt-ltb z x (omega (arith, ltb-true, ltb-false))
better_through false x y z e f = lt-ltb x z (omega (arith, ltb-true, ltb-false))

-- no worse than one that is better is better
through_better : (h : Bool) (x y z : ℕ) → better h y x ≡ false → better h y z ≡ true → better h x z ≡ true
unfolding better
through_better true x y z e f = lt-ltb z x (omega (arith, ltb-true, ltb-false))
through_better false x y z e f = lt-ltb x z (omega (arith, ltb-true, ltb-false))

no_worse_through : (h : Bool) (x y z : ℕ) → better h y x ≡ false → better h z y ≡ false → better h z x ≡ false
unfolding better
no_worse_through true x y z e f = le-ltb x z (omega (arith, ltb-false))
no_worse_through false x y z e f = le-ltb z x (omega (arith, ltb-false))

module _ (d directions : ℕ) where
  -- what dominates another is no worse
  pub dominates_no_less : (p q : List ℕ) → dominates d directions p q ≡ true → no_worse d directions p q ≡ true
  unfolding dominates
  dominates_no_less p q = and_left (no_worse d directions p q) (some_better d directions p q)

  -- no quote dominates itself, nor an equal one
  pub dominates_irreflexive : (p : List ℕ) → dominates d directions p p ≡ false
  unfolding better_at
  dominates_irreflexive p =
      refute (dominates d directions p p)
      (λ e. let c = dominates_columns directions p p d e in clash (better_at directions c.at p p) c.is_better (better_irreflexive (higher directions c.at) (get_or p c.at 0)))

  -- what dominates one that is no worse than another dominates that
  pub dominates_no_worse : (p q r : List ℕ) → dominates d directions p q ≡ true → no_worse d directions q r ≡ true → dominates d directions p r ≡ true
  unfolding better_at
  dominates_no_worse p q r e f =
      let a = dominates_columns directions p q d e in
      let b = no_worse_at directions q r d f in
      let i = a.at in
      columns_dominate directions p r d record {
        no_worse_lem = λ j h. no_worse_through (higher directions j) (get_or p j 0) (get_or q j 0) (get_or r j 0) (a.no_worse_lem j h) (b j h);
        at = i;
        below = a.below;
        is_better = better_through (higher directions i) (get_or p i 0) (get_or q i 0) (get_or r i 0) a.is_better (b i a.below);
      }

  -- what is no worse than one that dominates another dominates that
  pub no_worse_dominates : (p q r : List ℕ) → no_worse d directions p q ≡ true → dominates d directions q r ≡ true → dominates d directions p r ≡ true
  unfolding better_at
  no_worse_dominates p q r e f =
      let a = no_worse_at directions p q d e in
      let b = dominates_columns directions q r d f in
      let i = b.at in
      columns_dominate directions p r d record {
        no_worse_lem = λ j h. no_worse_through (higher directions j) (get_or p j 0) (get_or q j 0) (get_or r j 0) (a j h) (b.no_worse_lem j h);
        at = i;
        below = b.below;
        is_better = through_better (higher directions i) (get_or p i 0) (get_or q i 0) (get_or r i 0) (a i b.below) b.is_better;
      }

  pub dominates_transitive : (p q r : List ℕ) → dominates d directions p q ≡ true → dominates d directions q r ≡ true → dominates d directions p r ≡ true
  dominates_transitive p q r e f = dominates_no_worse p q r e (dominates_no_less q r f)
