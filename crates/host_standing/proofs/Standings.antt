-- What each of the four answers says of two quotes, and how the rule by which a repeated quote is renewed reads by them.
use mathlib.Core.Path.{◌≡◌, refl, sym, ap, ◌∙◌}
use mathlib.Core.Logic.{◌↔◌}
use Prim.Native.Nat.{ℕ, zero, suc, ◌<◌}
use native.Mathlib.Omega.{arith}
use native.Mathlib.Decide.{dec_lt}
use mathlib.Core.Bool.{Bool, true, false, ◌&&◌, not, cond}
use mathlib.Core.List.{List}
use lib.Dec.{ltb}
use lib.ListN.{get_or}
use borrow.Author.Tests.{lt-ltb, le-ltb, not-true}
use Rattle.lists.proofs.Booleans.{not_of, and_left, and_right, both, or_right}
use Rattle.lists.proofs.Apart.{eqb_swap}
use Rattle.dominance.specs.declared.Comparison.{Comparison}
use Rattle.dominance.specs.Dominance.{no_worse, some_better, dominates}
use Rattle.dominance.specs.Compared.{compared}
use Rattle.dominance.specs.Renewal.{quote_at, equal_columns, renewed}
use Rattle.dominance.proofs.Comparing.{dominates_by, no_worse_by}
use Rattle.dominance.proofs.Renewal.{no_worse_cases, renewed_later, renewed_earlier}
use Rattle.host_standing.specs.declared.Standing.{Standing}
use Rattle.host_standing.specs.declared.Standing.TheVariants.{FirstBetter, SecondBetter, Equal, Neither}
use Rattle.host_standing.specs.Standing.{standing_by, standing, swapped, over_earlier, over_later}

-- ---- by the two flags

-- the first is better in some column where this is the answer
abbrev first_somewhere : Standing → Bool
first_somewhere FirstBetter = true
first_somewhere SecondBetter = false
first_somewhere Equal = false
first_somewhere Neither = true

-- the second is better in some column where this is the answer
abbrev second_somewhere : Standing → Bool
second_somewhere FirstBetter = false
second_somewhere SecondBetter = true
second_somewhere Equal = false
second_somewhere Neither = true

module _ (A : Standing → Bool → Bool → Type 0) (first : A FirstBetter true false) (second : A SecondBetter false true) (equal : A Equal false false)
    (neither : A Neither true true) where
  -- what holds in the four cases holds of every two flags
  by_cases : (b w : Bool) → A (standing_by b w) b w
  unfolding standing_by
  by_cases true false = first
  by_cases false true = second
  by_cases false false = equal
  by_cases true true = neither

by_first : (b w : Bool) → b ≡ first_somewhere (standing_by b w)
by_first = by_cases (λ s b w. b ≡ first_somewhere s) refl refl refl refl

by_second : (b w : Bool) → w ≡ second_somewhere (standing_by b w)
by_second = by_cases (λ s b w. w ≡ second_somewhere s) refl refl refl refl

by_earlier : (b w : Bool) → over_earlier (standing_by b w) ≡ not w
by_earlier = by_cases (λ s b w. over_earlier s ≡ not w) refl refl refl refl

by_later : (b w : Bool) → over_later (standing_by b w) ≡ b && not w
by_later = by_cases (λ s b w. over_later s ≡ b && not w) refl refl refl refl

by_swapped : (b w : Bool) → standing_by w b ≡ swapped (standing_by b w)
unfolding standing_by
by_swapped = by_cases (λ s b w. standing_by w b ≡ swapped s) refl refl refl refl

of_both : (s : Standing) → standing_by (first_somewhere s) (second_somewhere s) ≡ s
unfolding standing_by
of_both FirstBetter = refl
of_both SecondBetter = refl
of_both Equal = refl
of_both Neither = refl

-- ---- of two quotes

-- the two flags of a comparison say how the quotes stand
pub flags : (d directions : ℕ) (p q : List ℕ) {found : Comparison} → found ≡ compared d directions p q
    → standing_by found.better found.worse ≡ standing d directions p q
unfolding compared standing
flags d directions p q e = rw e

-- columns that are equal are so the other way round
equal_swapped : (d : ℕ) (p q : List ℕ) → equal_columns d p q ≡ equal_columns d q p
unfolding equal_columns
equal_swapped zero p q = refl
equal_swapped (suc i) p q = rw (equal_swapped i p q, eqb_swap (get_or p i 0) (get_or q i 0))

module _ (d directions : ℕ) where
  dominates_flags : (p q : List ℕ) → dominates d directions p q ≡ some_better d directions p q && not (some_better d directions q p)
  unfolding compared
  dominates_flags p q = dominates_by d directions p q

  no_worse_flag : (p q : List ℕ) → no_worse d directions p q ≡ not (some_better d directions q p)
  unfolding compared
  no_worse_flag p q = no_worse_by d directions p q

  -- an answer is given exactly if the first and the second are better somewhere as it says
  standing_is : (s : Standing) (p q : List ℕ)
      → (standing d directions p q ≡ s) ↔ ((some_better d directions p q ≡ first_somewhere s) × (some_better d directions q p ≡ second_somewhere s))
  unfolding standing
  standing_is s p q =
      let b = some_better d directions p q in
      let w = some_better d directions q p in
      (λ e. (by_first b w ∙ ap first_somewhere e, by_second b w ∙ ap second_somewhere e), λ f. rw (f.0, f.1) (of_both s))

  -- p dominates q exactly if p is better somewhere and q nowhere
  dominates_is : (p q : List ℕ) → (dominates d directions p q ≡ true) ↔ ((some_better d directions p q ≡ true) × (some_better d directions q p ≡ false))
  dominates_is p q =
      let b = some_better d directions p q in
      let w = some_better d directions q p in
      rw (dominates_flags p q) (λ t. (and_left b (not w) t, not-true w (and_right b (not w) t)), λ f. both b (not w) f.0 (not_of w f.1))

  -- equal quotes: neither is better anywhere
  equal_nowhere : (p q : List ℕ) → equal_columns d p q ≡ true → some_better d directions q p ≡ false
  equal_nowhere p q e =
      not-true (some_better d directions q p)
      (sym (no_worse_flag p q) ∙ sym (no_worse_cases d directions p q) ∙ or_right (dominates d directions p q) (equal_columns d p q) e)

  nowhere_equal : (p q : List ℕ) → some_better d directions p q ≡ false → some_better d directions q p ≡ false → equal_columns d p q ≡ true
  nowhere_equal p q e f = rw (dominates_flags p q, no_worse_flag p q, e, f) at (no_worse_cases d directions p q)

  -- the first is better exactly if it dominates the second
  pub standing_first : (p q : List ℕ) → (standing d directions p q ≡ FirstBetter) ↔ (dominates d directions p q ≡ true)
  standing_first p q =
      let s = standing_is FirstBetter p q in
      let t = dominates_is p q in
      (λ e. t.1 (s.0 e), λ e. s.1 (t.0 e))

  -- the second is better exactly if it dominates the first
  pub standing_second : (p q : List ℕ) → (standing d directions p q ≡ SecondBetter) ↔ (dominates d directions q p ≡ true)
  standing_second p q =
      let s = standing_is SecondBetter p q in
      let t = dominates_is q p in
      (λ e. let f = s.0 e in t.1 (f.1, f.0), λ e. let f = t.0 e in s.1 (f.1, f.0))

  -- they are equal exactly if each of the columns below d is
  pub standing_equal : (p q : List ℕ) → (standing d directions p q ≡ Equal) ↔ (equal_columns d p q ≡ true)
  standing_equal p q =
      let s = standing_is Equal p q in
      (λ e. let f = s.0 e in nowhere_equal p q f.0 f.1, λ e. s.1 (equal_nowhere q p (equal_swapped d q p ∙ e), equal_nowhere p q e))

  -- neither is better exactly if each is better in some column
  pub standing_neither : (p q : List ℕ)
      → (standing d directions p q ≡ Neither) ↔ ((some_better d directions p q ≡ true) × (some_better d directions q p ≡ true))
  standing_neither p q = standing_is Neither p q

  -- swapped, they stand the other way round
  pub standing_swapped : (p q : List ℕ) → standing d directions q p ≡ swapped (standing d directions p q)
  unfolding standing
  standing_swapped p q = by_swapped (some_better d directions p q) (some_better d directions q p)

  -- the first is better or equal exactly if it is no worse in every column
  pub standing_no_worse : (p q : List ℕ) → over_earlier (standing d directions p q) ≡ no_worse d directions p q
  unfolding standing
  standing_no_worse p q = by_earlier (some_better d directions p q) (some_better d directions q p) ∙ sym (no_worse_flag p q)

  -- the first is better exactly if it dominates the second, as a test
  pub standing_dominates : (p q : List ℕ) → over_later (standing d directions p q) ≡ dominates d directions p q
  unfolding standing
  standing_dominates p q = by_later (some_better d directions p q) (some_better d directions q p) ∙ sym (dominates_flags p q)

  -- which of two positions is over the other (5/13), by how their quotes stand: a later one if it is better or equal, an earlier one
  -- if it is better
  pub renewed_standing : (quotes : List (List ℕ)) (p q : ℕ)
      → let s = standing d directions (quote_at quotes p) (quote_at quotes q) in renewed d directions quotes p q ≡ cond (ltb q p) (over_earlier s) (over_later s)
  renewed_standing quotes p q = go (dec_lt q p)
    where
      x : List ℕ
      x = quote_at quotes p

      y : List ℕ
      y = quote_at quotes q

      go : Dec (q < p)
          → renewed d directions quotes p q ≡ cond (ltb q p) (over_earlier (standing d directions x y)) (over_later (standing d directions x y))
      go (yes h) = rw (lt-ltb q p h) (renewed_later d directions quotes p q h ∙ sym (standing_no_worse x y))
      go (no n) = rw (le-ltb q p (omega arith)) (renewed_earlier d directions quotes p q (omega arith) ∙ sym (standing_dominates x y))
