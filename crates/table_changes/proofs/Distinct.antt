-- Positions picked by two tests: what one of them leaves out of the other.
use mathlib.Core.Path.{◌≡◌, refl, ap, ap₂, ◌∙◌}
use Prim.Native.Nat.{ℕ, ◌+◌, ◌<◌}
use native.Mathlib.Nat.{zero-add}
use native.Mathlib.Omega.{arith}
use mathlib.Core.Bool.{Bool, true, false, ◌&&◌, ◌||◌, not}
use mathlib.Core.List.{List, [], ◌++◌, map, append-nil}
use lib.Dec.{eqb}
use borrow.Author.Tests.{ne_eqb}
use Rattle.lists.specs.Lists.{keep, filter, any, run, contains}
use Rattle.lists.proofs.Booleans.{agree, refute}
use Rattle.lists.proofs.Filters.{any_append, filter_append, filter_filter, filter_map}
use Rattle.lists.proofs.Members.{into_map, of_map, into_filter, of_filter, contains_mem, mem_contains}
use Rattle.lists.proofs.Runs.{into_run, of_run}
use Rattle.model.specs.Changes.{missing}
use Rattle.table_listing.specs.Picked.{picked}
use Rattle.table_listing.proofs.Picking.{picked_same}

or-false : (b : Bool) → b || false ≡ b
or-false true = refl
or-false false = refl

module _ (first count : ℕ) where
  -- a filter of positions picked is one test more
  filter_picked : (g f : ℕ → Bool) → filter g (picked f first count) ≡ picked (λ i. f i && g (first + i)) first count
  unfolding picked
  filter_picked g f =
      filter_map g (λ i. first + i) (filter f (run 0 count))
      ∙ ap (map (λ i. first + i)) (filter_filter (λ i. g (first + i)) f (run 0 count))

  module _ (f : ℕ → Bool) where
    -- a position picked stands at a place that passes the test
    of_picked : (p : ℕ) → contains p (picked f first count) ≡ true → (i : ℕ) × (i < count) × (f i ≡ true) × (p ≡ first + i)
    unfolding picked
    of_picked p e =
        let m = of_map (λ i. first + i) p (filter f (run 0 count)) (contains_mem p (picked f first count) e) in
        let t = of_filter f m.0 (run 0 count) m.1 in
        (m.0, rw zero-add at (of_run 0 count m.0 t.0).1, t.1, m.2)

    -- a position is picked exactly if its row passes the test
    contains_picked : (i : ℕ) → i < count → contains (first + i) (picked f first count) ≡ f i
    unfolding picked
    contains_picked i h = agree (contains (first + i) (picked f first count)) (f i) there back
      where
        there : contains (first + i) (picked f first count) ≡ true → f i ≡ true
        there e =
            let t = of_picked (first + i) e in
            let at = t.3 in
            let same : i ≡ t.0 = omega arith in
            rw same t.2

        back : f i ≡ true → contains (first + i) (picked f first count) ≡ true
        back e =
            mem_contains (first + i) (picked f first count)
            (into_map (λ k. first + k) i (filter f (run 0 count)) (into_filter f i (run 0 count) (into_run 0 count i (omega arith) (omega arith)) e))

    -- the position behind all of them, where b says that there is one
    abbrev behind : Bool → List ℕ
    behind b = keep b (first + count) []

    below_behind : (b : Bool) (i : ℕ) → i < count → contains (first + i) (behind b) ≡ false
    unfolding contains any
    below_behind true i h = rw (ne_eqb (first + i) (first + count) (λ e. omega arith))
    below_behind false i h = refl

    -- the positions picked by another test that this test and a position behind all others leave out
    pub missing_picked : (h : ℕ → Bool) (b : Bool) → missing (picked h first count) (picked f first count ++ behind b) ≡ picked (λ i. h i && not (f i)) first count
    unfolding missing contains
    missing_picked h b =
        filter_picked (λ p. not (contains p (picked f first count ++ behind b))) h
        ∙ picked_same (λ i. h i && not (contains (first + i) (picked f first count ++ behind b))) (λ i. h i && not (f i)) first count
        (λ i l. ap (λ (z : Bool). h i && not z) (held i l))
      where
        held : (i : ℕ) → i < count → contains (first + i) (picked f first count ++ behind b) ≡ f i
        held i l =
            any_append (eqb (first + i)) (picked f first count) (behind b)
            ∙ rw (contains_picked i l, below_behind b i l) (or-false (f i))

    -- the positions picked by another test, and one behind all others, that this test leaves out
    pub missing_behind : (h : ℕ → Bool) (b : Bool) → missing (picked h first count ++ behind b) (picked f first count) ≡ picked (λ i. h i && not (f i)) first count ++ behind b
    unfolding missing filter
    missing_behind h b =
        filter_append (λ p. not (contains p (picked f first count))) (picked h first count) (behind b)
        ∙ ap₂ {C = List ℕ} (λ (l m : List ℕ). l ++ m) (rw append-nil at (missing_picked h false)) (last b)
      where
        last : (b : Bool) → filter (λ p. not (contains p (picked f first count))) (behind b) ≡ behind b
        last true = rw (refute (contains (first + count) (picked f first count)) (λ e. let t = of_picked (first + count) e in let at = t.3 in let low = t.1 in omega arith))
        last false = refl
