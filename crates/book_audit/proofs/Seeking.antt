-- Turns of the loops that seek the ends of a row: back over the rows before it, and on over those behind it.
use mathlib.Core.Path.{◌≡◌, refl, sym, ap, ◌∙◌}
use Prim.Native.Nat.{ℕ, suc, ◌+◌, ◌-◌, ◌*◌, ◌≤◌, ◌<◌}
use native.Mathlib.Nat.{zero-add, le_refl}
use native.Mathlib.Numerals.{add-one}
use native.Mathlib.Omega.{arith}
use mathlib.Core.Bool.{Bool, true, false, ◌&&◌, not}
use mathlib.Core.List.{List, [], map, append-nil}
use lib.ListN.{length, get_or, take, drop}
use Rattle.lists.specs.Lists.{filter, head_or, last_or, run}
use Rattle.lists.proofs.Filters.{filter_append, map-append, last_snoc}
use Rattle.lists.proofs.Runs.{run_snoc}
use Rattle.dominance.specs.declared.Comparison.{Comparison}
use Rattle.dominance.specs.Compared.{compared}
use Rattle.dominance.proofs.Comparing.{no_worse_by, dominated_by_lem, compared_take}
use Rattle.model.specs.Rows.{row_at, over_older, over_younger}
use Rattle.model.specs.Promises.{tables}
use Rattle.table_cells.proofs.Reading.{row_within}
use Rattle.book_audit.specs.Ends.{position_at, over_younger_at, over_older_at, lower_found, upper_found}

-- ---- one comparison of two rows

module _ (d directions : ℕ) (cs : List ℕ) (i k : ℕ) (c : Comparison)
    (e : c ≡ compared d directions (take (i * d + d - i * d) (drop (i * d) cs)) (drop (k * d) cs)) where
  rows_compared : c ≡ compared d directions (take d (drop (i * d) cs)) (take d (drop (k * d) cs))
  rows_compared = let z : i * d + d - i * d ≡ d = omega arith in e ∙ rw (z, compared_take)

  pub over_younger_by : c.worse && not c.better ≡ over_younger_at d directions (tables cs [] [] []) i k
  unfolding over_younger_at over_younger row_at
  over_younger_by = rw (dominated_by_lem, ← rows_compared)

  pub over_older_by : not c.worse ≡ over_older_at d directions (tables cs [] [] []) k i
  unfolding over_older_at over_older row_at
  over_older_by = rw (no_worse_by, ← rows_compared)

-- ---- the last and the first of a run that pass a test

module _ (f : ℕ → Bool) (g : ℕ → ℕ) where
  last_passes : (j : ℕ) → f j ≡ true → last_or 0 (map g (filter f (run 0 (suc j)))) ≡ g j
  unfolding filter
  last_passes j e = rw (run_snoc, zero-add, filter_append, map-append, e) (last_snoc 0 (map g (filter f (run 0 j))) (g j))

  last_fails : (j : ℕ) → f j ≡ false → last_or 0 (map g (filter f (run 0 (suc j)))) ≡ last_or 0 (map g (filter f (run 0 j)))
  unfolding filter
  last_fails j e = rw (run_snoc, zero-add, filter_append, e, append-nil)

  first_passes : (j k : ℕ) → f j ≡ true → head_or 0 (map g (filter f (run j (suc k)))) ≡ g j
  unfolding filter run head_or
  first_passes j k e = rw e

  first_fails : (j k : ℕ) → f j ≡ false → head_or 0 (map g (filter f (run j (suc k)))) ≡ head_or 0 (map g (filter f (run (suc j) k)))
  unfolding filter run
  first_fails j k e = rw e

-- ---- the two loops

-- the row at place i is sought an end for: its columns and those of the others lie within the table
pub record Sought (d count : ℕ) (cs ps : List ℕ) (i : ℕ) : Type 0 where
  pub own : i < count
  pub columns_fit : count * d ≤ length cs
  pub positions_fit : count ≤ length ps

-- a row's columns lie within the table
pub columns_in_lem : {d count : ℕ} {cs ps : List ℕ} {i : ℕ} → Sought d count cs ps i → (k : ℕ) → k < count → k * d + d ≤ length cs
columns_in_lem {d} {count} s k h = let f = s.columns_fit in omega (arith, row_within k count d h)

-- none of the rows from place j to before place i is over the row at place i
pub record Back (d directions count : ℕ) (cs ps : List ℕ) (i j : ℕ) : Type 0 where
  pub sought : Sought d count cs ps i
  pub within : j ≤ i
  pub same :
      lower_found d directions (tables cs ps [] []) i
      ≡ last_or 0 (map (position_at d (tables cs ps [] [])) (filter (over_younger_at d directions (tables cs ps [] []) i) (run 0 j)))

-- nor is any from behind place i to before place j
pub record Onward (d directions count : ℕ) (cs ps : List ℕ) (i j : ℕ) : Type 0 where
  pub sought : Sought d count cs ps i
  pub low : i < j
  pub same :
      upper_found d directions (tables cs ps [] []) count i
      ≡ head_or 0 (map (position_at d (tables cs ps [] [])) (filter (over_older_at d directions (tables cs ps [] []) i) (run j (count - j))))

module _ {d directions count : ℕ} {cs ps : List ℕ} {i : ℕ} where
  pub back_start : Sought d count cs ps i → Back d directions count cs ps i i
  unfolding lower_found
  back_start s = record { sought = s; within = le_refl i; same = refl }

  module _ {j : ℕ} (v : Back d directions count cs ps i j) (h : 0 < j) {over : Bool} (e : over ≡ over_younger_at d directions (tables cs [] [] []) i (j - 1)) where
    pub back_found : over ≡ true → get_or ps (j - 1) 0 ≡ lower_found d directions (tables cs ps [] []) i
    unfolding over_younger_at over_younger row_at position_at
    back_found f =
        let z : j ≡ suc (j - 1) = omega arith in
        sym (v.same ∙ ap (λ (n : ℕ). last_or 0 (map (position_at d (tables cs ps [] [])) (filter (over_younger_at d directions (tables cs ps [] []) i) (run 0 n)))) z
        ∙ last_passes (over_younger_at d directions (tables cs ps [] []) i) (position_at d (tables cs ps [] [])) (j - 1) (sym e ∙ f))

    pub back_more : over ≡ false → Back d directions count cs ps i (j - 1)
    unfolding over_younger_at over_younger row_at
    back_more f = record {
      sought = v.sought;
      within = let w = v.within in omega arith;
      same =
          let z : j ≡ suc (j - 1) = omega arith in
          v.same ∙ ap (λ (n : ℕ). last_or 0 (map (position_at d (tables cs ps [] [])) (filter (over_younger_at d directions (tables cs ps [] []) i) (run 0 n)))) z
          ∙ last_fails (over_younger_at d directions (tables cs ps [] []) i) (position_at d (tables cs ps [] [])) (j - 1) (sym e ∙ f);
    }

  pub back_none : {j : ℕ} → Back d directions count cs ps i j → j ≤ 0 → 0 ≡ lower_found d directions (tables cs ps [] []) i
  unfolding run filter last_or
  back_none {j} v h = let z : j ≡ 0 = omega arith in sym (v.same ∙ rw z)

  pub onward_start : Sought d count cs ps i → Onward d directions count cs ps i (i + 1)
  unfolding upper_found
  onward_start s = record { sought = s; low = omega arith; same = rw add-one }

  module _ {j : ℕ} (v : Onward d directions count cs ps i j) (h : j < count) {over : Bool} (e : over ≡ over_older_at d directions (tables cs [] [] []) i j) where
    pub onward_found : over ≡ true → get_or ps j 0 ≡ upper_found d directions (tables cs ps [] []) count i
    unfolding over_older_at over_older row_at position_at
    onward_found f =
        let z : count - j ≡ suc (count - suc j) = omega arith in
        sym (v.same ∙ ap (λ (n : ℕ). head_or 0 (map (position_at d (tables cs ps [] [])) (filter (over_older_at d directions (tables cs ps [] []) i) (run j n)))) z
        ∙ first_passes (over_older_at d directions (tables cs ps [] []) i) (position_at d (tables cs ps [] [])) j (count - suc j) (sym e ∙ f))

    pub onward_more : over ≡ false → Onward d directions count cs ps i (j + 1)
    unfolding over_older_at over_older row_at
    onward_more f = record {
      sought = v.sought;
      low = let w = v.low in omega arith;
      same =
          let z : count - j ≡ suc (count - suc j) = omega arith in
          v.same ∙ ap (λ (n : ℕ). head_or 0 (map (position_at d (tables cs ps [] [])) (filter (over_older_at d directions (tables cs ps [] []) i) (run j n)))) z
          ∙ first_fails (over_older_at d directions (tables cs ps [] []) i) (position_at d (tables cs ps [] [])) j (count - suc j) (sym e ∙ f)
          ∙ rw add-one;
    }

  pub onward_none : {j : ℕ} → Onward d directions count cs ps i j → count ≤ j → 0 ≡ upper_found d directions (tables cs ps [] []) count i
  unfolding run filter head_or
  onward_none {j} v h = let z : count - j ≡ 0 = omega arith in sym (v.same ∙ rw z)
