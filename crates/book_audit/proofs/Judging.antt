-- A turn of the loop that judges the ends of one row after another.
use mathlib.Core.Path.{◌≡◌, refl}
use Prim.Native.Nat.{ℕ, ◌+◌, ◌≤◌, ◌<◌}
use native.Mathlib.Nat.{zero-add, le_antisymm}
use native.Mathlib.Numerals.{add-one}
use native.Mathlib.Omega.{arith}
use mathlib.Core.Bool.{Bool, true, false, ◌||◌, not, or-false}
use mathlib.Core.List.{List, []}
use lib.Dec.{eqb}
use lib.ListN.{get_or}
use Rattle.lists.specs.Lists.{any, run}
use Rattle.lists.proofs.Filters.{any_append}
use Rattle.lists.proofs.Runs.{run_snoc}
use Rattle.model.specs.Rows.{row_at, over_older, over_younger}
use Rattle.model.specs.Promises.{tables}
use Rattle.book_audit.specs.Ends.{position_at, over_younger_at, over_older_at, lower_found, upper_found, wrong_at}

-- i of the rows have been judged, and wrong says whether an end of one of them is
pub record Judging (d directions count : ℕ) (cs ps ls us : List ℕ) (wrong : Bool) (i : ℕ) : Type 0 where
  pub within : i ≤ count
  pub wrong≡ : wrong ≡ any (wrong_at d directions (tables cs ps ls us) count) (run 0 i)

-- what is found without the ends in the tables
module _ (d directions count : ℕ) (cs ps ls us : List ℕ) (i : ℕ) where
  lower_same : lower_found d directions (tables cs ps [] []) i ≡ lower_found d directions (tables cs ps ls us) i
  unfolding lower_found position_at over_younger_at over_younger row_at
  lower_same = refl

  upper_same : upper_found d directions (tables cs ps [] []) count i ≡ upper_found d directions (tables cs ps ls us) count i
  unfolding upper_found position_at over_older_at over_older row_at
  upper_same = refl

module _ {d directions count : ℕ} {cs ps ls us : List ℕ} where
  pub start : Judging d directions count cs ps ls us false 0
  unfolding any run
  start = record { within = omega arith; wrong≡ = refl }

  pub more : {wrong : Bool} {i : ℕ} → Judging d directions count cs ps ls us wrong i → i < count
      → (lower upper : ℕ) → lower ≡ lower_found d directions (tables cs ps [] []) i → upper ≡ upper_found d directions (tables cs ps [] []) count i
      → Judging d directions count cs ps ls us (wrong || not (eqb (get_or ls i 0) lower) || not (eqb (get_or us i 0) upper)) (i + 1)
  unfolding any wrong_at row_at
  more {wrong} {i} v h lower upper e f = record {
    within = omega arith;
    wrong≡ = rw (add-one, run_snoc, any_append, or-false, zero-add, v.wrong≡, e, f, lower_same d directions count cs ps ls us i, upper_same d directions count cs ps ls us i)
        (sym_assoc (any (wrong_at d directions (tables cs ps ls us) count) (run 0 i)) (not (eqb (get_or ls i 0) (lower_found d directions (tables cs ps ls us) i))) (not (eqb (get_or us i 0) (upper_found d directions (tables cs ps ls us) count i))));
  }
    where
      sym_assoc : (a b c : Bool) → (a || b) || c ≡ a || (b || c)
      sym_assoc true b c = refl
      sym_assoc false b c = refl

  pub finish : {wrong : Bool} {i : ℕ} → Judging d directions count cs ps ls us wrong i → count ≤ i → not wrong ≡ not (any (wrong_at d directions (tables cs ps ls us) count) (run 0 count))
  finish v h = let e = le_antisymm v.within h in rw (v.wrong≡, e)
