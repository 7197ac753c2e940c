-- Records that are not torn have one free where a desk is not full.
use mathlib.Core.Path.{◌≡◌}
use mathlib.Core.Logic.{◌⊎◌, inl, inr}
use Prim.Native.Nat.{ℕ, ◌+◌, ◌≤◌, ◌<◌}
use native.Mathlib.Omega.{arith}
use mathlib.Core.Bool.{false}
use mathlib.Core.List.{List}
use Rattle.head.specs.declared.Desk.{Desk}
use Rattle.head.specs.declared.Desk.TheVariants.{One, Two}
use Rattle.model.specs.Shares.{count_of, above_shares, desk_full}
use Rattle.model.specs.Book.{standing, torn_watches}
use Rattle.model.proofs.Records.{count_both, not_full}
use Rattle.model.proofs.Sound.{untorn_records}
use Rattle.watch_numbers.specs.Vacancy.{Vacant}

-- both desks together have fewer than eight where one is not full
bounded : (desk : Desk) (ws : List ℕ) → (count_of desk ws < 3) ⊎ (above_shares ws < 2) → above_shares ws ≤ 2 → count_of One ws + count_of Two ws < 8
unfolding above_shares
bounded One ws (inl a) h = omega arith
bounded One ws (inr a) h = omega arith
bounded Two ws (inl a) h = omega arith
bounded Two ws (inr a) h = omega arith

-- what `insert` asks, of records that are not torn and a desk that is not full
pub vacant : (capacity : ℕ) (desk : Desk) (ws : List ℕ) → torn_watches capacity ws ≡ false → desk_full desk (standing ws) ≡ false → Vacant ws
vacant capacity desk ws t f =
    let r = untorn_records capacity ws t in
    record {
      capacity = capacity;
      untorn = t;
      free = omega (arith, count_both capacity (standing ws) r.each, bounded desk (standing ws) (not_full desk (standing ws) f) r.shares);
    }
