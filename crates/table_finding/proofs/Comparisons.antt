-- One row: whether it is live or retired, and what comparing the quote with it says.
use mathlib.Core.Path.{◌≡◌, refl}
use mathlib.Core.Logic.{◌≢◌}
use Prim.Native.Nat.{ℕ, suc, ◌-◌, ◌*◌, ◌<◌}
use native.Mathlib.Omega.{arith}
use mathlib.Core.Bool.{true, false, ◌&&◌, not}
use mathlib.Core.List.{List}
use lib.Dec.{eqb}
use lib.ListN.{get_or, drop}
use borrow.Author.Tests.{eqb-true}
use Rattle.lists.specs.Lists.{keep, filter, run}
use Rattle.lists.proofs.Booleans.{refute}
use Rattle.dominance.specs.declared.Comparison.{Comparison}
use Rattle.dominance.specs.Compared.{compared}
use Rattle.dominance.proofs.Comparing.{no_worse_by, dominated_by_lem, compared_take}
use Rattle.table_finding.specs.Found.{live, Rows, row_at, over, under, retires, retired}

-- an upper end of 0 is that of a live row, and no other is
pub live_zero : (uppers : List ℕ) (i : ℕ) → get_or uppers i 0 ≡ 0 → live uppers i ≡ true
unfolding live
live_zero uppers i e = rw e refl

pub live_not : (uppers : List ℕ) (i : ℕ) → get_or uppers i 0 ≢ 0 → live uppers i ≡ false
unfolding live
live_not uppers i h = refute (eqb (get_or uppers i 0) 0) (λ t. h (eqb-true (get_or uppers i 0) 0 t))

module _ (s : Rows) where
  -- one row more at the front
  pub retired_cons : (i b : ℕ) → i < b → retired s i b ≡ keep (retires s i) i (retired s (suc i) b)
  unfolding retired run filter
  retired_cons i b h = let e : b - i ≡ suc (b - suc i) = omega arith in rw e

  -- what the comparison of the quote with a row says
  pub over_by : (i : ℕ) (c : Comparison) → c ≡ compared s.d s.directions s.quote (drop (i * s.d) s.columns) → over s i ≡ not c.worse
  unfolding over row_at
  over_by i c e = rw (no_worse_by, compared_take, ← e)

  pub under_by : (i : ℕ) (c : Comparison) → c ≡ compared s.d s.directions s.quote (drop (i * s.d) s.columns) → under s i ≡ c.worse && not c.better
  unfolding under row_at
  under_by i c e = rw (dominated_by_lem, compared_take, ← e)
