-- What the theorems on the desks' shares of the eight records say.
use Rattle.std.specs.Prelude.{◌≡◌, ◌⊎◌, ℕ, ◌≤◌, ◌<◌, true, false, List, length}
use Rattle.lists.specs.Lists.{contains}
use Rattle.head.specs.declared.Desk.{Desk}
use Rattle.head.specs.Desks.{watch_of}
use Rattle.model.specs.Shares.{count_of, above_shares, desk_full}
use Rattle.model.specs.Book.{standing}
use Rattle.model.specs.Calls.{Seen}

-- watches within the shares: at most 2 above 3 each, so at most eight, and fewer unless the desk is full
pub record WithinShares (ws : List ℕ) : Type 0 where
  pub above : above_shares ws ≤ 2
  pub eight : length ws ≤ 8
  pub free : (desk : Desk) → desk_full desk ws ≡ false → length ws < 8

-- a desk that gives back one of these watches makes room for this desk: it is this desk, or has a watch above its 3
abbrev pub MakesRoom : Desk → Desk → List ℕ → Type 0
MakesRoom desk giver ws = (giver ≡ desk) ⊎ (3 < count_of giver ws)

-- a call was accepted that left the watches of n of both desks standing
pub record BothStand (n : ℕ) (desk other : Desk) (seen : Seen) : Type 0 where
  pub accepted : seen.outcome.number ≡ 0
  pub own : contains (watch_of desk n) (standing seen.lent.watches) ≡ true
  pub others : contains (watch_of other n) (standing seen.lent.watches) ≡ true
