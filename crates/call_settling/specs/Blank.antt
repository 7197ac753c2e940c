-- Cells that are zeros already.
use Rattle.std.specs.Prelude.{◌≡◌, ℕ, ◌-◌, ◌≤◌, List, ◌++◌, drop, replicate}

-- the cells from one place up to another are zeros
pub record Blank (from to : ℕ) (cells : List ℕ) : Type 0 where
  pub within : from ≤ to
  pub zeros : drop from cells ≡ replicate (to - from) 0 ++ drop to cells
