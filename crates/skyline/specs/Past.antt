-- Past lists: both ends of every held position, and who is on the list of a window that closed a while ago (000, 3.5).
use Rattle.std.specs.Prelude.{ℕ, suc, ◌-◌, Bool, ◌&&◌, ◌||◌, ltb, leb, eqb}
use Rattle.lists.specs.Lists.{filter, head_or, last_or, between}

module _ (dom : ℕ → ℕ → Bool) where
  -- the lower end of p: the youngest older position from S on that dominates it, or 0
  unfoldable pub lower_end : ℕ → ℕ → ℕ
  lower_end S p = last_or 0 (filter (λ q. dom q p) (between S (p - 1)))

  -- the upper end of p: the oldest younger position up to M that dominates it, or 0 while p is live
  unfoldable pub upper_end : ℕ → ℕ → ℕ
  upper_end M p = head_or 0 (filter (λ q. dom q p) (between (suc p) M))

-- a row with these ends and this position is on the list of the window from a to b (02, 1/13: the past list)
unfoldable pub covers : ℕ → ℕ → ℕ → ℕ → ℕ → Bool
covers a b lower position upper = ltb lower a && leb a position && leb position b && (eqb upper 0 || ltb b upper)
