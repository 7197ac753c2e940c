-- Windows and their skylines, over any relation of dominance on positions.
use Rattle.std.specs.Prelude.{ℕ, ◌+◌, ◌-◌, max, Bool, ◌&&◌, not, List, ltb, leb}
use Rattle.lists.specs.Lists.{filter, any, between}

-- the first position of the window of n while M is the newest: the larger of 1 and M − n + 1
unfoldable pub window_start : ℕ → ℕ → ℕ
window_start M n = max 1 (M + 1 - n)

-- a row with this lower end and position is on the list of the window that starts at s (000, 3.4: stabbing)
unfoldable pub stabbed : ℕ → ℕ → ℕ → Bool
stabbed s lower position = ltb lower s && leb s position

module _ (dom : ℕ → ℕ → Bool) where
  -- some position from a to b dominates p
  unfoldable pub dominated_in : ℕ → ℕ → ℕ → Bool
  dominated_in a b p = any (λ q. dom q p) (between a b)

  -- the skyline of the positions a to b (01: the list, of a window): those that none of them dominates, rising
  unfoldable pub skyline : ℕ → ℕ → List ℕ
  skyline a b = filter (λ p. not (dominated_in a b p)) (between a b)
