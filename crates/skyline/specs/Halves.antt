-- A list of positions thinned by another, over any relation of dominance on positions, and the skyline of any positions.
use Rattle.std.specs.Prelude.{ℕ, Bool, not, List}
use Rattle.lists.specs.Lists.{filter, any}

module _ (dom : ℕ → ℕ → Bool) where
  -- some of these positions dominates p
  unfoldable pub dominated_by : List ℕ → ℕ → Bool
  dominated_by l p = any (λ q. dom q p) l

  -- l thinned by m: the positions of l that none of m dominates
  unfoldable pub thinned : List ℕ → List ℕ → List ℕ
  thinned l m = filter (λ p. not (dominated_by m p)) l

  -- the skyline of any positions: those that none of them dominates
  unfoldable pub unbeaten : List ℕ → List ℕ
  unbeaten l = thinned l l
