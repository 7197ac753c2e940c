-- The tests over quotes laid: those of the places of a range are those of a run. Assumes nothing.
use mathlib.Core.Path.{◌≡◌, refl, sym, ap, ◌∙◌}
use mathlib.Core.Bool.{Bool, ◌&&◌, ◌||◌, not}
use mathlib.Core.List.{List}
use Prim.Native.Nat.{ℕ, zero, suc, ◌-◌, ◌%◌, ◌≤◌}
use native.Mathlib.Numerals.{add-one}
use lib.Dec.{ltb}
use lib.ListN.{length, get_or, take}
use Rattle.std.specs.List.{list_any, range_with_len}
use Rattle.lists.specs.Lists.{any, run}
use Rattle.drill_turns.specs.declared.game.Rules.{Rules}
use Rattle.drill_turns.specs.Numbers.{won_by, over_at, dominated_at}
use Rattle.drill_turns.proofs.LastList.{won_by_lem}

-- some number of a range passes the test
any_in_range : (f : ℕ → Bool) (a k : ℕ) → list_any f (range_with_len a k) ≡ any f (run a k)
unfolding any run
any_in_range f a zero = refl
any_in_range f a (suc k) = ap (λ (b : Bool). f a || b) (rw (add-one a) (any_in_range f (suc a) k))

module _ (cells : List ℕ) (rules : Rules) (laid : List ℕ) where
  pub dominated_is : (from k i : ℕ) → list_any (λ j. over_at cells rules laid j i) (range_with_len from k) ≡ dominated_at cells rules laid from k i
  unfolding dominated_at
  dominated_is from k i = any_in_range (λ j. over_at cells rules laid j i) from k

  pub stands_is : (from count : ℕ) → from ≡ count - rules.n → count ≤ length laid
      → list_any (λ i. not (dominated_at cells rules laid from (count - from) i) && ltb (get_or laid i 0 % 8) 4) (range_with_len from (count - from))
      ≡ won_by cells rules (take count laid)
  stands_is from count e h = rw e (any_in_range _ _ _ ∙ sym (won_by_lem cells rules laid count h))
