-- The positions of a rising list, and whether one of them is over another position.
use mathlib.Core.Path.{◌≡◌, refl, ap}
use Prim.Native.Nat.{ℕ, ◌<◌}
use mathlib.Core.Bool.{Bool, true, ◌||◌}
use mathlib.Core.List.{List, [], ◌∷◌}
use lib.ListN.{length, get_or}
use Rattle.std.proofs.lemmas.Grind.{get_or_default_zero}
use Rattle.std.specs.List.{All, list_any}
use Rattle.lists.specs.Lists.{any, rising}
use Rattle.lists.proofs.Places.{rising_at}
use Rattle.skyline.specs.Halves.{dominated_by}
use Rattle.day_skyline.specs.Finding.{Inside}

-- a position of a rising list is of the day
pub inside_at : (count : ℕ) (l : List ℕ) (i : ℕ) → rising 1 count l ≡ true → i < length l → Inside count (get_or l i 0)
inside_at count l i e h = let t = rising_at 1 count l i e h in record { low = t.0; high = t.1 }

-- so is each of them
pub all_inside : (count : ℕ) (l : List ℕ) → rising 1 count l ≡ true → All (Inside count) l
all_inside count l e k d h = rw (get_or_default_zero l k d h) (inside_at count l k e h)

-- what is asked of each of some positions is whether one of them is over p
pub any_is : (dom : ℕ → ℕ → Bool) (p : ℕ) (l : List ℕ) → list_any (λ q. dom q p) l ≡ dominated_by dom l p
unfolding dominated_by any
any_is dom p [] = refl
any_is dom p (q ∷ l) = ap (λ (b : Bool). dom q p || b) (any_is dom p l)
