-- Laws of cells: functions mapped over a run of places, and a list as the run of its cells.
use mathlib.Core.Path.{◌≡◌, refl, ap}
use Prim.Native.Nat.{ℕ, zero, suc, ◌+◌, ◌≤◌, ◌<◌}
use native.Mathlib.Omega.{arith}
use mathlib.Core.List.{List, ◌∷◌, map}
use lib.ListN.{length, get_or, take, drop, replicate}
use lib.Seq.{drop-cons}
use Rattle.lists.specs.Lists.{run}
use Rattle.lists.proofs.Members.{map_same_mem}
use Rattle.lists.proofs.Runs.{of_run}

-- two functions that agree on the places of a run map alike
pub map_run : {A : Type 0} (f g : ℕ → A) (a n : ℕ) → ((i : ℕ) → a ≤ i → i < a + n → f i ≡ g i) → map f (run a n) ≡ map g (run a n)
map_run f g a n e = map_same_mem f g (run a n) (λ i m. let t = of_run a n i m in e i t.0 t.1)

-- one value for every place
pub map_one : {A : Type 0} (z : A) (a n : ℕ) → map (λ i. z) (run a n) ≡ replicate n z
unfolding run
map_one z a zero = refl
map_one {A} z a (suc n) = ap (λ (r : List A). z ∷ r) (map_one z (suc a) n)

-- the cells from a place on are that part of the list
pub cells_part : {A : Type 0} (z : A) (l : List A) (a n : ℕ) → a + n ≤ length l → map (λ i. get_or l i z) (run a n) ≡ take n (drop a l)
unfolding run
cells_part z l a zero h = refl
cells_part {A} z l a (suc n) h = rw (drop-cons l a z (omega arith)) (ap (λ (r : List A). get_or l a z ∷ r) (cells_part z l (suc a) n (omega arith)))
