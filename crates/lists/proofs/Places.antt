-- The elements of a list by their places; those of a rising list are within its bounds, rising, and each at one place.
use mathlib.Core.Path.{◌≡◌, refl, ap, ◌∙◌}
use Prim.Native.Nat.{ℕ, zero, suc, ◌≤◌, ◌<◌}
use native.Mathlib.Nat.{zero-add}
use native.Mathlib.Omega.{arith}
use mathlib.Core.Bool.{true}
use mathlib.Core.List.{List, [], ◌∷◌, map}
use lib.ListN.{length, get_or, take}
use lib.Seq.{take-suc}
use Rattle.lists.specs.Lists.{run, rising}
use Rattle.lists.proofs.Filters.{map-append}
use Rattle.lists.proofs.Runs.{run_snoc}
use Rattle.lists.proofs.Rising.{rising_cons}

-- the elements at the first n places
pub map_places : {A : Type 0} (z : A) (n : ℕ) (l : List A) → n ≤ length l → map (λ i. get_or l i z) (run 0 n) ≡ take n l
unfolding run
map_places z zero l h = refl
map_places z (suc n) l h =
    ap (map (λ i. get_or l i z)) (run_snoc 0 n) ∙ rw (map-append, map_places z n l (omega arith), zero-add, take-suc l n z (omega arith))

pub rising_at : (lo hi : ℕ) (l : List ℕ) (i : ℕ) → rising lo hi l ≡ true → i < length l → (lo ≤ get_or l i 0) × (get_or l i 0 ≤ hi)
rising_at lo hi [] i e h = absurd (omega arith)
rising_at lo hi (x ∷ xs) zero e h = let r = rising_cons lo hi x xs e in (r.low, r.high)
rising_at lo hi (x ∷ xs) (suc i) e h =
    let r = rising_cons lo hi x xs e in
    let t = rising_at (suc x) hi xs i r.rest (omega arith) in
    (omega arith, t.1)
