-- Laws of cells of four bytes each, one behind the other: their length, a cell read from its bytes, and cells read and written again.
use mathlib.Core.Path.{◌≡◌, refl, ap₂, ◌∙◌}
use Prim.Native.Nat.{ℕ, zero, suc, ◌+◌, ◌*◌, ◌≤◌, ◌<◌}
use native.Mathlib.Nat.{suc-add}
use native.Mathlib.Numerals.{towards_suc}
use native.Mathlib.Omega.{arith}
use mathlib.Core.List.{List, [], ◌∷◌, ◌++◌, map}
use lib.ListN.{length, get_or, take, drop}
use lib.Seq.{take-add, drop-drop}
use Rattle.lists.specs.Lists.{flat, run}
use Rattle.lists.proofs.Cells.{cells_part}
use Rattle.octets.specs.Bytes.{bytes4, number4}
use Rattle.octets.proofs.Numbers.{four_bytes, bytes4_again}

-- four bytes for each cell
pub length_cells : (l : List ℕ) → length (flat (map bytes4 l)) ≡ 4 * length l
unfolding flat bytes4
length_cells [] = refl
length_cells (c ∷ l) = omega (arith, length_cells l)

-- a cell read from its four bytes
pub cell_again : (l after : List ℕ) (i : ℕ) → i < length l → get_or l i 0 < 4294967296 → number4 (flat (map bytes4 l) ++ after) (4 * i) ≡ get_or l i 0
unfolding flat bytes4 number4
cell_again [] after i h u = absurd (omega arith)
cell_again (c ∷ l) after zero h u = four_bytes c u
cell_again (c ∷ l) after (suc i) h u =
    let e : 4 * suc i ≡ suc (suc (suc (suc (4 * i)))) = omega arith in
    rw e (simp suc-add (cell_again l after i (omega arith) u))

-- the numbers of four bytes each, written again
pub cells_again : (l : List ℕ) (a k : ℕ) → ((i : ℕ) → get_or l i 0 < 256) → 4 * a + 4 * k ≤ length l
    → flat (map bytes4 (map (λ i. number4 l (4 * i)) (run a k))) ≡ take (4 * k) (drop (4 * a) l)
unfolding flat run
cells_again l a zero b h = refl
cells_again l a (suc k) b h =
    let size : 4 * suc k ≡ 4 + 4 * k = omega arith in
    let next : 4 * a + 4 ≡ 4 * suc a = omega arith in
    let one : bytes4 (number4 l (4 * a)) ≡ take 4 (drop (4 * a) l) = bytes4_again l (4 * a) b ∙ simp towards_suc (cells_part 0 l (4 * a) 4 (omega arith)) in
    rw (size, take-add 4 (4 * k) (drop (4 * a) l), drop-drop 4 (4 * a) l, next) (ap₂ {C = List ℕ} (λ (x y : List ℕ). x ++ y) one (cells_again l (suc a) k b (omega arith)))
