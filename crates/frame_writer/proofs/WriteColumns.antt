-- A quote's columns are written one behind the other.
use mathlib.Core.Path.{◌≡◌, ap, ◌∙◌}
use Prim.Native.Nat.{ℕ, ◌+◌, ◌*◌, ◌≤◌, ◌<◌}
use native.Mathlib.Omega.{arith}
use native.Mathlib.Numerals.{add-one}
use mathlib.Core.List.{List, ◌∷◌, ◌++◌, map, map-append, append-nil}
use lib.ListN.{length, get_or, take, set}
use lib.Seq.{take-suc, length-take-le}
use Rattle.lists.specs.Lists.{flat, laid}
use Rattle.lists.proofs.Filters.{flat_append}
use Rattle.octets.specs.Bytes.{bytes4}
use Rattle.octets.specs.Placed.{placed}
use Rattle.octets.proofs.Cells.{length_cells}
use Rattle.octets.proofs.Laying.{laid_one, laid_next}

-- one column more
body_more : (columns : List ℕ) (i : ℕ) → i < length columns → flat (map bytes4 (take (i + 1) columns)) ≡ flat (map bytes4 (take i columns)) ++ bytes4 (get_or columns i 0)
unfolding flat
body_more columns i h = rw (add-one i, take-suc columns i 0 h, map-append, flat_append, append-nil)

-- the kind alone
pub start : (kind : ℕ) (columns before : List ℕ) → 1 ≤ length before → set before 0 kind ≡ laid (kind ∷ flat (map bytes4 (take 0 columns))) before
unfolding flat
start kind columns before h = laid_one kind before h

-- one column more behind it
pub more : (kind : ℕ) (columns before out after : List ℕ) (at i : ℕ) → i < length columns → at ≡ 1 + 4 * i
    → out ≡ laid (kind ∷ flat (map bytes4 (take i columns))) before → after ≡ placed (bytes4 (get_or columns i 0)) at out
    → after ≡ laid (kind ∷ flat (map bytes4 (take (i + 1) columns))) before
more kind columns before out after at i h e so_far stored =
    let written : length (flat (map bytes4 (take i columns))) ≡ 4 * i = length_cells (take i columns) ∙ ap (λ (n : ℕ). 4 * n) (length-take-le i columns (omega arith)) in
    rw (body_more columns i h) (laid_next (kind ∷ flat (map bytes4 (take i columns))) (bytes4 (get_or columns i 0)) before (omega arith) so_far stored)
