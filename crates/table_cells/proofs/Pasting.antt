-- Cells moved by way of a copy.
use mathlib.Core.Path.{◌≡◌, ap, ◌∙◌}
use Prim.Native.Nat.{ℕ, ◌+◌, ◌≤◌}
use native.Mathlib.Nat.{le_refl}
use native.Mathlib.Omega.{arith}
use mathlib.Core.List.{List}
use lib.ListN.{length, take, drop, length-drop}
use lib.Seq.{paste, length-take-le, take-take, take_at, take-length}

-- cells copied out to the front of a table and back to a place
pub moved : (before : List ℕ) (from to n : ℕ) (held part lifted after : List ℕ) → from + n ≤ length before
    → lifted ≡ paste held 0 part (length part) → after ≡ paste before to (take n lifted) (length (take n lifted)) → part ≡ take n (drop from before)
    → after ≡ paste before to (drop from before) n
moved before from to n held part lifted after h f g e =
    let row# : length (take n (drop from before)) ≡ n = length-take-le n (drop from before) (rw length-drop (omega arith)) in
    let part# : length part ≡ n = ap length e ∙ row# in
    let same : take n lifted ≡ part = rw (f, take-length) (take_at part (drop (0 + length part) held) n part#) in
    g ∙ rw (same, part#, e, take-take n n (drop from before) (le_refl n))
