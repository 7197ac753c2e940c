-- A table once rows stand in front, one more was put behind them, and zeros up to a place.
use mathlib.Core.Path.{◌≡◌, sym, ap, ◌∙◌}
use Prim.Native.Nat.{ℕ, ◌+◌, ◌-◌, ◌≤◌}
use native.Mathlib.Nat.{le_refl, zero-add}
use native.Mathlib.Omega.{arith}
use mathlib.Core.List.{List, ◌++◌}
use lib.ListN.{length, take, drop, length-drop}
use lib.Seq.{paste, take-length, take-paste, drop-paste}
use Rattle.lists.specs.Lists.{padded}
use Rattle.lists.proofs.Storing.{drop_later, padded_over}

-- the cells at the front of a table once the first ones are lost
shifted : (before after : List ℕ) (by count : ℕ) → by ≤ count → count ≤ length before → after ≡ paste before 0 (drop by before) (count - by)
    → (take (count - by) after ≡ take (count - by) (drop by before)) × (drop count after ≡ drop count before)
shifted before after by count h k e =
    let src# : length (drop by before) ≡ length before - by = length-drop by before in
    let z : 0 + (count - by) ≡ count - by = zero-add (count - by) in (
      ap (λ (j : ℕ). take j after) (sym z) ∙ rw e (take-paste before 0 (drop by before) (count - by) (omega arith) (omega arith)),
      rw e
          (drop_later (paste before 0 (drop by before) (count - by)) before (0 + (count - by)) count (omega arith)
          (drop-paste before 0 (drop by before) (count - by) (omega arith) (omega arith))),
    )

-- a row put behind the cells in front, and zeros up to a place
pub entered : (before after put end row : List ℕ) (by count places : ℕ) → by ≤ count → count ≤ places → count - by + length row ≤ places → places ≤ length before
    → after ≡ paste before 0 (drop by before) (count - by) → length after ≡ length before → put ≡ paste after (count - by) row (length row)
    → end ≡ padded places (take (count - by + length row) put) put → end ≡ padded places (take (count - by) (drop by before) ++ row) before
entered before after put end row by count places h c l k g n e f =
    let s = shifted before after by count h (omega arith) g in
    let at = count - by in
    f
    ∙ padded_over places (at + length row) (take at (drop by before) ++ row) before put
    (rw (e, take-paste after at row (length row) (omega arith) (le_refl (length row)), s.0, take-length))
    (rw e (drop_later (paste after at row (length row)) after (at + length row) places l (drop-paste after at row (length row) (omega arith) (le_refl (length row))))
    ∙ drop_later after before count places c s.1)
