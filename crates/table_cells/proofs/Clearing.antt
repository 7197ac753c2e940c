-- Cells filled with zeros from one place up to another.
use Rattle.std.proofs.Common.{◌≡◌, ℕ, ◌+◌, ◌-◌, ◌≤◌, List, length, take, drop, replicate, arith}
use Rattle.std.proofs.lemmas.List.{length-take-le}
use Rattle.std.proofs.Math.ListN.{length-drop}
use lib.Seq.{drop-drop}
use borrow.Rule.Slice.PartMut.{put_mid, mid_of}
use Rattle.lists.specs.Lists.{padded}

pub cleared : (before filled : List ℕ) (from to : ℕ) → from ≤ to → to ≤ length before → filled ≡ replicate (length (mid_of from (to - from) before)) 0
    → put_mid from (to - from) before filled ≡ padded to (take from before) before
unfolding padded
cleared before filled from to h k e =
    let front : length (take from before) ≡ from = length-take-le from before (omega arith) in
    let part : length (take (to - from) (drop from before)) ≡ to - from = length-take-le (to - from) (drop from before) (omega (arith, length-drop from before)) in
    let there : from + (to - from) ≡ to = omega arith in
    rw (e, part, front, drop-drop, there)
