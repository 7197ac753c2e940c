-- A turn of the loop that moves cells to the front in pieces.
use mathlib.Core.Path.{◌≡◌, refl, sym, ap, ◌∙◌}
use Prim.Native.Nat.{ℕ, ◌+◌, ◌-◌, ◌≤◌, min}
use native.Mathlib.Nat.{zero-add, add_comm}
use native.Mathlib.Omega.{arith}
use mathlib.Core.List.{List, ◌++◌, append_assoc}
use lib.ListN.{length, take, drop, length-drop, take-append-drop}
use lib.Seq.{paste, paste-zero, length-paste, take-paste, drop-paste, take-add, drop-drop}
use Rattle.lists.proofs.Storing.{drop_later}

-- a second piece behind the first
paste_more : (d s : List ℕ) (k n : ℕ) → k + n ≤ length s → length s ≤ length d → paste (paste d 0 s k) k (drop k s) n ≡ paste d 0 s (k + n)
paste_more d s k n h l =
    let z : 0 + k ≡ k = zero-add k in
    let head : take k (paste d 0 s k) ≡ take k s = ap (λ (j : ℕ). take j (paste d 0 s k)) (sym z) ∙ take-paste d 0 s k (omega arith) (omega arith) in
    let rest : drop (k + n) (paste d 0 s k) ≡ drop (k + n) d =
    drop_later (paste d 0 s k) d (0 + k) (k + n) (omega arith) (drop-paste d 0 s k (omega arith) (omega arith)) in
    rw (head, rest, take-add, zero-add, append_assoc)

-- the first at of the cells that stay stand at the front
pub record Shifting (before : List ℕ) (by count : ℕ) (after : List ℕ) (at : ℕ) : Type 0 where
  pub lost : by ≤ count
  pub room : count ≤ length before
  pub within : at ≤ count - by
  pub same_length : length after ≡ length before
  pub after≡ : after ≡ paste before 0 (drop by before) at

pub start : (before : List ℕ) (by count : ℕ) → by ≤ count → count ≤ length before → Shifting before by count before 0
start before by count h k = record {
  lost = h;
  room = k;
  within = omega arith;
  same_length = refl;
  after≡ = paste-zero before 0 (drop by before);
}

module _ {before : List ℕ} {by count : ℕ} {after : List ℕ} {at : ℕ} (v : Shifting before by count after at) where
  pub more : {n : ℕ} → n ≡ min 512 (count - by - at) → (after' : List ℕ) → after' ≡ paste after at (drop (at + by) after) n → Shifting before by count after' (at + n)
  more {n} m after' e =
      let w = v.within in
      let l = v.lost in
      let r = v.room in
      let src# : length (drop by before) ≡ length before - by = length-drop by before in
      let kept : drop (at + by) after ≡ drop (at + by) before =
      rw v.after≡ (drop_later (paste before 0 (drop by before) at) before (0 + at) (at + by) (omega arith) (drop-paste before 0 (drop by before) at (omega arith) (omega arith))) in
      let same : drop (at + by) after ≡ drop at (drop by before) =
      kept ∙ ap (λ (j : ℕ). drop j before) (add_comm at by) ∙ sym (drop-drop at by before) in
      let next : after' ≡ paste before 0 (drop by before) (at + n) =
      e ∙ rw (same, v.after≡) (paste_more before (drop by before) at n (omega arith) (omega arith)) in
      record {
        lost = l;
        room = r;
        within = omega arith;
        same_length = rw next (length-paste before 0 (drop by before) (at + n) (omega arith) (omega arith));
        after≡ = next;
      }

  pub finish : count - by ≤ at → after ≡ paste before 0 (drop by before) (count - by)
  finish h = let e : count - by ≡ at = omega (arith, v.within) in rw e v.after≡

-- where none is lost nothing moves
pub unmoved : (before : List ℕ) {by : ℕ} (count : ℕ) → by ≡ 0 → before ≡ paste before 0 (drop by before) (count - by)
unmoved before {by} count e =
    let z : 0 + (count - 0) ≡ count - 0 = zero-add (count - 0) in
    sym (rw e (ap (λ (j : ℕ). take (count - 0) before ++ drop j before) z ∙ take-append-drop (count - 0) before))
