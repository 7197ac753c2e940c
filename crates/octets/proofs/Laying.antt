-- Laws of bytes stored in an output: from a place on, and over its front.
use mathlib.Core.Path.{◌≡◌, refl, sym, ap, ◌∙◌}
use Prim.Native.Nat.{ℕ, ◌+◌, ◌≤◌, ◌<◌}
use native.Mathlib.Omega.{arith}
use mathlib.Core.List.{List, [], ◌∷◌, ◌++◌, append_assoc}
use lib.ListN.{length, take, drop, set, length-append}
use lib.Seq.{take_at, drop_at, drop-drop, sets, sets-eq}
use Rattle.lists.specs.Lists.{laid}
use Rattle.octets.specs.Placed.{placed}

-- bytes stored one after the other from a place on
stored : (l : List ℕ) (at : ℕ) (out : List ℕ) → at + length l ≤ length out → sets out at l ≡ placed l at out
unfolding placed laid
stored l at out h = sets-eq l out at h ∙ ap (λ (r : List ℕ). take at out ++ l ++ r) (sym (drop-drop (length l) at out)) ∙ append_assoc (take at out) l (drop (length l) (drop at out))

pub stored_one : (a at : ℕ) (out : List ℕ) → at < length out → set out at a ≡ placed (a ∷ []) at out
stored_one a at out h = stored (a ∷ []) at out (omega arith)

-- a list laid over the front, and another behind it
laid_behind : (l r before : List ℕ) (at : ℕ) → length l ≡ at → placed r at (laid l before) ≡ laid (l ++ r) before
unfolding placed laid
laid_behind l r before at e =
    rw (take_at l (drop (length l) before) at e, drop_at l (drop (length l) before) at e, drop-drop, length-append, append_assoc)

pub laid_one : (a : ℕ) (before : List ℕ) → 1 ≤ length before → set before 0 a ≡ laid (a ∷ []) before
unfolding laid
laid_one a [] h = absurd (omega arith)
laid_one a (b ∷ before) h = refl

-- what was laid, with more stored behind it
pub laid_next : (l r before : List ℕ) {out after : List ℕ} {at : ℕ} → length l ≡ at → out ≡ laid l before → after ≡ placed r at out → after ≡ laid (l ++ r) before
laid_next l r before {out} {after} {at} e p q = q ∙ ap (placed r at) p ∙ laid_behind l r before at e
