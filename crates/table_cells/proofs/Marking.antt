-- A turn of the loop that stores a number at listed places.
use mathlib.Core.Path.{◌≡◌, refl, sym, ap, ◌∙◌}
use Prim.Native.Nat.{ℕ, ◌+◌, ◌≤◌, ◌<◌}
use native.Mathlib.Numerals.{add-one}
use native.Mathlib.Omega.{arith}
use mathlib.Core.List.{List, [], ◌∷◌, ◌++◌}
use lib.ListN.{length, get_or, set, take, length-set}
use lib.Seq.{take-suc, take_all}
use Rattle.table_cells.specs.Marked.{marked, Below}

-- one place more
marked_snoc : (ps : List ℕ) (p x : ℕ) (cells : List ℕ) → marked (ps ++ (p ∷ [])) x cells ≡ set (marked ps x cells) p x
unfolding marked
marked_snoc [] p x cells = refl
marked_snoc (q ∷ ps) p x cells = marked_snoc ps p x (set cells q x)

-- as many cells as before
pub length_marked : (ps : List ℕ) (x : ℕ) (cells : List ℕ) → length (marked ps x cells) ≡ length cells
unfolding marked
length_marked [] x cells = refl
length_marked (p ∷ ps) x cells = length_marked ps x (set cells p x) ∙ length-set cells p x

-- the first k places have been stored to
pub record Marking (places : List ℕ) (x : ℕ) (before after : List ℕ) (k : ℕ) : Type 0 where
  pub within : k ≤ length places
  pub below : Below places (length before)
  pub same_length : length after ≡ length before
  pub after≡ : after ≡ marked (take k places) x before

pub start : (places : List ℕ) (x : ℕ) (before : List ℕ) → Below places (length before) → Marking places x before before 0
unfolding marked
start places x before b = record { within = omega arith; below = b; same_length = refl; after≡ = refl }

module _ {places : List ℕ} {x : ℕ} {before after : List ℕ} {k : ℕ} (v : Marking places x before after k) where
  pub low : k < length places → get_or places k 0 < length after
  low h = rw v.same_length (v.below.low k h)

  pub more : k < length places → (p : ℕ) → p ≡ get_or places k 0 → Marking places x before (set after p x) (k + 1)
  more h p e = record {
    within = omega arith;
    below = v.below;
    same_length = rw length-set v.same_length;
    after≡ = rw (v.after≡, e, add-one, take-suc places k 0 h) (sym (marked_snoc (take k places) (get_or places k 0) x before));
  }

  pub finish : length places ≤ k → after ≡ marked places x before
  finish h = v.after≡ ∙ ap (λ (ps : List ℕ). marked ps x before) (take_all k places h)
