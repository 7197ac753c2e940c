-- Laws of hands: what laying a quote leaves, orders in which a hand can be laid, and hands mapped from one type of quotes to another.
-- Assumes nothing.
use mathlib.Core.Path.{◌≡◌, refl, sym, ap}
use mathlib.Core.List.{List, [], ◌∷◌, map}
use Prim.Native.Nat.{ℕ, zero, suc, ◌<◌}
use native.Mathlib.Omega.{arith}
use lib.ListN.{length, get_or}
use Rattle.lists.proofs.Filters.{map-append}
use Rattle.drill_model.specs.Turns.{Side, First, Second, left, laying, layer}
use Rattle.drill_model.specs.Ways.{Order, done, next}

module _ {Q : Type 0} where
  -- one quote fewer is left
  pub length_left : (i : ℕ) (hand : List Q) → i < length hand → length hand ≡ suc (length (left i hand))
  unfolding left
  length_left i [] h = absurd (omega arith)
  length_left zero (x ∷ xs) h = refl
  length_left (suc i) (x ∷ xs) h = ap suc (length_left i xs (omega arith))

  -- every hand can be laid in some order: each quote from the front
  pub some_order : (hand : List Q) → (order : List ℕ) × Order hand order
  unfolding left
  some_order [] = ([], done)
  some_order (x ∷ xs) = let t = some_order xs in (0 ∷ t.0, next {hand = x ∷ xs} 0 (omega arith) t.1)

  -- no quote in hand
  pub empty_hand : (hand : List Q) → length hand ≡ 0 → hand ≡ []
  empty_hand [] e = refl
  empty_hand (x ∷ xs) e = absurd (omega arith)

module _ {P Q : Type 0} (f : P → Q) where
  pub length_mapped : (l : List P) → length (map f l) ≡ length l
  length_mapped [] = refl
  length_mapped (x ∷ xs) = ap suc (length_mapped xs)

  pub left_mapped : (i : ℕ) (l : List P) → left i (map f l) ≡ map f (left i l)
  unfolding left
  left_mapped i [] = refl
  left_mapped zero (x ∷ xs) = refl
  left_mapped (suc i) (x ∷ xs) = ap (λ (r : List Q). f x ∷ r) (left_mapped i xs)

  pub get_or_mapped : (none : Q) (z : P) (i : ℕ) (l : List P) → i < length l → get_or (map f l) i none ≡ f (get_or l i z)
  get_or_mapped none z i [] h = absurd (omega arith)
  get_or_mapped none z zero (x ∷ xs) h = refl
  get_or_mapped none z (suc i) (x ∷ xs) h = get_or_mapped none z i xs (omega arith)

  pub laying_mapped : (none : Q) (z : P) (i : ℕ) (hand laid : List P) → i < length hand
      → laying none i (map f hand) (map f laid) ≡ map f (laying z i hand laid)
  unfolding laying
  laying_mapped none z i hand laid h = rw (get_or_mapped none z i hand h) (sym (map-append f laid (get_or hand i z ∷ [])))

  pub layer_mapped : (turn : Side) (first second : List P) → layer turn (map f first) (map f second) ≡ layer turn first second
  unfolding layer
  layer_mapped First [] second = refl
  layer_mapped First (x ∷ first) second = refl
  layer_mapped Second first [] = refl
  layer_mapped Second first (x ∷ second) = refl
