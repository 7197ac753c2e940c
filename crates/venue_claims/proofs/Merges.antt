-- Laws of the stable merge: it has every element once, each list's in its own order, and its stamps do not fall.
use mathlib.Core.Path.{◌≡◌, refl, ap}
use mathlib.Core.Logic.{◌⊎◌, inl, inr}
use Prim.Native.Nat.{ℕ, ◌≤◌, ◌<◌}
use native.Mathlib.Omega.{arith}
use mathlib.Core.Bool.{Bool, true, false, cond}
use mathlib.Core.List.{List, [], ◌∷◌}
use lib.Dec.{ltb}
use borrow.Author.Tests.{ltb-true, ltb-false}
use Rattle.lists.proofs.Booleans.{either}
use Rattle.venue_claims.specs.Merging.{StampedQuote, InOrder, merge_at, merge, Interleaved, NotFalling}
use Rattle.venue_claims.specs.Merging as M

-- one list is an interleaving with none
alone : (ys : List StampedQuote) → Interleaved [] ys ys
alone [] = Interleaved.none
alone (y ∷ ys) = Interleaved.second (alone ys)

-- the merge has every element once, in order
pub interleaved : (xs ys : List StampedQuote) → Interleaved xs ys (merge xs ys)
unfolding merge merge_at
interleaved [] ys = alone ys
interleaved (x ∷ xs) ys = among (interleaved xs) ys
  where
    among : ((l : List StampedQuote) → Interleaved xs l (merge xs l)) → (l : List StampedQuote) → Interleaved (x ∷ xs) l (merge_at x (merge xs) l)
    among more [] = Interleaved.first (more [])
    among more (y ∷ l) = go (ltb y.stamp x.stamp) (among more l)
      where
        go : (b : Bool) → Interleaved (x ∷ xs) l (merge_at x (merge xs) l)
            → Interleaved (x ∷ xs) (y ∷ l) (cond b (y ∷ merge_at x (merge xs) l) (x ∷ merge xs (y ∷ l)))
        go true rest = Interleaved.second rest
        go false rest = Interleaved.first (more (y ∷ l))

-- stamps that do not fall from one on do not fall from a lower one on
lower : {a b : ℕ} {qs : List StampedQuote} → a ≤ b → NotFalling b qs → NotFalling a qs
lower h NotFalling.none = NotFalling.none
lower {a} h (NotFalling.next {q = q} l r) = let below : a ≤ q.stamp = omega arith in NotFalling.next below r

-- the merge of stamps that do not fall has stamps that do not fall
pub not_falling : (low : ℕ) (xs ys : List StampedQuote) → NotFalling low xs → NotFalling low ys → NotFalling low (merge xs ys)
unfolding merge merge_at
not_falling low [] ys f g = g
not_falling low (x ∷ xs) ys f g = among (λ a l. not_falling a xs l) low ys f g
  where
    among : ((a : ℕ) (l : List StampedQuote) → NotFalling a xs → NotFalling a l → NotFalling a (merge xs l)) → (a : ℕ) (l : List StampedQuote)
        → NotFalling a (x ∷ xs) → NotFalling a l → NotFalling a (merge_at x (merge xs) l)
    among more a [] (NotFalling.next p r) g = NotFalling.next p (more x.stamp [] r NotFalling.none)
    among more a (y ∷ l) (NotFalling.next p r) (NotFalling.next q s) = go (either (ltb y.stamp x.stamp)) (among more y.stamp l)
      where
        go : (ltb y.stamp x.stamp ≡ true) ⊎ (ltb y.stamp x.stamp ≡ false)
            → (NotFalling y.stamp (x ∷ xs) → NotFalling y.stamp l → NotFalling y.stamp (merge_at x (merge xs) l))
            → NotFalling a (cond (ltb y.stamp x.stamp) (y ∷ merge_at x (merge xs) l) (x ∷ merge xs (y ∷ l)))
        go (inl t) rest =
            let below : y.stamp < x.stamp = ltb-true y.stamp x.stamp t in
            rw t (NotFalling.next q (rest (NotFalling.next (omega arith) r) s))
        go (inr t) rest =
            let above : x.stamp ≤ y.stamp = ltb-false y.stamp x.stamp t in
            rw t (NotFalling.next p (more x.stamp (y ∷ l) r (NotFalling.next above s)))

-- stamped quotes in order do not fall
pub order_rises : {last : ℕ} {qs : List StampedQuote} → InOrder last qs → NotFalling 0 qs
order_rises {last} o = lower (omega arith) (go o)
  where
    go : {low : ℕ} {l : List StampedQuote} → InOrder low l → NotFalling low l
    go InOrder.none = NotFalling.none
    go (InOrder.next fits h top rest) = NotFalling.next h (go rest)
