-- Hands and quotes laid in arrays: what is left of a hand, a play once a quote is laid, and the first one. Assumes nothing.
use mathlib.Core.Path.{◌≡◌, refl, sym, ap, ◌∙◌}
use mathlib.Core.Bool.{Bool, true, false, cond}
use mathlib.Core.Logic.{⊎_elim}
use mathlib.Core.List.{List, [], ◌∷◌}
use Prim.Native.Nat.{ℕ, zero, suc, ◌+◌, ◌-◌, ◌<◌, ◌≤◌}
use native.Mathlib.Nat.{zero-add}
use native.Mathlib.Omega.{arith}
use native.Mathlib.Numerals.{add-one}
use lib.Dec.{ltb}
use lib.ListN.{length, get_or, set}
use lib.Seq.{take-suc-set, ext_get_or}
use borrow.Author.Tests.{lt-ltb, le-ltb}
use Rattle.lists.specs.Lists.{run}
use Rattle.lists.proofs.Runs.{length_run, get_or_run}
use Rattle.drill_model.specs.Turns.{left, laying}
use Rattle.drill_model.proofs.Below.{below_or_not}
use Rattle.drill_model.proofs.Hands.{length_left, length_mapped}
use Rattle.std.specs.List.{SameBelow, CopiedTo}
use Rattle.drill_turns.specs.declared.game.Hand.{Hand}
use Rattle.drill_turns.specs.declared.game.Laid.{Laid}
use Rattle.drill_turns.specs.declared.game.Play.{Play}
use Rattle.drill_turns.specs.Plays.{numbers_of, numbers_in, first_hand, second_hand, laid_in, LeftOf, Without, Laying, Started, LaidFirst, LaidSecond}

-- a hand whose numbers behind place i were moved one place to the front
pub moved : (hand r : List ℕ) (i : ℕ) → SameBelow hand r i → CopiedTo hand r (i + 1) i (4 - (i + 1)) → LeftOf hand i r
moved hand r i same copied = record {
  at = λ j u. ⊎_elim
      (λ (a : j < i). same j 0 a ∙ sym (rw (lt-ltb j i a)))
      (λ (b : i ≤ j).
      let e : i + 1 + (j - i) ≡ suc j = omega arith in
      copied j 0 b (omega arith) ∙ rw (e, le-ltb j i b))
      (below_or_not j i);
}

-- what is left of a list, by its places
get_or_left : (i : ℕ) (l : List ℕ) (m : ℕ) → get_or (left i l) m 0 ≡ cond (ltb m i) (get_or l m 0) (get_or l (suc m) 0)
unfolding left
get_or_left i [] m = go (ltb m i)
  where
    go : (b : Bool) → ◌≡◌ {A = ℕ} 0 (cond b 0 0)
    go true = refl
    go false = refl
get_or_left zero (x ∷ xs) m = rw (le-ltb m 0 (omega arith))
get_or_left (suc i) (x ∷ xs) zero = rw (lt-ltb 0 (suc i) (omega arith))
get_or_left (suc i) (x ∷ xs) (suc m) = get_or_left i xs m ∙ ⊎_elim
    (λ (a : m < i). rw (lt-ltb m i a, lt-ltb (suc m) (suc i) (omega arith)))
    (λ (b : i ≤ m). rw (le-ltb m i b, le-ltb (suc m) (suc i) (omega arith)))
    (below_or_not m i)

pub length_numbers : (count : ℕ) (hand : List ℕ) → length (numbers_of count hand) ≡ count
unfolding numbers_of
length_numbers count hand = length_mapped (λ j. get_or hand j 0) (run 0 count) ∙ length_run 0 count

number_at : (count : ℕ) (hand : List ℕ) (m : ℕ) → m < count → get_or (numbers_of count hand) m 0 ≡ get_or hand m 0
unfolding numbers_of
number_at count hand m h = get_or_run (λ j. get_or hand j 0) 0 0 count m h ∙ ap (λ k. get_or hand k 0) (zero-add m)

-- a hand written anew without a quote is what is left of the hand
left_numbers : (count i : ℕ) (hand r : List ℕ) → i < count → count ≤ 4 → LeftOf hand i r → numbers_of (count - 1) r ≡ left i (numbers_of count hand)
left_numbers count i hand r h u s =
    let kept : length (left i (numbers_of count hand)) ≡ count - 1
    = omega (arith, length_left i (numbers_of count hand) (omega (arith, length_numbers count hand)), length_numbers count hand) in
    ext_get_or 0 (numbers_of (count - 1) r) (left i (numbers_of count hand)) (length_numbers (count - 1) r ∙ sym kept)
    (λ m v.
    let w : m < count - 1 = omega (arith, length_numbers (count - 1) r) in
    number_at (count - 1) r m w ∙ s.at m (omega arith)
    ∙ sym (get_or_left i (numbers_of count hand) m ∙ rw (number_at count hand m (omega arith), number_at count hand (suc m) (omega arith))))

-- a hand without one of its quotes
pub without : (h r : Hand) (i : ℕ) → i < h.count → r.count ≡ h.count - 1 → SameBelow h.numbers r.numbers i
    → CopiedTo h.numbers r.numbers (i + 1) i (4 - (i + 1)) → Without h i r
without h r i u e same copied =
    let few = h.few in
    record {
      numbers = rw e (left_numbers h.count i h.numbers r.numbers u few (moved h.numbers r.numbers i same copied));
      fewer = omega arith;
    }

-- one quote more is laid behind the others
pub laid_more : (l r : Laid) (number : ℕ) → l.count < 8 → r.count ≡ l.count + 1 → r.numbers ≡ set l.numbers l.count number → Laying l number r
laid_more l r number h e f =
    let long = l.of_eight in
    record {
      numbers = rw (e, f, add-one) (take-suc-set l.numbers l.count number (omega arith));
      more = e;
    }

module _ (p r : Play) (i : ℕ) where
  pub laid_first : i < p.first.count → Without p.first i r.first → r.second ≡ p.second → Laying p.laid (get_or p.first.numbers i 0) r.laid → LaidFirst p i r
  unfolding first_hand second_hand laid_in laying
  laid_first h w e l = record {
    first = w.numbers;
    second = ap numbers_in e;
    laid = rw (number_at p.first.count p.first.numbers i h) l.numbers;
    fewer = w.fewer;
    same = ap (λ (x : Hand). x.count) e;
  }

  pub laid_second : i < p.second.count → Without p.second i r.second → r.first ≡ p.first → Laying p.laid (get_or p.second.numbers i 0) r.laid
      → LaidSecond p i r
  unfolding first_hand second_hand laid_in laying
  laid_second h w e l = record {
    first = ap numbers_in e;
    second = w.numbers;
    laid = rw (number_at p.second.count p.second.numbers i h) l.numbers;
    fewer = w.fewer;
    same = ap (λ (x : Hand). x.count) e;
  }

numbers_first : (count : ℕ) → count ≤ 4 → numbers_of count (0 ∷ 1 ∷ 2 ∷ 3 ∷ []) ≡ run 0 count
unfolding numbers_of run
numbers_first zero h = refl
numbers_first (suc zero) h = refl
numbers_first (suc (suc zero)) h = refl
numbers_first (suc (suc (suc zero))) h = refl
numbers_first (suc (suc (suc (suc zero)))) h = refl
numbers_first (suc (suc (suc (suc (suc n))))) h = absurd (omega arith)

numbers_second : (count : ℕ) → count ≤ 4 → numbers_of count (4 ∷ 5 ∷ 6 ∷ 7 ∷ []) ≡ run 4 count
unfolding numbers_of run
numbers_second zero h = refl
numbers_second (suc zero) h = refl
numbers_second (suc (suc zero)) h = refl
numbers_second (suc (suc (suc zero))) h = refl
numbers_second (suc (suc (suc (suc zero)))) h = refl
numbers_second (suc (suc (suc (suc (suc n))))) h = absurd (omega arith)

pub started : (r : Play) → r.first.numbers ≡ 0 ∷ 1 ∷ 2 ∷ 3 ∷ [] → r.second.numbers ≡ 4 ∷ 5 ∷ 6 ∷ 7 ∷ [] → r.laid.count ≡ 0
    → Started r.first.count r.second.count r
unfolding first_hand second_hand laid_in
started r e f z =
    let h = r.first.few in
    let u = r.second.few in
    record {
      first = rw e (numbers_first r.first.count h);
      second = rw f (numbers_second r.second.count u);
      laid = rw z;
      held = refl;
    }
