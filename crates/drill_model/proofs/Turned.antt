-- Turns judged one by one, as they are played: hands of numbers that stand for quotes, each turn by the turns behind it. Assumes nothing.
use mathlib.Core.Path.{◌≡◌, refl, ap, ap₂, ◌∙◌}
use mathlib.Core.Bool.{Bool, not}
use mathlib.Core.List.{List, [], ◌∷◌, map}
use Prim.Native.Nat.{ℕ, zero, suc, ◌+◌, ◌<◌}
use native.Mathlib.Omega.{arith}
use native.Mathlib.Nat.{suc-add, add-suc}
use lib.Dec.{eqb}
use lib.ListN.{length}
use Rattle.drill_model.specs.Turns.{Side, First, Second, by_side, left, laying, layer, some_below, each_below, judged, wins, keeps, best_place}
use Rattle.drill_model.proofs.Below.{some_least, some_same, each_same, least_same}
use Rattle.drill_model.proofs.Hands.{length_left, length_mapped, left_mapped, laying_mapped, layer_mapped}

-- hands of one type of quotes that stand for quotes of another type are judged alike
module _ {P Q : Type 0} (f : P → Q) (none : Q) (z : P) (won : List Q → Bool) where
  abbrev pub won_mapped : List P → Bool
  won_mapped laid = won (map f laid)

  pub judged_mapped : (k : ℕ) (turn : Side) (first second laid : List P)
      → judged none won k turn (map f first) (map f second) (map f laid) ≡ judged z won_mapped k turn first second laid
  unfolding judged
  judged_mapped zero turn first second laid = refl
  judged_mapped (suc k) turn first second laid =
      rw (layer_mapped f turn first second, length_mapped f first, length_mapped f second)
      (ap₂ (by_side (layer turn first second))
      (some_same _ _ (length first) (λ i u. rw (left_mapped f i first, laying_mapped f none z i first laid u)
      (judged_mapped k Second (left i first) second (laying z i first laid))))
      (each_same _ _ (length second) (λ i u. rw (left_mapped f i second, laying_mapped f none z i second laid u)
      (judged_mapped k First first (left i second) (laying z i second laid)))))

  pub best_mapped : (first second laid : List P)
      → best_place none won (map f first) (map f second) (map f laid) ≡ best_place z won_mapped first second laid
  unfolding best_place keeps wins
  best_mapped first second laid =
      rw (length_mapped f first)
      (least_same _ _ (length first) (λ i u.
      rw (left_mapped f i first, laying_mapped f none z i first laid u, length_mapped f (left i first), length_mapped f second)
      (judged_mapped (length (left i first) + length second) Second (left i first) second (laying z i first laid))))

-- on its turn a first side with a quote in hand wins exactly if there is a best place; so it does on the other's turn, if that has none
module _ {Q : Type 0} (none : Q) (won : List Q → Bool) where
  abbrev pub has_place : List Q → List Q → List Q → Bool
  has_place first second laid = not (eqb (best_place none won first second laid) 0)

  some_place : (x : Q) (first second laid : List Q)
      → some_below (λ i. judged none won (length first + length second) Second (left i (x ∷ first)) second (laying none i (x ∷ first) laid))
      (length (x ∷ first))
      ≡ has_place (x ∷ first) second laid
  unfolding best_place keeps wins
  some_place x first second laid =
      some_same _ (keeps none won (x ∷ first) second laid) (length (x ∷ first))
      (λ i u. let one : length first + length second ≡ length (left i (x ∷ first)) + length second = omega (arith, length_left i (x ∷ first) u) in
      ap (λ k. judged none won k Second (left i (x ∷ first)) second (laying none i (x ∷ first) laid)) one)
      ∙ some_least (keeps none won (x ∷ first) second laid) (length (x ∷ first))

  pub first_by_place : (first second laid : List Q) → 0 < length first → wins none won First first second laid ≡ has_place first second laid
  unfolding wins judged layer
  first_by_place [] second laid h = absurd (omega arith)
  first_by_place (x ∷ first) second laid h = rw (suc-add (length first) (length second)) (some_place x first second laid)

  pub alone_by_place : (first laid : List Q) → 0 < length first → wins none won Second first [] laid ≡ has_place first [] laid
  unfolding wins judged layer
  alone_by_place [] laid h = absurd (omega arith)
  alone_by_place (x ∷ first) laid h = rw (suc-add (length first) 0) (some_place x first [] laid)

  -- a first side with none left passes
  pub pass_first : (second laid : List Q) → wins none won First [] second laid ≡ wins none won Second [] second laid
  unfolding wins judged layer
  pass_first second laid = passing (0 + length second) second laid refl
    where
      passing : (k : ℕ) (second laid : List Q) → k ≡ 0 + length second → judged none won k First [] second laid ≡ judged none won k Second [] second laid
      passing zero second laid h = refl
      passing (suc k) [] laid h = absurd (omega arith)
      passing (suc k) (y ∷ second) laid h = refl

  -- on the second side's turn with a quote in hand
  pub second_by_each : (first second laid : List Q) → 0 < length second
      → wins none won Second first second laid ≡ each_below (λ i. wins none won First first (left i second) (laying none i second laid)) (length second)
  unfolding wins judged layer
  second_by_each first [] laid h = absurd (omega arith)
  second_by_each first (y ∷ second) laid h =
      rw (add-suc (length first) (length second))
      (each_same _ _ (length (y ∷ second))
      (λ i u. let one : length first + length second ≡ length first + length (left i (y ∷ second)) = omega (arith, length_left i (y ∷ second) u) in
      ap (λ k. judged none won k First first (left i (y ∷ second)) (laying none i (y ∷ second) laid)) one))

  -- both hands empty
  pub over_by_list : (laid : List Q) → wins none won Second [] [] laid ≡ won laid
  unfolding wins judged
  over_by_list laid = refl
