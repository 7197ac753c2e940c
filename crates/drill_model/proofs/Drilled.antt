-- The place that the drill names, by the strategy: the earliest that keeps the win, and none exactly if no strategy wins. Assumes nothing.
use mathlib.Core.Path.{◌≡◌}
use mathlib.Core.Logic.{⊎_elim}
use mathlib.Core.List.{List, []}
use Prim.Native.Nat.{ℕ, suc, ◌<◌, ◌≤◌}
use native.Mathlib.Omega.{arith}
use native.Mathlib.Nat.{eq-zero-or-pos}
use lib.ListN.{length}
use Rattle.drill_model.specs.Turns.{First, Second, best_place, keeps}
use Rattle.drill_model.specs.Drill.{held, no_quote, hand_of, first_stands, WinsDrill, KeepsDrill, drill_place}
use Rattle.drill_model.proofs.Below.{least_within}
use Rattle.drill_model.proofs.Hands.{length_mapped}
use Rattle.drill_model.proofs.Places.{best_keeps, keeps_best, none_keeps, keeps_none, wins_keeps, keeps_wins}
use Rattle.drill_model.proofs.Unlaid.{empty_loses}

module _ (d N directions n : ℕ) (first second : List (List ℕ)) where
  length_hand : length (hand_of First first) ≡ length first
  unfolding hand_of
  length_hand = length_mapped (held First) first

  -- the place is one of the hand, or 0
  pub place_within : drill_place d N directions n first second ≤ length first
  unfolding drill_place best_place
  place_within =
      omega (
        arith,
        length_hand,
        least_within (keeps no_quote (first_stands d N directions n) (hand_of First first) (hand_of Second second) []) (length (hand_of First first)),
      )

  -- the place named is the earliest that keeps the win
  pub named_keeps : (i : ℕ) → drill_place d N directions n first second ≡ suc i
      → KeepsDrill d N directions n first second i × ((j : ℕ) → j < i → KeepsDrill d N directions n first second j → ⊥)
  unfolding drill_place
  named_keeps i e = best_keeps no_quote (first_stands d N directions n) (hand_of First first) (hand_of Second second) [] i e

  pub keeps_named : (i : ℕ) → KeepsDrill d N directions n first second i → ((j : ℕ) → j < i → KeepsDrill d N directions n first second j → ⊥)
      → drill_place d N directions n first second ≡ suc i
  unfolding drill_place
  keeps_named i k before = keeps_best no_quote (first_stands d N directions n) (hand_of First first) (hand_of Second second) [] i k before

  -- no place is named exactly if the first side has no strategy
  pub none_wins : drill_place d N directions n first second ≡ 0 → WinsDrill d N directions n first second → ⊥
  unfolding drill_place
  none_wins e w = ⊎_elim
      (λ (z : length first ≡ 0). empty_loses d N directions n first second z w)
      (λ (h : 0 < length first). let t = wins_keeps no_quote (first_stands d N directions n) (omega (arith, length_hand)) w in
      none_keeps no_quote (first_stands d N directions n) (hand_of First first) (hand_of Second second) [] e t.0 t.1)
      (eq-zero-or-pos (length first))

  pub wins_none : (WinsDrill d N directions n first second → ⊥) → drill_place d N directions n first second ≡ 0
  unfolding drill_place
  wins_none h =
      keeps_none no_quote (first_stands d N directions n) (hand_of First first) (hand_of Second second) []
      (λ i k. h (keeps_wins no_quote (first_stands d N directions n) i k))
