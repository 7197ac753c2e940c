-- Judging turn by turn is the strategy: both win in the same places. Assumes nothing.
use mathlib.Core.Path.{◌≡◌, refl}
use mathlib.Core.Bool.{Bool, true}
use mathlib.Core.List.{List, [], ◌∷◌}
use Prim.Native.Nat.{ℕ, zero, suc, ◌+◌, ◌<◌}
use native.Mathlib.Omega.{arith}
use lib.ListN.{length}
use Rattle.drill_model.specs.Turns.{Side, First, Second, left, laying, layer, some_below, each_below, Wins, over, lays, faces, passes, repasses, judged, wins}
use Rattle.drill_model.proofs.Below.{some_at, some_found, each_at, each_all}
use Rattle.drill_model.proofs.Hands.{length_left}

module _ {Q : Type 0} (none : Q) (won : List Q → Bool) where
  -- the strategy is judged to win
  pub wins_judged : {turn : Side} {first second laid : List Q} → Wins none won turn first second laid
      → (k : ℕ) → k ≡ length first + length second → judged none won k turn first second laid ≡ true
  unfolding judged layer
  wins_judged (over e) zero h = e
  wins_judged (over e) (suc k) h = absurd (omega arith)
  wins_judged (lays {first = []} i u w) k h = absurd (omega arith)
  wins_judged (lays {first = x ∷ first} i u w) zero h = absurd (omega arith)
  wins_judged (lays {first = x ∷ first} {second = second} {laid = laid} i u w) (suc k) h =
      some_at (λ i. judged none won k Second (left i (x ∷ first)) second (laying none i (x ∷ first) laid)) (length (x ∷ first)) i u
      (wins_judged w k (omega (arith, length_left i (x ∷ first) u)))
  wins_judged (faces {second = []} u w) k h = absurd (omega arith)
  wins_judged (faces {second = y ∷ second} u w) zero h = absurd (omega arith)
  wins_judged (faces {first = first} {second = y ∷ second} {laid = laid} u w) (suc k) h =
      each_all (λ i. judged none won k First first (left i (y ∷ second)) (laying none i (y ∷ second) laid)) (length (y ∷ second))
      (λ i v. wins_judged (w i v) k (omega (arith, length_left i (y ∷ second) v)))
  wins_judged (passes {second = []} u w) k h = absurd (omega arith)
  wins_judged (passes {second = y ∷ second} u w) zero h = absurd (omega arith)
  wins_judged (passes {second = y ∷ second} u w) (suc k) h = wins_judged w (suc k) h
  wins_judged (repasses {first = []} u w) k h = absurd (omega arith)
  wins_judged (repasses {first = x ∷ first} u w) zero h = absurd (omega arith)
  wins_judged (repasses {first = x ∷ first} u w) (suc k) h = wins_judged w (suc k) h

  -- with k quotes in hand what is judged to win has a strategy
  abbrev Sound : ℕ → Type 0
  Sound k = (turn : Side) (first second laid : List Q) → k ≡ length first + length second
      → judged none won k turn first second laid ≡ true → Wins none won turn first second laid

  laid_first : (k : ℕ) → Sound k → (first second laid : List Q) → suc k ≡ length first + length second
      → some_below (λ i. judged none won k Second (left i first) second (laying none i first laid)) (length first) ≡ true
      → Wins none won First first second laid
  laid_first k sound first second laid h e =
      let t = some_found (λ i. judged none won k Second (left i first) second (laying none i first laid)) (length first) e in
      lays t.0 t.1
      (sound Second (left t.0 first) second (laying none t.0 first laid) (omega (arith, t.1, length_left t.0 first t.1)) t.2)

  laid_second : (k : ℕ) → Sound k → (first second laid : List Q) → suc k ≡ length first + length second → 0 < length second
      → each_below (λ i. judged none won k First first (left i second) (laying none i second laid)) (length second) ≡ true
      → Wins none won Second first second laid
  laid_second k sound first second laid h u e =
      faces u
      (λ i v. sound First first (left i second) (laying none i second laid) (omega (arith, length_left i second v))
      (each_at (λ i. judged none won k First first (left i second) (laying none i second laid)) (length second) i e v))

  -- what is judged to win has a strategy
  pub judged_wins : (k : ℕ) (turn : Side) (first second laid : List Q) → k ≡ length first + length second
      → judged none won k turn first second laid ≡ true → Wins none won turn first second laid
  unfolding judged layer
  judged_wins zero turn [] [] laid h e = over e
  judged_wins zero turn [] (y ∷ second) laid h e = absurd (omega arith)
  judged_wins zero turn (x ∷ first) second laid h e = absurd (omega arith)
  judged_wins (suc k) First (x ∷ first) second laid h e = laid_first k (judged_wins k) (x ∷ first) second laid h e
  judged_wins (suc k) First [] [] laid h e = absurd (omega arith)
  judged_wins (suc k) First [] (y ∷ second) laid h e =
      passes {second = y ∷ second} (omega arith) (laid_second k (judged_wins k) [] (y ∷ second) laid h (omega arith) e)
  judged_wins (suc k) Second [] [] laid h e = absurd (omega arith)
  judged_wins (suc k) Second (x ∷ first) [] laid h e = repasses {first = x ∷ first} (omega arith) (laid_first k (judged_wins k) (x ∷ first) [] laid h e)
  judged_wins (suc k) Second first (y ∷ second) laid h e = laid_second k (judged_wins k) first (y ∷ second) laid h (omega arith) e

  -- judged to win exactly if there is a strategy
  pub judged_iff_wins : (turn : Side) (first second laid : List Q)
      → (wins none won turn first second laid ≡ true → Wins none won turn first second laid)
      × (Wins none won turn first second laid → wins none won turn first second laid ≡ true)
  unfolding wins
  judged_iff_wins turn first second laid =
      (judged_wins (length first + length second) turn first second laid refl, λ w. wins_judged w (length first + length second) refl)
