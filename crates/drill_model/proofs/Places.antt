-- The earliest place that keeps the win, by the strategy: the first side wins exactly if there is one. Assumes nothing.
use mathlib.Core.Path.{◌≡◌}
use mathlib.Core.Bool.{Bool, true}
use mathlib.Core.List.{List}
use Prim.Native.Nat.{ℕ, suc, ◌<◌}
use native.Mathlib.Omega.{arith}
use lib.ListN.{length}
use Rattle.lists.proofs.Booleans.{clash, refute}
use Rattle.drill_model.specs.Turns.{First, Second, left, laying, some_below, Wins, over, lays, passes, wins, keeps, Keeps, best_place}
use Rattle.drill_model.proofs.Below.{some_at, least_none, least_at, least_is, least_some, some_none}
use Rattle.drill_model.proofs.Judged.{judged_iff_wins}

module _ {Q : Type 0} (none : Q) (won : List Q → Bool) (first second laid : List Q) where
  abbrev KeepsAt : ℕ → Type 0
  KeepsAt = Keeps none won first second laid

  abbrev keep : ℕ → Bool
  keep = keeps none won first second laid

  kept : (i : ℕ) → i < length first → keep i ≡ true → KeepsAt i
  unfolding keeps
  kept i h e = record { place = h; wins = (judged_iff_wins none won Second (left i first) second (laying none i first laid)).0 e }

  keeping : (i : ℕ) → KeepsAt i → keep i ≡ true
  unfolding keeps
  keeping i k = (judged_iff_wins none won Second (left i first) second (laying none i first laid)).1 k.wins

  -- the place named is the earliest that keeps the win
  pub best_keeps : (i : ℕ) → best_place none won first second laid ≡ suc i → KeepsAt i × ((j : ℕ) → j < i → KeepsAt j → ⊥)
  unfolding best_place
  best_keeps i e =
      let t = least_is keep (length first) i e in
      (kept i t.0 t.1, λ j h k. clash (keep j) (keeping j k) (t.2 j h))

  -- the earliest that keeps the win is the place named
  pub keeps_best : (i : ℕ) → KeepsAt i → ((j : ℕ) → j < i → KeepsAt j → ⊥) → best_place none won first second laid ≡ suc i
  unfolding best_place
  keeps_best i k before =
      least_at keep (length first) i k.place
      (some_none keep i (λ j h. refute (keep j) (λ e. before j h (kept j (omega (arith, k.place)) e))))
      (keeping i k)

  -- where no place is named, none keeps the win
  pub none_keeps : best_place none won first second laid ≡ 0 → (i : ℕ) → KeepsAt i → ⊥
  unfolding best_place
  none_keeps e i k = clash (some_below keep (length first)) (some_at keep (length first) i k.place (keeping i k)) (least_some keep (length first) e)

  pub keeps_none : ((i : ℕ) → KeepsAt i → ⊥) → best_place none won first second laid ≡ 0
  unfolding best_place
  keeps_none h =
      least_none keep (length first)
      (some_none keep (length first) (λ i u. refute (keep i) (λ e. h i (kept i u e))))

module _ {Q : Type 0} (none : Q) (won : List Q → Bool) where
  -- on its turn and with a quote in hand, the first side wins exactly if some place keeps the win
  pub wins_keeps : {first second laid : List Q} → 0 < length first → Wins none won First first second laid → (i : ℕ) × Keeps none won first second laid i
  wins_keeps h (over e) = absurd (omega arith)
  wins_keeps h (lays i u w) = (i, record { place = u; wins = w })
  wins_keeps h (passes u w) = absurd (omega arith)

  pub keeps_wins : {first second laid : List Q} (i : ℕ) → Keeps none won first second laid i → Wins none won First first second laid
  keeps_wins i k = lays i k.place k.wins
