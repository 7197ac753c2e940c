-- What the drill answers, by its parts: a refusal, no, or yes with a place. Assumes nothing.
use mathlib.Core.Path.{◌≡◌, refl, sym}
use Prim.Native.Nat.{ℕ, ◌+◌}
use native.Mathlib.Numerals.{add-one}
use Rattle.std.specs.Prelude.{Option, Some, None, Ok}
use Rattle.std.specs.Option.{option_map}
use Rattle.refusals.specs.declared.Refusal.{Refusal}
use Rattle.refusals.specs.Refusals.{number, first_of, granted}
use Rattle.refusals.proofs.Numbers.{refused_granted}
use Rattle.drill_model.specs.Drill.{drill_place}
use Rattle.drill_turns.specs.declared.game.Rules.{Rules}
use Rattle.drill_turns.specs.Plays.{place_number}
use Rattle.drill_call.specs.declared.Hand.{Hand}
use Rattle.drill_call.specs.Drills.{quotes_of, refusals, refused, saying, answered, drilled}

module _ (rules : Rules) (first second : Hand) where
  abbrev place : ℕ
  place =
      drill_place rules.dimensions rules.capacity rules.directions rules.n (quotes_of rules.dimensions first)
      (quotes_of rules.dimensions second)

  pub refused_says : (k : Refusal) → number k ≡ first_of (refusals rules first second) → refused (number k) ≡ drilled rules first second
  unfolding drilled
  refused_says k e = rw (← e) (sym (refused_granted k (answered place) (refused (number k))))

  pub place_says : (r : Option ℕ) → 0 ≡ first_of (refusals rules first second) → place_number r ≡ place
      → saying (Ok (option_map (λ i. i + 1) r)) ≡ drilled rules first second
  unfolding drilled granted answered
  place_says None z e = rw (← z, ← e) refl
  place_says (Some i) z e = rw (← z, ← e, add-one i) refl
