-- What the drill's own answer says, by the strategy: yes exactly with the earliest place that keeps the win, no exactly if no strategy
-- wins, and no with an empty hand. Assumes that the answer meets the contract of `drill`.
use mathlib.Core.Path.{◌≡◌, refl, sym, ◌∙◌}
use Prim.Native.Nat.{ℕ, zero, suc, ◌<◌}
use native.Mathlib.Omega.{arith}
use Rattle.refusals.specs.Refusals.{first_of, granted}
use Rattle.drill_model.specs.Drill.{no_quote, first_stands, drill_place}
use Rattle.drill_model.proofs.Choosing.{way_of_wins, wins_of_way}
use Rattle.drill_model.proofs.Drilled.{named_keeps, keeps_named, none_wins, wins_none}
use Rattle.drill_turns.specs.declared.game.Rules.{Rules}
use Rattle.drill_call.specs.declared.Hand.{Hand}
use Rattle.std.specs.Prelude.{Option, Result}
use Rattle.refusals.specs.declared.Refusal.{Refusal}
use Rattle.drill_call.specs.Drills.{quotes_of, refusals, yes, no, refused, saying, answered, drilled, Accepted, Winning, Keeping, WinningByWay}
use Rattle.drill_call.proofs.Placing.{place_empty}
use Rattle.drill_call.proofs.Judging.{accepted_small}

-- what is granted is no refusal
granted_yes : (n place p : ℕ) → granted n (answered place) (refused n) ≡ yes p → (n ≡ 0) × (place ≡ p)
unfolding granted answered
granted_yes zero zero p e = let z : ◌≡◌ {A = ℕ} 0 1 = cc in absurd (omega arith)
granted_yes zero (suc k) p e = (refl, cc)
granted_yes (suc n) place p e = let z : ◌≡◌ {A = ℕ} 0 1 = cc in absurd (omega arith)

granted_no : (n place : ℕ) → granted n (answered place) (refused n) ≡ no → (n ≡ 0) × (place ≡ 0)
unfolding granted answered
granted_no zero zero e = (refl, refl)
granted_no zero (suc k) e = let z : ◌≡◌ {A = ℕ} 0 1 = cc in absurd (omega arith)
granted_no (suc n) place e = let z : ◌≡◌ {A = ℕ} 0 1 = cc in absurd (omega arith)

module _ (rules : Rules) (first second : Hand) where
  abbrev d : ℕ
  d = rules.dimensions

  abbrev place : ℕ
  place = drill_place d rules.capacity rules.directions rules.n (quotes_of d first) (quotes_of d second)

  granted_place : (p : ℕ) → Accepted rules first second → place ≡ p → drilled rules first second ≡ answered p
  unfolding drilled granted
  granted_place p a e = rw (a, e)

  module _ (r : Result (Option ℕ) Refusal) (met : saying r ≡ drilled rules first second) where
    -- yes with place i + 1 exactly if no refusal's condition holds, laying that quote keeps the win, and laying an earlier one does not
    pub drill_yes : (i : ℕ) → saying r ≡ yes (suc i)
        → Accepted rules first second × Keeping rules first second i × ((j : ℕ) → j < i → Keeping rules first second j → ⊥)
    unfolding drilled
    drill_yes i e =
        let t = granted_yes (first_of (refusals rules first second)) place (suc i) (sym met ∙ e) in
        let k = named_keeps d rules.capacity rules.directions rules.n (quotes_of d first) (quotes_of d second) i t.1 in
        (t.0, k.0, k.1)

    pub yes_drill : (i : ℕ) → Accepted rules first second → Keeping rules first second i
        → ((j : ℕ) → j < i → Keeping rules first second j → ⊥) → saying r ≡ yes (suc i)
    unfolding answered
    yes_drill i a k before =
        met ∙ granted_place (suc i) a (keeps_named d rules.capacity rules.directions rules.n (quotes_of d first) (quotes_of d second) i k before)

    -- no exactly if no refusal's condition holds and no strategy wins
    pub drill_no : saying r ≡ no → Accepted rules first second × (Winning rules first second → ⊥)
    unfolding drilled
    drill_no e =
        let t = granted_no (first_of (refusals rules first second)) place (sym met ∙ e) in
        (t.0, none_wins d rules.capacity rules.directions rules.n (quotes_of d first) (quotes_of d second) t.1)

    pub no_drill : Accepted rules first second → (Winning rules first second → ⊥) → saying r ≡ no
    unfolding answered
    no_drill a h =
        met ∙ granted_place 0 a (wins_none d rules.capacity rules.directions rules.n (quotes_of d first) (quotes_of d second) h)

    -- with an empty first hand the answer is no, and no strategy wins
    pub empty_hand_loses : Accepted rules first second → first.count ≡ 0 → (saying r ≡ no) × (Winning rules first second → ⊥)
    unfolding answered
    empty_hand_loses a z =
        let e : place ≡ 0 = sym (place_empty rules first second (accepted_small rules first second a) z) in
        (met ∙ granted_place 0 a e, none_wins d rules.capacity rules.directions rules.n (quotes_of d first) (quotes_of d second) e)

  -- a strategy wins exactly if there is a way of choosing, a map from the replies so far to a place, that wins for every order of replies
  pub wins_iff_way : (Winning rules first second → WinningByWay rules first second) × (WinningByWay rules first second → Winning rules first second)
  wins_iff_way = (
    way_of_wins no_quote (first_stands d rules.capacity rules.directions rules.n),
    wins_of_way no_quote (first_stands d rules.capacity rules.directions rules.n),
  )
