-- What the drill answers (02, 12/13): its refusals in order, yes with the earliest place that keeps the win, or no.
use Rattle.std.specs.Prelude.{◌≡◌, ℕ, zero, suc, ◌*◌, ◌≤◌, Bool, ◌||◌, not, List, [], ◌∷◌, map, ltb, eqb, get_or, take, drop, Option, Some, None, Result, Ok, Err}
use Rattle.lists.specs.Lists.{any, run}
use Rattle.head.specs.Heads.{settings_hold}
use Rattle.refusals.specs.declared.Refusal.{Refusal}
use Rattle.refusals.specs.declared.Refusal.TheVariants.{Settings, ColumnCount, WindowSize, DrillSize}
use Rattle.refusals.specs.Refusals.{number, first_of, granted}
use Rattle.drill_model.specs.Turns.{First, Second}
use Rattle.drill_model.specs.Ways.{WinningWay}
use Rattle.drill_model.specs.Drill.{no_quote, hand_of, first_stands, WinsDrill, KeepsDrill, drill_place}
use Rattle.drill_turns.specs.declared.game.Rules.{Rules}
use Rattle.drill_call.specs.declared.Hand.{Hand}

-- the quotes of a hand, of d columns each; those beyond its count are not read, nor are columns beyond d
unfoldable pub quotes_of : ℕ → Hand → List (List ℕ)
quotes_of d h = map (λ i. take d (drop (6 * i) h.cells)) (run 0 h.count)

-- a quote of the hand has not d columns
unfoldable pub uneven : ℕ → Hand → Bool
uneven d h = any (λ i. not (eqb (get_or h.columns i 0) d)) (run 0 h.count)

-- the refusals in 02's order: 3; 19, a hand above 4 or N above 8; 4, a quote of either hand has not d columns; 5, n is 0 or above N
unfoldable pub refusals : Rules → Hand → Hand → List (Bool × ℕ)
refusals rules first second =
    (not (settings_hold rules.dimensions rules.capacity rules.directions), number Settings)
    ∷ (ltb 4 first.count || ltb 4 second.count || ltb 8 rules.capacity, number DrillSize)
    ∷ (uneven rules.dimensions first || uneven rules.dimensions second, number ColumnCount)
    ∷ (ltb rules.n 1 || ltb rules.capacity rules.n, number WindowSize) ∷ []

-- hands of at most four quotes, of at most six columns
pub record Small (rules : Rules) (first second : Hand) : Type 0 where
  pub narrow : rules.dimensions ≤ 6
  pub firsts : first.count ≤ 4
  pub seconds : second.count ≤ 4

-- what the drill can say: yes with the place of the quote to lay first, counted from 1, no, or the number of a refusal
pub data Saying : Type 0 where
  yes : ℕ → Saying
  no : Saying
  refused : ℕ → Saying

-- what an outcome says
abbrev pub saying : Result (Option ℕ) Refusal → Saying
saying (Ok (Some place)) = yes place
saying (Ok None) = no
saying (Err k) = refused (number k)

-- yes with the earliest place that keeps the win, or no where there is none
unfoldable pub answered : ℕ → Saying
answered zero = no
answered (suc place) = yes (suc place)

-- what the drill answers
unfoldable pub drilled : Rules → Hand → Hand → Saying
drilled rules first second =
    let refusal = first_of (refusals rules first second) in
    let d = rules.dimensions in
    granted refusal
    (answered (drill_place d rules.capacity rules.directions rules.n (quotes_of d first) (quotes_of d second)))
    (refused refusal)

module _ (rules : Rules) (first second : Hand) where
  -- no condition of a refusal holds
  abbrev pub Accepted : Type 0
  Accepted = first_of (refusals rules first second) ≡ 0

  -- the first side has a strategy that wins
  abbrev pub Winning : Type 0
  Winning =
      WinsDrill rules.dimensions rules.capacity rules.directions rules.n (quotes_of rules.dimensions first)
      (quotes_of rules.dimensions second)

  -- laying the quote at a place of the first hand, counted from 0, keeps the win
  abbrev pub Keeping : ℕ → Type 0
  Keeping =
      KeepsDrill rules.dimensions rules.capacity rules.directions rules.n (quotes_of rules.dimensions first)
      (quotes_of rules.dimensions second)

  -- the first side has a way of choosing, a map from the replies so far to a place, that wins for every order in which the second hand can
  -- be laid
  abbrev pub WinningByWay : Type 0
  WinningByWay =
      WinningWay no_quote (first_stands rules.dimensions rules.capacity rules.directions rules.n) First
      (hand_of First (quotes_of rules.dimensions first)) (hand_of Second (quotes_of rules.dimensions second)) []
