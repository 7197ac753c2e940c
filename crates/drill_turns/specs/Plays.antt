-- A play of the drill by the numbers of its quotes: its hands and the quotes laid, and what each turn answers.
use Rattle.std.specs.Prelude.{◌≡◌, ℕ, suc, ◌+◌, ◌<◌, Bool, true, false, cond, List, [], ◌∷◌, ◌++◌, map, ltb, get_or, take, Option, Some, None}
use Rattle.lists.specs.Lists.{run}
use Rattle.drill_model.specs.Turns.{Side, First, Second, left, laying, wins, best_place}
use Rattle.drill_turns.specs.declared.game.Rules.{Rules}
use Rattle.drill_turns.specs.declared.game.Hand.{Hand}
use Rattle.drill_turns.specs.declared.game.Laid.{Laid}
use Rattle.drill_turns.specs.declared.game.Play.{Play}
use Rattle.drill_turns.specs.declared.game.Side as Code
use Rattle.drill_turns.specs.declared.game.Side.TheVariants as Code'
use Rattle.drill_turns.specs.Numbers.{won_by}

-- the first so many numbers of a hand
unfoldable pub numbers_of : ℕ → List ℕ → List ℕ
numbers_of count hand = map (λ j. get_or hand j 0) (run 0 count)

-- the numbers of a hand
abbrev pub numbers_in : Hand → List ℕ
numbers_in h = numbers_of h.count h.numbers

-- the numbers laid
abbrev pub laid_numbers : Laid → List ℕ
laid_numbers l = take l.count l.numbers

module _ (p : Play) where
  -- the first side's hand
  unfoldable pub first_hand : List ℕ
  first_hand = numbers_in p.first

  -- the second side's hand
  unfoldable pub second_hand : List ℕ
  second_hand = numbers_in p.second

  -- the quotes laid
  unfoldable pub laid_in : List ℕ
  laid_in = laid_numbers p.laid

-- the numbers of a hand of four without that at place i
pub record LeftOf (hand : List ℕ) (i : ℕ) (r : List ℕ) : Type 0 where
  pub at : (j : ℕ) → j < 3 → get_or r j 0 ≡ cond (ltb j i) (get_or hand j 0) (get_or hand (suc j) 0)

-- a hand without the quote at place i of another
pub record Without (h : Hand) (i : ℕ) (r : Hand) : Type 0 where
  pub numbers : numbers_in r ≡ left i (numbers_in h)
  pub fewer : suc r.count ≡ h.count

-- quotes laid, and one more behind them
pub record Laying (l : Laid) (number : ℕ) (r : Laid) : Type 0 where
  pub numbers : laid_numbers r ≡ laid_numbers l ++ (number ∷ [])
  pub more : r.count ≡ l.count + 1

-- a play in which nothing is laid: the first hand has the numbers from 0 on, the second those from 4 on
pub record Started (firsts seconds : ℕ) (r : Play) : Type 0 where
  pub first : first_hand r ≡ run 0 firsts
  pub second : second_hand r ≡ run 4 seconds
  pub laid : laid_in r ≡ []
  pub held : r.first.count ≡ firsts

-- a play in which the first side laid the quote at place i of its hand
pub record LaidFirst (p : Play) (i : ℕ) (r : Play) : Type 0 where
  pub first : first_hand r ≡ left i (first_hand p)
  pub second : second_hand r ≡ second_hand p
  pub laid : laid_in r ≡ laying 0 i (first_hand p) (laid_in p)
  pub fewer : suc r.first.count ≡ p.first.count
  pub same : r.second.count ≡ p.second.count

-- a play in which the second side laid the quote at place i of its hand
pub record LaidSecond (p : Play) (i : ℕ) (r : Play) : Type 0 where
  pub first : first_hand r ≡ first_hand p
  pub second : second_hand r ≡ left i (second_hand p)
  pub laid : laid_in r ≡ laying 0 i (second_hand p) (laid_in p)
  pub fewer : suc r.second.count ≡ p.second.count
  pub same : r.first.count ≡ p.first.count

-- a side of the code
abbrev pub side_of : Code.Side → Side
side_of Code'.First = First
side_of Code'.Second = Second

-- the side that lays the next quote, by whether each hand has one and by whose turn it is
abbrev pub layer_by : Bool → Bool → Code.Side → Option Code.Side
layer_by true true turn = Some turn
layer_by true false turn = Some Code'.First
layer_by false true turn = Some Code'.Second
layer_by false false turn = None

-- a place, counted from 1, or 0 where there is none
abbrev pub place_number : Option ℕ → ℕ
place_number None = 0
place_number (Some i) = suc i

module _ (cells : List ℕ) (rules : Rules) where
  -- the earliest place of the first hand, counted from 1, whose laying keeps the win, or 0 where there is none
  unfoldable pub place_in : Play → ℕ
  place_in p = best_place 0 (won_by cells rules) (first_hand p) (second_hand p) (laid_in p)

  -- whether the first side wins on a side's turn
  unfoldable pub wins_on : Side → Play → Bool
  wins_on turn p = wins 0 (won_by cells rules) turn (first_hand p) (second_hand p) (laid_in p)

  -- whether the first side wins on the second side's turn
  unfoldable pub wins_in : Play → Bool
  wins_in p = wins 0 (won_by cells rules) Second (first_hand p) (second_hand p) (laid_in p)
