-- The quoting drill (02, 12/13): the hands, the last list of n on a fresh book, and the earliest place that keeps the win.
use Rattle.std.specs.Prelude.{ℕ, ◌-◌, Bool, true, false, List, [], map, get_or}
use Rattle.lists.specs.Lists.{any}
use Rattle.model.specs.Reference.{Reference, opening, with_quotes, skyline_of}
use Rattle.drill_model.specs.Turns.{Side, First, Second, Wins, Keeps, best_place}

-- a quote of the drill: the side that holds it, and its columns
pub record Held : Type 0 where
  pub side : Side
  pub columns : List ℕ

-- no quote at all
abbrev pub no_quote : Held
no_quote = record { side = Second; columns = [] }

-- a quote in a side's hand
abbrev pub held : Side → List ℕ → Held
held side columns = record { side = side; columns = columns }

-- the quotes of a side's hand
unfoldable pub hand_of : Side → List (List ℕ) → List Held
hand_of side quotes = map (held side) quotes

-- the quote is the first side's
unfoldable pub is_first : Side → Bool
is_first First = true
is_first Second = false

-- a book just opened with these settings and fed these quotes
unfoldable pub fed_book : ℕ → ℕ → ℕ → List (List ℕ) → Reference
fed_book d N directions quotes = with_quotes (opening d N directions) quotes

module _ (d N directions n : ℕ) where
  -- the list of n after these quotes were laid in this order on a fresh book
  unfoldable pub last_list : List Held → List ℕ
  last_list laid = skyline_of (fed_book d N directions (map (λ q. q.columns) laid)) n

  -- that list holds a position of the first side's
  unfoldable pub first_stands : List Held → Bool
  first_stands laid = any (λ p. is_first (get_or laid (p - 1) no_quote).side) (last_list laid)

  -- the first side wins the drill with these hands: it begins, and nothing is laid
  abbrev pub WinsDrill : List (List ℕ) → List (List ℕ) → Type 0
  WinsDrill first second = Wins no_quote first_stands First (hand_of First first) (hand_of Second second) []

  -- laying the quote at a place of the first hand, counted from 0, keeps the win
  abbrev pub KeepsDrill : List (List ℕ) → List (List ℕ) → ℕ → Type 0
  KeepsDrill first second i = Keeps no_quote first_stands (hand_of First first) (hand_of Second second) [] i

  -- the earliest place of the first hand, counted from 1, whose laying keeps the win, or 0 where there is none
  unfoldable pub drill_place : List (List ℕ) → List (List ℕ) → ℕ
  drill_place first second = best_place no_quote first_stands (hand_of First first) (hand_of Second second) []
