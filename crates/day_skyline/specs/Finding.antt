-- The parts of the sheet's functions: a day of which is asked, one part of an array thinned by another, and a half's sheet found.
use Rattle.std.specs.Prelude.{◌≡◌, ◌⊎◌, ℕ, ◌+◌, ◌-◌, ◌*◌, ◌≤◌, Bool, true, not, List, [], ◌∷◌, ◌++◌, ltb, length, take, drop, Result}
use Rattle.lists.specs.Lists.{rising, laid}
use Rattle.dominance.specs.Renewal.{renewed}
use Rattle.skyline.specs.Skyline.{skyline}
use Rattle.skyline.specs.Halves.{thinned}
use Rattle.refusals.specs.declared.Refusal.{Refusal}
use Rattle.refusals.specs.declared.Refusal.TheVariants.{Settings, DayLength, ShortLoan, ShortOutput}
use Rattle.refusals.specs.Refusals.{number, first_of, granted}
use Rattle.day_skyline.specs.declared.day.Day.{Day}
use Rattle.day_skyline.specs.Sheet.{longest_day, columns_hold, quotes_in, sheet_number, sheet_count}

-- the answer of a sheet but for the room: 3, 17, 11
unfoldable pub loan_answer : ℕ → ℕ → ℕ → ℕ → ℕ
loan_answer d directions count cells =
    first_of ((not (columns_hold d directions), number Settings) ∷ (ltb longest_day count, number DayLength) ∷ (ltb cells (d * count), number ShortLoan) ∷ [])

-- 13, if the positions do not fit this room
unfoldable pub room_answer : ℕ → List ℕ → ℕ
room_answer room positions = first_of ((ltb room (length positions), number ShortOutput) ∷ [])

-- what is handed back and left where these positions are to be written
pub record Written (positions before : List ℕ) (r : Result ℕ Refusal) (after : List ℕ) : Type 0 where
  pub answered : sheet_number r ≡ room_answer (length before) positions
  pub counted : sheet_count r ≡ granted (room_answer (length before) positions) (length positions) 0
  pub out : after ≡ granted (room_answer (length before) positions) (laid positions before) before

-- the place in the table of the first column of the quote at position p
unfoldable pub start_of : Day → ℕ → ℕ
start_of day p = (p - 1) * day.dimensions

-- one position of the day is over another
unfoldable pub over_in : Day → ℕ → ℕ → Bool
over_in day = renewed day.dimensions day.directions (quotes_in day.dimensions day.count day.columns.now)

-- a position of a day of this count
pub record Inside (count p : ℕ) : Type 0 where
  pub low : 1 ≤ p
  pub high : p ≤ count

-- what stands from place a up to place e
unfoldable pub cut : ℕ → ℕ → List ℕ → List ℕ
cut a e l = take (e - a) (drop a l)

-- positions from place `from` up to `to` can be thinned by those from `low` up to `high` and laid down from place `at` on
pub record Apart (count : ℕ) (cells : List ℕ) (from to low high at : ℕ) : Type 0 where
  pub behind : at ≤ from
  pub order : from ≤ to
  pub most : to ≤ length cells
  pub others_order : low ≤ high
  pub others_most : high ≤ length cells
  pub apart : (high ≤ at) ⊎ (to ≤ low)
  pub these_rise : rising 1 count (cut from to cells) ≡ true
  pub others_rise : rising 1 count (cut low high cells) ≡ true

-- those of the positions from place `from` up to `to` over which none of those from `low` up to `high` is
unfoldable pub left : (ℕ → ℕ → Bool) → List ℕ → ℕ → ℕ → ℕ → ℕ → List ℕ
left dom cells from to low high = thinned dom (cut from to cells) (cut low high cells)

-- what is left of them is laid down from place `at` on, up to place `end`
pub record Thinned (dom : ℕ → ℕ → Bool) (cells : List ℕ) (from to low high at end : ℕ) (after : List ℕ) : Type 0 where
  pub ends : end ≡ at + length (left dom cells from to low high)
  pub laid : after ≡ take at cells ++ (left dom cells from to low high ++ drop (at + length (left dom cells from to low high)) cells)

-- two halves' sheets stand at the front and from place h on
pub record Halved (count : ℕ) (cells : List ℕ) (h older newer : ℕ) : Type 0 where
  pub older_fits : older ≤ h
  pub newer_fits : h + newer ≤ length cells
  pub older_rises : rising 1 count (take older cells) ≡ true
  pub newer_rises : rising 1 count (cut h (h + newer) cells) ≡ true

-- the two thinned in turn, the newer by what is left of the older
unfoldable pub merged : (ℕ → ℕ → Bool) → List ℕ → List ℕ → List ℕ
merged dom older newer = thinned dom older newer ++ thinned dom newer (thinned dom older newer)

-- positions l stand at the front, as many as told
pub record AtFront (l : List ℕ) (found : ℕ) (after : List ℕ) : Type 0 where
  pub counted : found ≡ length l
  pub front : take found after ≡ l

-- the positions from `first` on, n of them, are of a day of this count
pub record Part (count first n : ℕ) : Type 0 where
  pub low : 1 ≤ first
  pub high : first + n ≤ count + 1

-- the sheet of the n positions from `first` on
unfoldable pub sheet_from : (ℕ → ℕ → Bool) → ℕ → ℕ → List ℕ
sheet_from dom first n = skyline dom first (first + n - 1)
