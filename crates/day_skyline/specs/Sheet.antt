-- The day sheet (02, 10/13): its quotes, its positions, its refusals, and what the call hands back and leaves.
use Rattle.std.specs.Prelude.{◌≡◌, ℕ, ◌*◌, ◌/◌, ◌^◌, Bool, ◌&&◌, not, List, [], ◌∷◌, map, ltb, leb, eqb, length, take, drop, Result, Ok, Err}
use Rattle.lists.specs.Lists.{run, laid}
use Rattle.dominance.specs.Renewal.{renewed}
use Rattle.skyline.specs.Skyline.{skyline}
use Rattle.head.specs.Heads.{max_dimensions}
use Rattle.refusals.specs.declared.Refusal.{Refusal}
use Rattle.refusals.specs.declared.Refusal.TheVariants.{Settings, DayLength, ShortLoan, ShortOutput}
use Rattle.refusals.specs.Refusals.{number, first_of, granted}

-- the most quotes of a day
abbrev pub longest_day : ℕ
longest_day = 4096

-- d from 1 to 6, and no bit of the directions at d or above (01: the settings, but for N, which a sheet has not)
unfoldable pub columns_hold : ℕ → ℕ → Bool
columns_hold d directions = (leb 1 d && leb d max_dimensions) && eqb (directions / 2 ^ d) 0

-- the quotes of a day: count times d cells of the table, the quote at position 1 first
unfoldable pub quotes_in : ℕ → ℕ → List ℕ → List (List ℕ)
quotes_in d count columns = map (λ i. take d (drop (i * d) columns)) (run 0 count)

-- the sheet: the positions of the day over which no other is, rising
unfoldable pub sheet_of : ℕ → ℕ → ℕ → List ℕ → List ℕ
sheet_of d directions count columns = skyline (renewed d directions (quotes_in d count columns)) 1 count

-- 0, or the number of the first refusal whose condition holds: 3, 17, 11, and 13 where the sheet has more positions than there is room for
unfoldable pub sheet_answer : ℕ → ℕ → ℕ → List ℕ → ℕ → ℕ
sheet_answer d directions count columns room =
    first_of ((not (columns_hold d directions), number Settings)
    ∷ (ltb longest_day count, number DayLength)
    ∷ (ltb (length columns) (d * count), number ShortLoan)
    ∷ (ltb room (length (sheet_of d directions count columns)), number ShortOutput) ∷ [])

-- 0 where a sheet is handed back, or the refusal's number
abbrev pub sheet_number : Result ℕ Refusal → ℕ
sheet_number (Ok n) = 0
sheet_number (Err k) = number k

-- how many positions were written, 0 where the sheet is refused
abbrev pub sheet_count : Result ℕ Refusal → ℕ
sheet_count (Ok n) = n
sheet_count (Err k) = 0

-- what the call hands back, and what it leaves of the cells that were lent for positions: the sheet over their front, or all as lent
pub record Sheeted (d directions count : ℕ) (columns before : List ℕ) (r : Result ℕ Refusal) (after : List ℕ) : Type 0 where
  pub answered : sheet_number r ≡ sheet_answer d directions count columns (length before)
  pub counted : sheet_count r ≡ granted (sheet_answer d directions count columns (length before)) (length (sheet_of d directions count columns)) 0
  pub out : after ≡ granted (sheet_answer d directions count columns (length before)) (laid (sheet_of d directions count columns) before) before
