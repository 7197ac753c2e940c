-- The frames of a day taken one after the other, the refusals in their order, and the line of the day's sheet.
use Rattle.std.specs.Prelude.{◌≡◌, ℕ, zero, suc, ◌+◌, ◌*◌, Bool, true, false, ◌&&◌, ◌||◌, not, cond, List, [], ◌∷◌, ◌++◌, ltb, leb, eqb, length, take, drop, Option, Some, None, Result, Ok, Err}
use Rattle.std.specs.Option.{is_some}
use Rattle.frames.specs.declared.Message.{Message}
use Rattle.frames.specs.declared.Message.TheVariants.{Quote, Sized, Change, Pair, Bare, Position, Open, EndOfTape, Refused}
use Rattle.frames.specs.Frames.{Saying, told, ended, refused, read_at}
use Rattle.refusals.specs.declared.Refusal.{Refusal}
use Rattle.refusals.specs.declared.Refusal.TheVariants.{OutOfPlace, Settings, ColumnCount}
use Rattle.refusals.specs.Refusals.{number, number_of, first_of}
use Rattle.text.specs.Text.{line}
use Rattle.day_skyline.specs.Sheet.{longest_day, columns_hold, sheet_of, sheet_answer}
use Rattle.day_frames.specs.declared.Gathered.{Gathered}

-- where a gathering stands, by 01's numbers: the place on the tape, how many quotes were taken, the number of the refusal that ended it
-- (0: none), whether one had another number of columns, and whether it is over
pub record State : Type 0 where
  pub place : ℕ
  pub count : ℕ
  pub number : ℕ
  pub mixed : Bool
  pub over : Bool

-- the number of the refusal that ended it, 0 where none did
abbrev pub end_number : Option (Result (Unit {0}) Refusal) → ℕ
end_number None = 0
end_number (Some a) = number_of a

-- where the code's gathering stands
abbrev pub state_of : Gathered → State
state_of g = record { place = g.place; count = g.count; number = end_number g.end; mixed = g.mixed; over = is_some g.end }

-- at first: no frame taken
abbrev pub none : State
none = record { place = 0; count = 0; number = 0; mixed = false; over = false }

-- it is over, with this number
unfoldable pub over_with : ℕ → State → State
over_with k g = record { place = g.place; count = g.count; number = k; mixed = g.mixed; over = true }

-- one more quote of so many columns, its frame up to place next; behind the longest day and one quote it is over
unfoldable pub with_quote : ℕ → ℕ → ℕ → State → State
with_quote d columns next g = record {
  place = next;
  count = g.count + 1;
  number = g.number;
  mixed = g.mixed || not (eqb columns d);
  over = ltb longest_day (g.count + 1);
}

-- after a message: a quote is taken, any other frame is 7, and what cannot be read has its own number
abbrev pub after_message : ℕ → Message → ℕ → State → State
after_message d (Quote k) next g = with_quote d k next g
after_message d (Sized k n) next g = over_with (number OutOfPlace) g
after_message d (Change k n p) next g = over_with (number OutOfPlace) g
after_message d (Pair k n1 n2) next g = over_with (number OutOfPlace) g
after_message d (Bare k) next g = over_with (number OutOfPlace) g
after_message d (Position k p) next g = over_with (number OutOfPlace) g
after_message d (Open e N directions) next g = over_with (number OutOfPlace) g
after_message d EndOfTape next g = over_with 0 g
after_message d (Refused k) next g = over_with (number k) g

-- the same of what is said of a place
abbrev pub after_saying : ℕ → Saying → ℕ → State → State
after_saying d (told m) next g = after_message d m next g
after_saying d ended next g = over_with 0 g
after_saying d (refused k) next g = over_with k g

-- the cells with the first d columns of a quote from a place on, if there is room for them
unfoldable pub stored : ℕ → List ℕ → ℕ → List ℕ → List ℕ
stored d columns at cells = cond (leb d 6 && leb (at + d) (length cells)) (take at cells ++ take d columns ++ drop (at + d) cells) cells

-- what a frame more leaves, unless it is over: what is gathered, and the table of columns, the quote's behind those of the others
unfoldable pub gathered_after : ℕ → List ℕ → State → State
gathered_after d tape g = let r = read_at tape g.place in cond g.over g (after_saying d r.says r.next g)

unfoldable pub cells_after : ℕ → List ℕ → State → List ℕ → List ℕ
cells_after d tape g cells = cond g.over cells (stored d (read_at tape g.place).columns (g.count * d) cells)

pub record Stepped (d : ℕ) (tape : List ℕ) (g : State) (cells : List ℕ) (r : State) (after : List ℕ) : Type 0 where
  pub gathered : r ≡ gathered_after d tape g
  pub table : after ≡ cells_after d tape g cells

-- after k frames
unfoldable pub gathered_in : ℕ → ℕ → List ℕ → State
gathered_in zero d tape = none
gathered_in (suc k) d tape = gathered_after d tape (gathered_in k d tape)

unfoldable pub cells_in : ℕ → ℕ → List ℕ → List ℕ → List ℕ
cells_in zero d tape cells = cells
cells_in (suc k) d tape cells = cells_after d tape (gathered_in k d tape) (cells_in k d tape cells)

-- a day: at most one frame more than the longest has
pub record Gathers (d : ℕ) (tape cells : List ℕ) (r : State) (after : List ℕ) : Type 0 where
  pub gathered : r ≡ gathered_in 4097 d tape
  pub table : after ≡ cells_in 4097 d tape cells

-- 0, or the number of the first refusal before the sheet: 1, 2 or 7 of a frame, 3, 4
unfoldable pub early_answer : ℕ → ℕ → State → ℕ
early_answer d directions g =
    first_of ((not (eqb g.number 0), g.number) ∷ (not (columns_hold d directions), number Settings) ∷ (g.mixed, number ColumnCount) ∷ [])

-- 0, or the number of the day's first refusal: those before the sheet, then the sheet's own
unfoldable pub day_answer : ℕ → ℕ → State → List ℕ → ℕ → ℕ
day_answer d directions g cells room =
    cond (eqb (early_answer d directions g) 0) (sheet_answer d directions g.count cells room) (early_answer d directions g)

-- the line by this answer: D and the positions, or R and the number
unfoldable pub line_by : ℕ → List ℕ → List ℕ
line_by zero positions = line 68 positions
line_by (suc k) positions = line 82 (suc k ∷ [])

-- the line of a sheet whose positions stand at the front, or of its refusal
abbrev pub line_of : Result ℕ Refusal → List ℕ → List ℕ
line_of (Ok n) positions = line 68 (take n positions)
line_of (Err k) positions = line 82 (number k ∷ [])

-- the line of the day that these frames say
unfoldable pub day_line : ℕ → ℕ → List ℕ → List ℕ → List ℕ → List ℕ
day_line d directions tape cells out =
    let g = gathered_in 4097 d tape in
    let table = cells_in 4097 d tape cells in
    line_by (day_answer d directions g table (length out)) (sheet_of d directions g.count table)
