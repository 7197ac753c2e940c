-- The refusals' numbers, and the answer of a call that tests its conditions in order.
use Rattle.std.specs.Prelude.{ℕ, zero, suc, Bool, cond, List, [], ◌∷◌, Result, Ok, Err}
use Rattle.refusals.specs.declared.Refusal.{Refusal}
use Rattle.refusals.specs.declared.Refusal.TheVariants.{UnknownKind, CutFrame, Settings, ColumnCount, WindowSize, TapeFull, OutOfPlace, AlreadyWatched, NoFreeRecord, NotWatched, ShortLoan, Torn, ShortOutput, WindowOrder, StampOrder, Unmatched, DayLength, MalformedLine, DrillSize}

-- 01's number of a refusal, and 02's
abbrev pub number : Refusal → ℕ
number UnknownKind = 1
number CutFrame = 2
number Settings = 3
number ColumnCount = 4
number WindowSize = 5
number TapeFull = 6
number OutOfPlace = 7
number AlreadyWatched = 8
number NoFreeRecord = 9
number NotWatched = 10
number ShortLoan = 11
number Torn = 12
number ShortOutput = 13
number WindowOrder = 14
number StampOrder = 15
number Unmatched = 16
number DayLength = 17
number MalformedLine = 18
number DrillSize = 19

-- 01's number of an answer: 0 where the call is accepted
abbrev pub number_of : Result (Unit {0}) Refusal → ℕ
number_of (Ok _) = 0
number_of (Err k) = number k

-- the number of the first condition that holds, or 0 where none does
unfoldable pub first_of : List (Bool × ℕ) → ℕ
first_of [] = 0
first_of (c ∷ cs) = cond c.0 c.1 (first_of cs)

-- a where the call is accepted, r where it is refused with this number
unfoldable pub granted : {A : Type 0} → ℕ → A → A → A
granted zero a r = a
granted (suc k) a r = r
