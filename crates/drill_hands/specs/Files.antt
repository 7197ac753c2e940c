-- The hand that a file of quote frames holds, and the line of an outcome (02, 12/13).
use Rattle.std.specs.Prelude.{ℕ, zero, suc, ◌+◌, ◌*◌, ◌&&◌, not, cond, List, [], ◌∷◌, leb, eqb, length, get_or, set, replicate, Option, Some, None, Result, Ok, Err}
use Rattle.refusals.specs.declared.Refusal.{Refusal}
use Rattle.refusals.specs.declared.Refusal.TheVariants.{OutOfPlace}
use Rattle.refusals.specs.Refusals.{number, granted}
use Rattle.frames.specs.declared.Message.TheVariants.{Quote, Sized, Change, Pair, Bare, Position, Open, EndOfTape, Refused}
use Rattle.frames.specs.Frames.{Saying, told, ended, refused, read_at}
use Rattle.text.specs.Text.{line, line2}
use Rattle.drill_call.specs.declared.Hand.{Hand}
use Rattle.drill_call.specs.Drills as Drills
use Rattle.drill_turns.specs.declared.game.Rules.{Rules}
use Rattle.line_fields.specs.declared.Fields.{Fields}
use Rattle.drill_hands.specs.declared.Unread.{Unread}

-- an empty hand
abbrev pub no_hand : Hand
no_hand = record { count = 0; columns = replicate 4 0; cells = replicate 24 0 }

-- cells with the first k of a quote's stored from a place on
unfoldable pub entered : List ℕ → ℕ → List ℕ → ℕ → List ℕ
entered cells at quote zero = cells
entered cells at quote (suc k) = set (entered cells at quote k) (at + k) (get_or quote k 0)

-- the hand with one quote more behind the others: so many columns, and these; the fifth and those behind it are counted as one, and not held
unfoldable pub with_quote : Hand → ℕ → List ℕ → Hand
with_quote h count quote =
    cond (leb 4 h.count) (record { count = 5; columns = h.columns; cells = h.cells })
    (record { count = h.count + 1; columns = set h.columns h.count count; cells = entered h.cells (h.count * 6) quote 6 })

-- 0 for a quote; 7 for any other message, and the number of a refusal
unfoldable pub number_in : Saying → ℕ
number_in (told (Quote k)) = 0
number_in (told (Sized k n)) = number OutOfPlace
number_in (told (Change k n p)) = number OutOfPlace
number_in (told (Pair k n1 n2)) = number OutOfPlace
number_in (told (Bare k)) = number OutOfPlace
number_in (told (Position k p)) = number OutOfPlace
number_in (told (Open d N directions)) = number OutOfPlace
number_in (told EndOfTape) = number OutOfPlace
number_in (told (Refused k)) = number OutOfPlace
number_in ended = number OutOfPlace
number_in (refused k) = k

-- how many columns a quote has; 0 for all else
unfoldable pub columns_in : Saying → ℕ
columns_in (told (Quote k)) = k
columns_in (told (Sized k n)) = 0
columns_in (told (Change k n p)) = 0
columns_in (told (Pair k n1 n2)) = 0
columns_in (told (Bare k)) = 0
columns_in (told (Position k p)) = 0
columns_in (told (Open d N directions)) = 0
columns_in (told EndOfTape) = 0
columns_in (told (Refused k)) = 0
columns_in ended = 0
columns_in (refused k) = 0

-- 0 for a quote that was told of, or the number of the refusal
abbrev pub refusal_of : Result ℕ Refusal → ℕ
refusal_of (Ok k) = 0
refusal_of (Err k) = number k

-- how many columns were told of; 0 where there is a refusal
abbrev pub count_of : Result ℕ Refusal → ℕ
count_of (Ok k) = k
count_of (Err k) = 0

-- 0 or the number of the refusal, and the hand
abbrev pub handed : Result Hand Unread → ℕ × Hand
handed (Ok h) = (0, h)
handed (Err u) = (number u.refusal, u.hand)

-- the hand from a place of a file on, in at most so many frames, behind the quotes before it
unfoldable pub hand_from : ℕ → List ℕ → ℕ → Hand → ℕ × Hand
hand_from zero file place h = (0, h)
hand_from (suc most) file place h =
    let read = read_at file place in
    let refusal = number_in read.says in
    cond (leb (length file) place) (0, h)
    (granted refusal (hand_from most file read.next (with_quote h (columns_in read.says) read.columns)) (refusal, h))

-- the hand of a whole file: a frame has at least one byte
unfoldable pub hand_in : List ℕ → ℕ × Hand
hand_in file = hand_from (length file) file 0 no_hand

-- the drill with the hands of two files: the refusals of the first file, then those of the second, then the drill's own
unfoldable pub files_drilled : Rules → List ℕ → List ℕ → Drills.Saying
files_drilled rules first second =
    let one = hand_in first in
    let two = hand_in second in
    granted one.0 (granted two.0 (Drills.drilled rules one.1 two.1) (Drills.refused two.0)) (Drills.refused one.0)

-- the rules by the fields of a line, where there are four, each with a number
unfoldable pub asked_by : Fields → Option Rules
asked_by f =
    cond ((f.valid && not f.empty) && eqb f.count 4)
    (Some (record {
      dimensions = get_or f.numbers 0 0;
      capacity = get_or f.numbers 1 0;
      directions = get_or f.numbers 2 0;
      n = get_or f.numbers 3 0;
    }))
    None

-- the line of what the drill says: `yes place`, `no` or `R number`
unfoldable pub line_of : Drills.Saying → List ℕ
line_of (Drills.yes place) = 121 ∷ line2 101 115 (place ∷ [])
line_of Drills.no = line2 110 111 []
line_of (Drills.refused k) = line 82 (k ∷ [])
