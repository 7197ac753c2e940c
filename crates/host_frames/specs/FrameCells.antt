-- A frame in seven cells, its kind and six values: what the reader leaves there, and the message that is written from them.
use Rattle.std.specs.Prelude.{◌≡◌, ℕ, ◌||◌, cond, List, [], ◌∷◌, ltb, length, get_or}
use Rattle.lists.specs.Lists.{laid}
use Rattle.refusals.specs.Refusals.{number, granted}
use Rattle.frame_kinds.specs.declared.Shape.{Shape}
use Rattle.frame_kinds.specs.Kinds.{shape_of, open_kind}
use Rattle.frames.specs.declared.Message.{Message}
use Rattle.frames.specs.declared.Message.TheVariants.{Quote, Sized, Change, Pair, Bare, Position, Open, EndOfTape, Refused}
use Rattle.frames.specs.Frames.{Saying, told, ended, refused, frame}
use Rattle.frame_writer.specs.Writing.{write_answer}

-- ---- reading

-- a kind and three values, zeros behind them
abbrev valued : ℕ → ℕ → ℕ → ℕ → List ℕ
valued kind a b c = kind ∷ a ∷ b ∷ c ∷ 0 ∷ 0 ∷ 0 ∷ []

-- the number that a host is given of a message that was read: 0 for a frame and for the end of the tape
abbrev pub message_number : Message → ℕ
message_number (Quote k) = 0
message_number (Sized k n) = 0
message_number (Change k n p) = 0
message_number (Pair k n1 n2) = 0
message_number (Bare k) = 0
message_number (Position k p) = 0
message_number (Open d N directions) = 0
message_number EndOfTape = 0
message_number (Refused k) = number k

-- the seven cells after it: its kind, then what its body says in the body's order, zeros behind (a quote's values are its columns);
-- zeros at the end of the tape (0 is no kind), and the cells as they were where it is refused
abbrev pub message_cells : Message → List ℕ → List ℕ → List ℕ
message_cells (Quote k) columns before =
    k ∷ get_or columns 0 0 ∷ get_or columns 1 0 ∷ get_or columns 2 0 ∷ get_or columns 3 0 ∷ get_or columns 4 0 ∷ get_or columns 5 0 ∷ []
message_cells (Sized k n) columns before = valued k n 0 0
message_cells (Change k n p) columns before = valued k n p 0
message_cells (Pair k n1 n2) columns before = valued k n1 n2 0
message_cells (Bare k) columns before = valued k 0 0 0
message_cells (Position k p) columns before = valued k p 0 0
message_cells (Open d N directions) columns before = valued open_kind d N directions
message_cells EndOfTape columns before = valued 0 0 0 0
message_cells (Refused k) columns before = before

-- the same of what is said at a place of a tape
abbrev pub saying_number : Saying → ℕ
saying_number (told m) = 0
saying_number ended = 0
saying_number (refused k) = k

abbrev pub saying_cells : Saying → List ℕ → List ℕ → List ℕ
saying_cells (told m) columns before = message_cells m columns before
saying_cells ended columns before = valued 0 0 0 0
saying_cells (refused k) columns before = before

-- ---- writing

-- the message of a kind and n; none where n does not fit its two bytes
unfoldable pub sized_in : ℕ → ℕ → Message
sized_in kind n = cond (ltb 65535 n) EndOfTape (Sized kind n)

-- the message of a kind, n and a position; none where n does not fit
unfoldable pub change_in : ℕ → ℕ → ℕ → Message
change_in kind n position = cond (ltb 65535 n) EndOfTape (Change kind n position)

-- the message of a kind, n1 and n2; none where one of them does not fit
unfoldable pub pair_in : ℕ → ℕ → ℕ → Message
pair_in kind n1 n2 = cond (ltb 65535 n1 || ltb 65535 n2) EndOfTape (Pair kind n1 n2)

-- the message of an opening; none where d, N or the directions do not fit
unfoldable pub open_in : ℕ → ℕ → ℕ → Message
open_in d N directions = cond (ltb 255 d || ltb 65535 N || ltb 255 directions) EndOfTape (Open d N directions)

-- the message of a kind of this shape, its values in the cells behind it
unfoldable pub shaped_in : Shape → List ℕ → Message
shaped_in Shape.Columns cells = Quote (get_or cells 0 0)
shaped_in Shape.Size cells = sized_in (get_or cells 0 0) (get_or cells 1 0)
shaped_in Shape.SizePosition cells = change_in (get_or cells 0 0) (get_or cells 1 0) (get_or cells 2 0)
shaped_in Shape.SizePair cells = pair_in (get_or cells 0 0) (get_or cells 1 0) (get_or cells 2 0)
shaped_in Shape.Bare cells = Bare (get_or cells 0 0)
shaped_in Shape.Position cells = Position (get_or cells 0 0) (get_or cells 1 0)
shaped_in Shape.Settings cells = open_in (get_or cells 1 0) (get_or cells 2 0) (get_or cells 3 0)
shaped_in Shape.Unknown cells = EndOfTape

-- the message that seven cells hold; none where the kind is unknown or a value does not fit its field
unfoldable pub message_in : List ℕ → Message
message_in cells = cond (ltb 255 (get_or cells 0 0)) EndOfTape (shaped_in (shape_of (get_or cells 0 0)) cells)

-- the six values, as a quote's columns
unfoldable pub columns_in : List ℕ → List ℕ
columns_in cells = get_or cells 1 0 ∷ get_or cells 2 0 ∷ get_or cells 3 0 ∷ get_or cells 4 0 ∷ get_or cells 5 0 ∷ get_or cells 6 0 ∷ []

-- what the writer promises of its number and count, and of what it leaves in the output, at the message that the cells hold
pub record CellsWritten (cells before : List ℕ) (number count : ℕ) (after : List ℕ) : Type 0 where
  pub answer : number ≡ write_answer (message_in cells) (columns_in cells) (length before)
  pub counts : count ≡ granted (write_answer (message_in cells) (columns_in cells) (length before)) (length (frame (message_in cells) (columns_in cells))) 0
  pub bytes : after ≡ granted (write_answer (message_in cells) (columns_in cells) (length before)) (laid (frame (message_in cells) (columns_in cells)) before) before
