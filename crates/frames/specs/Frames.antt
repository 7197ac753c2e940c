-- Frames: the frame of a message, and what is read at a place of a tape, by 01's numbers.
use Rattle.std.specs.Prelude.{ℕ, zero, suc, ◌+◌, ◌*◌, Bool, true, false, ◌&&◌, cond, List, [], ◌∷◌, ◌++◌, map, ltb, eqb, length, get_or, take}
use Rattle.lists.specs.Lists.{flat, run}
use Rattle.refusals.specs.declared.Refusal.TheVariants.{UnknownKind, CutFrame}
use Rattle.refusals.specs.Refusals.{number}
use Rattle.octets.specs.Bytes.{bytes2, bytes4, number2, number4}
use Rattle.frame_kinds.specs.declared.Shape.{Shape}
use Rattle.frames.specs.declared.Message.{Message}
use Rattle.frames.specs.declared.Message.TheVariants.{Quote, Sized, Change, Pair, Bare, Position, Open, EndOfTape, Refused}
use Rattle.frames.specs.declared.Read.{Read}
use Rattle.frame_kinds.specs.Kinds.{within, open_kind, shape_of, has_shape, body_length}

-- the message is one that has a frame: its kind is known and has the message's shape
unfoldable pub framed : Message → Bool
framed (Quote k) = has_shape Shape.Columns k
framed (Sized k n) = has_shape Shape.Size k
framed (Change k n p) = has_shape Shape.SizePosition k
framed (Pair k n1 n2) = has_shape Shape.SizePair k
framed (Bare k) = has_shape Shape.Bare k
framed (Position k p) = has_shape Shape.Position k
framed (Open d N directions) = true
framed EndOfTape = false
framed (Refused k) = false

-- the kind of a message; 0 for one that is no frame's
abbrev pub kind_of : Message → ℕ
kind_of (Quote k) = k
kind_of (Sized k n) = k
kind_of (Change k n p) = k
kind_of (Pair k n1 n2) = k
kind_of (Bare k) = k
kind_of (Position k p) = k
kind_of (Open d N directions) = open_kind
kind_of EndOfTape = 0
kind_of (Refused k) = 0

-- the frame of a message: its kind, then its body; a quote's columns stand beside it
unfoldable pub frame : Message → List ℕ → List ℕ
frame (Quote k) columns = k ∷ flat (map bytes4 (take k columns))
frame (Sized k n) columns = k ∷ bytes2 n
frame (Change k n p) columns = k ∷ (bytes2 n ++ bytes4 p)
frame (Pair k n1 n2) columns = k ∷ (bytes2 n1 ++ bytes2 n2)
frame (Bare k) columns = k ∷ []
frame (Position k p) columns = k ∷ bytes4 p
frame (Open d N directions) columns = open_kind ∷ d ∷ (bytes2 N ++ (directions ∷ []))
frame EndOfTape columns = []
frame (Refused k) columns = []

-- the message of a kind by its shape, its body from a place on
unfoldable pub message_by : Shape → List ℕ → ℕ → ℕ → Message
message_by Shape.Columns tape body kind = Quote kind
message_by Shape.Size tape body kind = Sized kind (number2 tape body)
message_by Shape.SizePosition tape body kind = Change kind (number2 tape body) (number4 tape (body + 2))
message_by Shape.SizePair tape body kind = Pair kind (number2 tape body) (number2 tape (body + 2))
message_by Shape.Bare tape body kind = Bare kind
message_by Shape.Position tape body kind = Position kind (number4 tape body)
message_by Shape.Settings tape body kind = Open (get_or tape body 0) (number2 tape (body + 1)) (get_or tape (body + 3) 0)
message_by Shape.Unknown tape body kind = Refused UnknownKind

-- the message of a kind, its body from a place on
unfoldable pub message_at : List ℕ → ℕ → ℕ → Message
message_at tape body kind = message_by (shape_of kind) tape body kind

-- the six columns of a message of this kind, its body from a place on: those that the kind has, then zeros
unfoldable pub columns_at : List ℕ → ℕ → ℕ → List ℕ
columns_at tape body kind = map (λ i. cond (within 1 6 kind && ltb i kind) (number4 tape (body + 4 * i)) 0) (run 0 6)

-- what can be said of a place: a message, the end of the tape, or the number of a refusal
pub data Saying : Type 0 where
  told : Message → Saying
  ended : Saying
  refused : ℕ → Saying

-- what a message that was read says
unfoldable pub saying : Message → Saying
saying (Quote k) = told (Quote k)
saying (Sized k n) = told (Sized k n)
saying (Change k n p) = told (Change k n p)
saying (Pair k n1 n2) = told (Pair k n1 n2)
saying (Bare k) = told (Bare k)
saying (Position k p) = told (Position k p)
saying (Open d N directions) = told (Open d N directions)
saying EndOfTape = ended
saying (Refused k) = refused (number k)

-- what is read at a place: what it says, a quote's columns with zeros behind them, and the place behind the frame
pub record Reading : Type 0 where
  pub says : Saying
  pub columns : List ℕ
  pub next : ℕ

-- what the reader hands back
unfoldable pub reading : Read → Reading
reading r = record { says = saying r.message; columns = r.columns; next = r.next }

-- nothing read: this is said, without columns, and the place stays
unfoldable pub stays : Saying → ℕ → Reading
stays says place = record { says = says; columns = 0 ∷ 0 ∷ 0 ∷ 0 ∷ 0 ∷ 0 ∷ []; next = place }

-- what is read at a place of a tape: 2 beyond the end, the end at the end, 1 for an unknown kind, 2 for a cut frame
unfoldable pub read_at : List ℕ → ℕ → Reading
read_at tape place =
    let kind = get_or tape place 0 in
    let next = place + 1 + body_length kind in
    cond (ltb (length tape) place) (stays (refused (number CutFrame)) place)
    (cond (eqb place (length tape)) (stays ended place)
    (cond (eqb (body_length kind) 255) (stays (refused (number UnknownKind)) place)
    (cond (ltb (length tape) next) (stays (refused (number CutFrame)) place)
    (record { says = told (message_at tape (place + 1) kind); columns = columns_at tape (place + 1) kind; next = next }))))

-- a message that is said, then the others; none where there is no message
unfoldable pub told_first : Saying → List Message → List Message
told_first (told m) others = m ∷ others
told_first ended others = []
told_first (refused k) others = []

-- the messages read from a place on, at most this many, up to the end of the tape or what cannot be read
unfoldable pub messages_from : ℕ → List ℕ → ℕ → List Message
messages_from zero tape place = []
messages_from (suc most) tape place =
    let read = read_at tape place in
    told_first read.says (messages_from most tape read.next)
