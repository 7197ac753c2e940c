-- What the theorems on frames ask of a message: that its fields fit their types, and that its columns are there.
use Rattle.std.specs.Prelude.{◌≡◌, ℕ, ◌-◌, ◌≤◌, ◌<◌, true, List, ◌++◌, length, get_or, take, replicate}
use Rattle.frames.specs.declared.Message.{Message}
use Rattle.frames.specs.declared.Message.TheVariants.{Quote, Sized, Change, Pair, Bare, Position, Open, EndOfTape, Refused}
use Rattle.frames.specs.Frames.{framed}

-- how many columns stand beside a message
abbrev pub column_count : Message → ℕ
column_count (Quote k) = k
column_count (Sized k n) = 0
column_count (Change k n p) = 0
column_count (Pair k n1 n2) = 0
column_count (Bare k) = 0
column_count (Position k p) = 0
column_count (Open d N directions) = 0
column_count EndOfTape = 0
column_count (Refused k) = 0

-- the columns of a message as they are read: those that it has, then zeros up to six
abbrev pub columns_of : Message → List ℕ → List ℕ
columns_of m cs = take (column_count m) cs ++ replicate (6 - column_count m) 0

-- the fields of a message fit their types
abbrev pub Typed : Message → Type 0
Typed (Quote k) = k < 256
Typed (Sized k n) = (k < 256) × (n < 65536)
Typed (Change k n p) = (k < 256) × (n < 65536) × (p < 4294967296)
Typed (Pair k n1 n2) = (k < 256) × (n1 < 65536) × (n2 < 65536)
Typed (Bare k) = k < 256
Typed (Position k p) = (k < 256) × (p < 4294967296)
Typed (Open d N directions) = (d < 256) × (N < 65536) × (directions < 256)
Typed EndOfTape = Unit {0}
Typed (Refused k) = Unit {0}

-- a message that has a frame, with the columns that stand beside it
pub record Writable (m : Message) (cs : List ℕ) : Type 0 where
  pub has_frame : framed m ≡ true
  pub typed : Typed m
  pub enough : column_count m ≤ length cs
  pub fits : (i : ℕ) → i < column_count m → get_or cs i 0 < 4294967296

-- six columns, zeros beyond those that the message has
pub record Exact (m : Message) (cs : List ℕ) : Type 0 where
  pub six : length cs ≡ 6
  pub zeros : (i : ℕ) → column_count m ≤ i → get_or cs i 0 ≡ 0
