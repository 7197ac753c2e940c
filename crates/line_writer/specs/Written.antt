-- What is written of an input: its lines, the frames of those that say a message, the numbers of those that say none; and what a writer leaves
-- once it took a line, wrote out what is gathered, or read on.
use Rattle.std.specs.Prelude.{◌≡◌, ℕ, ◌+◌, ◌%◌, ◌^◌, ◌≤◌, Bool, true, false, cond, not, ◌&&◌, ◌||◌, List, [], ◌∷◌, ◌++◌, length, take, drop, ◌==◌, nat_lt}
use Rattle.lists.specs.Lists.{laid}
use Rattle.frames.specs.Frames.{framed, frame}
use Rattle.line_fields.specs.Fields.{line_length}
use Rattle.line_notation.specs.Lines.{said_by}
use Rattle.line_writer.specs.declared.Writer.{Writer}

-- ---- lines

-- a begun line at the end of an input: it is one, unless it is empty
unfoldable pub last_line : List ℕ → List (List ℕ)
last_line [] = []
last_line (byte ∷ bytes) = (byte ∷ bytes) ∷ []

-- the lines of an input behind a begun line: each ends with its newline, which is no part of it, the last also with the input
unfoldable pub lines_from : List ℕ → List ℕ → List (List ℕ)
lines_from begun [] = last_line begun
lines_from begun (byte ∷ bytes) = cond (byte == 10) (begun ∷ lines_from [] bytes) (lines_from (begun ++ (byte ∷ [])) bytes)

-- a line says a message: it has at most 67 bytes, and its letter and numbers are those of a frame
unfoldable pub says : List ℕ → Bool
says line = nat_lt (length line) 68 && framed (said_by line).message

-- the frame of the message that a line says; nothing where it says none
unfoldable pub frame_of : List ℕ → List ℕ
frame_of line = cond (says line) (frame (said_by line).message (said_by line).numbers) []

-- the number of the next line: they are counted from 1, to 2^64 - 1 and then anew from 0
unfoldable pub numbered : ℕ → ℕ
numbered lines = (lines + 1) % 2 ^ 64

-- the number of a line that says no message; none of one that says one
unfoldable pub name_of : ℕ → List ℕ → List ℕ
name_of number line = cond (says line) [] (number ∷ [])

-- the frames of lines in their order
unfoldable pub frames_of : List (List ℕ) → List ℕ
frames_of [] = []
frames_of (line ∷ lines) = frame_of line ++ frames_of lines

-- the numbers of those that say no message, behind so many lines
unfoldable pub names_from : ℕ → List (List ℕ) → List ℕ
names_from many [] = []
names_from many (line ∷ lines) = name_of (numbered many) line ++ names_from (numbered many) lines

-- what is written of an input: the frames of its lines, one behind the other
unfoldable pub written : List ℕ → List ℕ
written input = frames_of (lines_from [] input)

-- the numbers of its lines that say no message
unfoldable pub named : List ℕ → List ℕ
named input = names_from 0 (lines_from [] input)

-- ---- the writer

-- what laying a line comes to
pub record LineLaid (line before : List ℕ) (r : ℕ) (after : List ℕ) : Type 0 where
  pub count : r ≡ length (frame_of line)
  pub bytes : after ≡ laid (frame_of line) before

-- where the line at a place ends
abbrev pub stop_at : List ℕ → ℕ → ℕ
stop_at text place = place + line_length (drop place text)

-- the line at a place
abbrev pub line_at : List ℕ → ℕ → List ℕ
line_at text place = take (line_length (drop place text)) (drop place text)

-- the line at which a writer stands has come whole, or is the last
abbrev pub comes : List ℕ → Writer → Bool
comes text s = nat_lt (stop_at text s.place) (length text) || (s.ended && nat_lt s.place (length text))

-- this frame is laid behind the bytes that are gathered, and gathered with them
pub record Gathered (from to : ℕ) (bytes before after : List ℕ) : Type 0 where
  pub used : to ≡ from + length bytes
  pub text : after ≡ laid (take from before ++ bytes) before

-- two writers have the same of the input
pub record SameInput (s r : Writer) : Type 0 where
  pub end : r.end ≡ s.end
  pub ended : r.ended ≡ s.ended
  pub over : r.over ≡ s.over

-- what a writer that stands at s leaves once it took the line there
pub record LineTaken (text : List ℕ) (s : Writer) (before : List ℕ) (r : Writer) (after : List ℕ) : Type 0 where
  pub lines : r.lines ≡ numbered s.lines
  pub place : r.place ≡ cond (nat_lt (stop_at text s.place) (length text)) (stop_at text s.place + 1) (stop_at text s.place)
  pub unsaid : r.unsaid ≡ not (says (line_at text s.place))
  pub gathered : Gathered s.used r.used (frame_of (line_at text s.place)) before after
  pub same : SameInput s r

-- what is gathered was handed on, and nothing else changed; where that failed all is over
pub record Flushed (s r : Writer) : Type 0 where
  pub used : r.used ≡ 0
  pub lines : r.lines ≡ s.lines
  pub place : r.place ≡ s.place
  pub end : r.end ≡ s.end
  pub ended : r.ended ≡ s.ended
  pub over : s.over ≡ true → r.over ≡ true

-- what has come of the input and is not taken
abbrev pub pending : Writer → List ℕ → List ℕ
pending s text = drop s.place (take s.end text)

-- the writer goes on without reading: the input has ended, or a line has come whole
abbrev pub supplied : Writer → List ℕ → Bool
supplied s text = s.ended || nat_lt (stop_at (take s.end text) s.place) s.end

-- what is kept when the input is read on: of a begun line 68 bytes at most, enough to show that it is too long
abbrev pub kept : Writer → List ℕ → List ℕ
kept s text = cond (supplied s text) (pending s text) (take 68 (pending s text))

-- these bytes came behind what is kept, and the input has ended if none did; none comes where the writer goes on without
pub record Refilled (s : Writer) (text : List ℕ) (r : Writer) (text' : List ℕ) : Type 0 where
  pub came : List ℕ
  pub kept : pending r text' ≡ kept s text ++ came
  pub quiet : supplied s text ≡ true → (came ≡ []) × (r.ended ≡ s.ended)
  pub read : supplied s text ≡ false → r.ended ≡ not (nat_lt 0 (length came))
  pub inside : r.place ≤ r.end
  pub within : r.end ≤ length text
  pub long : length text' ≡ length text
  pub lines : r.lines ≡ s.lines
  pub used : r.used ≡ s.used
  pub over : r.over ≡ s.over
