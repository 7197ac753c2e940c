-- What the import of a file hands back and leaves: its answer by 02's numbers, the first line that does not fit, and the frames.
use Rattle.std.specs.Prelude.{ℕ, suc, ◌<◌, ◌≡◌, true, false, not, cond, List, [], ◌∷◌, map, ltb, eqb, length, get_or, take, Result, Ok, Err}
use Rattle.lists.specs.Lists.{flat, laid}
use Rattle.refusals.specs.declared.Refusal.{Refusal}
use Rattle.refusals.specs.declared.Refusal.TheVariants.{Settings, MalformedLine, ShortOutput}
use Rattle.refusals.specs.Refusals.{number, first_of, granted}
use Rattle.frame_kinds.specs.Kinds.{within}
use Rattle.frames.specs.declared.Message.TheVariants.{Quote}
use Rattle.frames.specs.Frames.{frame}
use Rattle.csv_frames.specs.Lines.{lines, line_fields, fits, all_fit}
use Rattle.csv_frames.specs.Spelling.{Spells}
use Rattle.csv_frames.specs.declared.NotImported.{NotImported}

-- the number of the first of these lines that does not fit, where they are counted from this number on; 0 where all fit
unfoldable pub misfit_from : ℕ → ℕ → List (List ℕ) → ℕ
misfit_from k d [] = 0
misfit_from k d (l ∷ ls) = cond (fits d l) (misfit_from (suc k) d ls) k

-- the number from 1 of the first line of a file that does not fit; 0 where all fit
unfoldable pub misfit : ℕ → List ℕ → ℕ
misfit d file = misfit_from 1 d (lines file)

-- the frame of a line's numbers
unfoldable pub line_frame : ℕ → List ℕ → List ℕ
line_frame d line = frame (Quote d) (line_fields line).numbers

-- the frames of these lines, in their order
unfoldable pub frames_of : ℕ → List (List ℕ) → List ℕ
frames_of d ls = flat (map (line_frame d) ls)

-- whether a file is imported into an output of this length: 3 for a d that no quote has, then 18 for a line that does not fit, then 13; else 0
unfoldable pub import_answer : ℕ → List ℕ → ℕ → ℕ
import_answer d file room =
    first_of (
    (not (within 1 6 d), number Settings)
    ∷ (not (eqb (misfit d file) 0), number MalformedLine)
    ∷ (ltb room (length (frames_of d (lines file))), number ShortOutput)
    ∷ []
    )

-- the number of the line that is named: with 18 the first that does not fit, 0 otherwise
unfoldable pub import_line : ℕ → List ℕ → ℕ → ℕ
import_line d file room = cond (eqb (import_answer d file room) (number MalformedLine)) (misfit d file) 0

-- the refusal of a file that is not imported
abbrev pub refusal_of : NotImported → Refusal
refusal_of NotImported.Settings = Settings
refusal_of (NotImported.MalformedLine line) = MalformedLine
refusal_of NotImported.ShortOutput = ShortOutput

-- the number of an answer: 0 for a file that is imported
abbrev pub answer_of : Result ℕ NotImported → ℕ
answer_of (Ok count) = 0
answer_of (Err reason) = number (refusal_of reason)

-- how many bytes were imported
abbrev pub count_of : Result ℕ NotImported → ℕ
count_of (Ok count) = count
count_of (Err reason) = 0

-- the number of the line that is named, 0 where none is
abbrev pub line_of : Result ℕ NotImported → ℕ
line_of (Err (NotImported.MalformedLine line)) = line
line_of r = 0

-- what the import promises of its answer, count and line, and of what it leaves in the output
pub record Imports (d : ℕ) (file before : List ℕ) (r : Result ℕ NotImported) (after : List ℕ) : Type 0 where
  pub answer : answer_of r ≡ import_answer d file (length before)
  pub count : count_of r ≡ granted (import_answer d file (length before)) (length (frames_of d (lines file))) 0
  pub line : line_of r ≡ import_line d file (length before)
  pub bytes : after ≡ granted (import_answer d file (length before)) (laid (frames_of d (lines file)) before) before

-- ---- what the theorems speak of

-- a file spells quotes of d columns, one to six, whose frames, in their order, are these bytes
pub record SpelledAs (d : ℕ) (file bytes : List ℕ) : Type 0 where
  pub columns : within 1 6 d ≡ true
  pub quotes : List (List ℕ)
  pub spells : Spells d file quotes
  pub frames : bytes ≡ flat (map (frame (Quote d)) quotes)

-- all lines before the one at this place, counted from 0, fit, and that one does not
pub record FirstMisfit (d : ℕ) (ls : List (List ℕ)) (place : ℕ) : Type 0 where
  pub inside : place < length ls
  pub before : all_fit d (take place ls) ≡ true
  pub here : fits d (get_or ls place []) ≡ false
