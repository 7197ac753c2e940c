-- What the parts of the import promise each other: the line at a place, and the judgement of a file.
use Rattle.std.specs.Prelude.{ℕ, ◌+◌, ◌-◌, ◌≤◌, ◌<◌, ◌≡◌, Bool, true, false, ◌&&◌, cond, List, [], ◌∷◌, ltb, eqb, length, drop, Option, is_some, IfSome, Result, Ok, Err}
use Rattle.csv_frames.specs.Lines.{lines, line_fields, fits, all_fit}
use Rattle.csv_frames.specs.declared.Line.{Line}
use Rattle.csv_frames.specs.declared.NotImported.{NotImported}
use Rattle.csv_frames.specs.declared.NotImported.TheVariants.{MalformedLine}
use Rattle.csv_frames.specs.Imports.{misfit, frames_of}

-- a line ends here: nothing is left, or CR LF stands at the front
unfoldable pub line_ends : List ℕ → Bool
line_ends [] = true
line_ends (byte ∷ []) = false
line_ends (byte ∷ next ∷ bytes) = eqb byte 13 && eqb next 10

-- the place behind CR LF at a place, or the end of the file
unfoldable pub behind_end : List ℕ → ℕ → ℕ
behind_end file end = cond (ltb (length file - end) 2) (length file) (end + 2)

-- a line that was read at a place: its numbers, and where the others begin
pub record LineRead (file : List ℕ) (place : ℕ) (line : List ℕ) (others : List (List ℕ)) (l : Line) : Type 0 where
  pub numbers : l.numbers ≡ (line_fields line).numbers
  pub next : lines (drop l.next file) ≡ others
  pub onward : place < l.next
  pub inside : l.next ≤ length file

-- the first line from a place on: it is read exactly if it fits
pub record LineAt (d : ℕ) (file : List ℕ) (place : ℕ) (r : Option Line) : Type 0 where
  pub line : List ℕ
  pub others : List (List ℕ)
  pub cut : lines (drop place file) ≡ line ∷ others
  pub fitting : is_some r ≡ fits d line
  pub read : IfSome r (LineRead file place line others)

-- the judgement of a file: how many lines it has, or if any does not fit, the number of the first
unfoldable pub judgement : ℕ → List ℕ → Result ℕ NotImported
judgement d file = cond (eqb (misfit d file) 0) (Ok (length (lines file))) (Err (MalformedLine (misfit d file)))

-- a file that can be written: d columns, every line fits, and there is room
pub record Ready (d : ℕ) (file out : List ℕ) : Type 0 where
  pub least : 1 ≤ d
  pub most : d ≤ 6
  pub fit : all_fit d (lines file) ≡ true
  pub room : length (frames_of d (lines file)) ≤ length out
