-- One frame of a tape played at what a host's cells hold: what the host is given, and what is left of everything lent.
use Rattle.std.specs.Prelude.{◌≡◌, ℕ, Bool, cond, List, [], ◌∷◌, get_or}
use Rattle.refusals.specs.Refusals.{number_of}
use Rattle.model.specs.Rows.{Tables}
use Rattle.line_answers.specs.Turns.{player}
use Rattle.line_answers.specs.declared.Step.{Step}
use Rattle.tape.specs.Steps.{Stepped}
use Rattle.host_cells.specs.Cells.{head_in, eight_records}

-- 1 if it is so, else 0
unfoldable pub flag_of : Bool → ℕ
flag_of so = cond so 1 0

-- the player's own promise, at the place in the first cell of the turn and at the head and the records that the cells hold; the turn then
-- has the place behind the frame, how many bytes of text, and whether the tape is over
pub record CellsPlayed (tape turn head : List ℕ) (t : Tables) (watches bytes text : List ℕ) (number : ℕ) (turn' head' : List ℕ) (t' : Tables)
    (watches' bytes' text' : List ℕ) : Type 0 where
  pub step : Step
  pub answer : number ≡ number_of step.turn.answer
  pub turned : turn' ≡ step.next ∷ step.turn.count ∷ flag_of step.over ∷ []
  pub hands : head_in head' ≡ step.turn.head
  pub records : eight_records watches' ≡ step.turn.watches
  pub stepped : Stepped tape (get_or turn 0 0) (player (head_in head) t (eight_records watches) bytes) text step t' bytes' text'
