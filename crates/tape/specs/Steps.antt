-- Frames played on lent tables, bytes and text: what the player hands back and what it leaves.
use Rattle.std.specs.Prelude.{◌≡◌, ℕ, Bool, true, false, List, length}
use Rattle.lists.specs.Lists.{laid}
use Rattle.refusals.specs.Refusals.{number_of}
use Rattle.model.specs.Rows.{Tables}
use Rattle.call_quoting.specs.Entered.{Slid}
use Rattle.tape_model.specs.Play.{Played, Player, book_play}
use Rattle.line_answers.specs.declared.Step.{Step}
use Rattle.tape.specs.declared.SlidStep.{SlidStep}

-- what playing frames that come to this hands back, and leaves of tables, bytes and text
pub record SteppedTo (one : Played Player) (before : List ℕ) (r : Step) (t' : Tables) (bytes' after : List ℕ) : Type 0 where
  pub answer : number_of r.turn.answer ≡ one.number
  pub over : r.over ≡ one.over
  pub next : r.next ≡ one.next
  pub count : r.turn.count ≡ length one.text
  pub head : r.turn.head ≡ one.state.world.head
  pub watches : r.turn.watches ≡ one.state.world.lent.watches
  pub lent : t' ≡ one.state.world.lent.tables
  pub bytes : bytes' ≡ one.state.outputs.bytes
  pub text : after ≡ laid one.text before

-- what playing the frame at a place hands back, and leaves of tables, bytes and text
abbrev pub Stepped : List ℕ → ℕ → Player → List ℕ → Step → Tables → List ℕ → List ℕ → Type 0
Stepped tape place k = SteppedTo (book_play tape place k)

-- the tables that frames leave, by the book model
abbrev pub tables_left : Played Player → Tables
tables_left one = one.state.world.lent.tables

-- what playing frames that come to this hands back, and leaves of bytes and text; the tables likewise
pub record StepMade (reachable : Bool) (one : Played Player) (before : List ℕ) (s : SlidStep) (t' : Tables) (bytes' after : List ℕ) : Type 0 where
  pub stepped : SteppedTo one before s.step (tables_left one) bytes' after
  pub moved : reachable ≡ false → t' ≡ tables_left one
  pub slides : reachable ≡ true → Slid s.step.turn.head (tables_left one) t' s.by
