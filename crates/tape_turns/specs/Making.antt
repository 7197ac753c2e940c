-- What a frame wants of the player comes to, and what making it leaves.
use Rattle.std.specs.Prelude.{◌≡◌, ℕ, Bool, true, false, List, [], take, Option, Some, None, Result, Ok, Err}
use Rattle.refusals.specs.declared.Refusal.{Refusal}
use Rattle.refusals.specs.declared.Refusal.TheVariants.{OutOfPlace}
use Rattle.refusals.specs.Refusals.{number}
use Rattle.model.specs.Rows.{Tables}
use Rattle.model.specs.Calls.{Call}
use Rattle.call_quoting.specs.Entered.{Slid}
use Rattle.tape_asking.specs.declared.Wanted.{Wanted}
use Rattle.tape_asking.specs.declared.Wanted.TheVariants.{Quote, Look, Past, Watch, End, Pair, Unpair, Open, Misplaced}
use Rattle.tape_model.specs.Play.{Player}
use Rattle.line_answers.specs.Turns.{Effect, made, refused_with, Turned}
use Rattle.tape_turns.specs.declared.TurnMade.{TurnMade}

-- nothing is done, and nothing printed
abbrev pub nothing : Player → Effect
nothing k = record { number = 0; text = []; state = k }

-- what a frame wants comes to this
unfoldable pub frame_taken : Wanted → List ℕ → Player → Effect
frame_taken (Quote n) columns k = made (Call.Quote (take n columns)) k
frame_taken (Look n) columns k = made (Call.Look n) k
frame_taken (Past n1 n2) columns k = made (Call.Past n1 n2) k
frame_taken (Watch desk n) columns k = made (Call.Watch desk n) k
frame_taken (End desk n) columns k = made (Call.End desk n) k
frame_taken (Pair n1 n2) columns k = made (Call.Pair n1 n2) k
frame_taken Unpair columns k = made Call.Unpair k
frame_taken (Open d N directions) columns k = made (Call.Open d N directions) k
frame_taken Misplaced columns k = refused_with (number OutOfPlace) k

-- what stands at a place comes to this: a frame's call, nothing at the end, or what cannot be read
unfoldable pub taken : Result (Option Wanted) Refusal → List ℕ → Player → Effect
taken (Ok (Some w)) columns k = frame_taken w columns k
taken (Ok None) columns k = nothing k
taken (Err refusal) columns k = refused_with (number refusal) k

-- the tables that this leaves, by the book model
abbrev pub tables_of : Effect → Tables
tables_of one = one.state.world.lent.tables

-- what is handed back after this, and left of bytes and text; the tables are those of the book model where nothing is known of them, and
-- a reachable book stands in tables t' so many places on
pub record Makes (reachable : Bool) (one : Effect) (before : List ℕ) (r : TurnMade) (t' : Tables) (bytes' after : List ℕ) : Type 0 where
  pub turned : Turned one before r.turn (tables_of one) bytes' after
  pub moved : reachable ≡ false → t' ≡ tables_of one
  pub slides : reachable ≡ true → Slid r.turn.head (tables_of one) t' r.by
