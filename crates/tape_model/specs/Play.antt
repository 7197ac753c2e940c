-- Playing a tape, frame by frame, and its print: once for whatever makes the calls, then by the reference model and by the book model.
use Rattle.std.specs.Prelude.{ℕ, zero, suc, Bool, true, false, cond, List, [], ◌++◌, length}
use Rattle.refusals.specs.declared.Refusal.TheVariants.{OutOfPlace}
use Rattle.refusals.specs.Refusals.{number}
use Rattle.head.specs.Heads.{settings_hold}
use Rattle.frames.specs.Frames.{read_at}
use Rattle.model.specs.Rows.{Tables}
use Rattle.model.specs.Reference.{Reference, Lengths, reference_step}
use Rattle.model.specs.Calls.{Call, Outputs, World, book_step}
use Rattle.model.specs.Promises.{world}
use Rattle.tape_asking.specs.Asking.{Asked, finished, unread, misplaced, request, asked}
use Rattle.tape_model.specs.Print.{Answered, refusal_line, text_of}

-- ---- frame by frame

-- after one frame: its number (0: accepted, or the end of the tape), its lines, who makes the calls, the place behind it, and whether the
-- tape is over
pub record Played (S : Type 0) : Type 0 where
  pub number : ℕ
  pub text : List ℕ
  pub state : S
  pub next : ℕ
  pub over : Bool

module _ {S : Type 0} (begun : S → Bool) (make : Call → S → Answered × S) where
  -- what stands at a place, played: the end prints nothing, what cannot be read its number, and both end the tape (01: after 1 or 2 it
  -- stops); a frame out of place prints its number, a call its lines, and the tape goes on
  unfoldable pub play_asked : Asked → ℕ → S → Played S
  play_asked finished next s = record { number = 0; text = []; state = s; next = next; over = true }
  play_asked (unread k) next s = record { number = k; text = refusal_line k; state = s; next = next; over = true }
  play_asked misplaced next s = record { number = number OutOfPlace; text = refusal_line (number OutOfPlace); state = s; next = next; over = false }
  play_asked (request c) next s =
      let made = make c s in
      record { number = made.0.outcome.number; text = text_of c made.0; state = made.1; next = next; over = false }

  -- one frame of a tape, at a place
  unfoldable pub play_at : List ℕ → ℕ → S → Played S
  play_at tape place s = let read = read_at tape place in play_asked (asked (begun s) read.says read.columns) read.next s

  -- the lines of the frames from a place on, of at most this many
  unfoldable pub print_from : ℕ → List ℕ → ℕ → S → List ℕ
  print_from zero tape place s = []
  print_from (suc frames) tape place s =
      let one = play_at tape place s in
      one.text ++ cond one.over [] (print_from frames tape one.next one.state)

  -- the print of a whole tape: it has no more frames than bytes, and then its end
  unfoldable pub print : List ℕ → S → List ℕ
  print tape s = print_from (suc (length tape)) tape 0 s

-- ---- by the reference model

-- a call made by the reference model, which is lent these lengths
unfoldable pub reference_make : Lengths → Call → Reference → Answered × Reference
reference_make lengths c s =
    let told = reference_step c lengths s in (
      record {
        outcome = record { number = told.number; head = told.head; count = told.count };
        outputs = record { bytes = told.bytes; cells = told.cells };
      },
      told.next,
    )

-- ---- by the book model

-- a book that plays a tape: its head, tables and watches, and what its outputs for changes and for positions hold
pub record Player : Type 0 where
  pub world : World
  pub outputs : Outputs

-- the player with other tables
abbrev pub on : Tables → Player → Player
on u k = record { world = world k.world.head u k.world.lent.watches; outputs = k.outputs }

-- a call made by the book model; each call is lent the same cells for positions
unfoldable pub book_make : Call → Player → Answered × Player
book_make c k =
    let made = book_step c k.outputs k.world in
    let seen = made.0 in (
      record { outcome = seen.outcome; outputs = seen.outputs },
      record { world = made.1; outputs = record { bytes = seen.outputs.bytes; cells = k.outputs.cells } },
    )

-- an opening was accepted
unfoldable pub begun : Player → Bool
begun k = let h = k.world.head in settings_hold h.dimensions h.capacity h.directions

-- one frame of a tape, at a place
abbrev pub book_play : List ℕ → ℕ → Player → Played Player
book_play = play_at begun book_make
