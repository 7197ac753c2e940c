-- What is wanted of the player, as it is asked for, and whether it is out of place.
use Rattle.std.specs.Prelude.{ℕ, Bool, false, not, List, take, Option, Some, None, Result, Ok, Err}
use Rattle.refusals.specs.declared.Refusal.{Refusal}
use Rattle.refusals.specs.Refusals.{number}
use Rattle.model.specs.Calls.{Call}
use Rattle.tape_asking.specs.declared.Wanted.{Wanted}
use Rattle.tape_asking.specs.declared.Wanted.TheVariants.{Quote, Look, Past, Watch, End, Pair, Unpair, Open, Misplaced}
use Rattle.tape_asking.specs.Asking.{Asked, finished, unread, misplaced, request}

-- what a frame wants, as it is asked for: a quote with its columns
unfoldable pub frame_wants : Wanted → List ℕ → Asked
frame_wants (Quote k) columns = request (Call.Quote (take k columns))
frame_wants (Look n) columns = request (Call.Look n)
frame_wants (Past n1 n2) columns = request (Call.Past n1 n2)
frame_wants (Watch desk n) columns = request (Call.Watch desk n)
frame_wants (End desk n) columns = request (Call.End desk n)
frame_wants (Pair n1 n2) columns = request (Call.Pair n1 n2)
frame_wants Unpair columns = request Call.Unpair
frame_wants (Open d N directions) columns = request (Call.Open d N directions)
frame_wants Misplaced columns = misplaced

-- what is wanted, as it is asked for: a frame's call, nothing at the end of the tape, or what cannot be read
unfoldable pub wants : Result (Option Wanted) Refusal → List ℕ → Asked
wants (Ok (Some w)) columns = frame_wants w columns
wants (Ok None) columns = finished
wants (Err k) columns = unread (number k)

-- what is wanted is out of place, before or after an accepted opening (01: 7)
unfoldable pub out_of_place : Bool → Wanted → Bool
out_of_place begun (Quote k) = not begun
out_of_place begun (Look n) = not begun
out_of_place begun (Past n1 n2) = not begun
out_of_place begun (Watch desk n) = not begun
out_of_place begun (End desk n) = not begun
out_of_place begun (Pair n1 n2) = not begun
out_of_place begun Unpair = not begun
out_of_place begun (Open d N directions) = begun
out_of_place begun Misplaced = false
