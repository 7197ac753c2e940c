-- What a frame asks for, in its place on a tape.
use Rattle.std.specs.Prelude.{ℕ, Bool, true, false, not, cond, List, eqb, take}
use Rattle.head.specs.declared.Desk.TheVariants.{One, Two}
use Rattle.refusals.specs.Refusals.{number}
use Rattle.frames.specs.declared.Message.{Message}
use Rattle.frame_kinds.specs.Kinds.{look_kind, watch_kind, unwatch_kind, watch_two_kind, unwatch_two_kind, pair_kind, unpair_kind, past_kind}
use Rattle.frames.specs.Frames.{Saying, told, ended, refused}
use Rattle.model.specs.Calls.{Call}

-- what stands at a place of a tape, for a player: its end, something that cannot be read, a frame out of place (01: 7), or a call
pub data Asked : Type 0 where
  finished : Asked
  unread : ℕ → Asked
  misplaced : Asked
  request : Call → Asked

-- what a frame with n asks for, by its kind; no other kind has a place on a tape
unfoldable pub sized_asks : ℕ → ℕ → Asked
sized_asks kind n =
    cond (eqb kind look_kind) (request (Call.Look n))
    (cond (eqb kind watch_kind) (request (Call.Watch One n))
    (cond (eqb kind unwatch_kind) (request (Call.End One n))
    (cond (eqb kind watch_two_kind) (request (Call.Watch Two n))
    (cond (eqb kind unwatch_two_kind) (request (Call.End Two n)) misplaced))))

-- what a frame with n1 and n2 asks for, by its kind; no other kind has a place on a tape
unfoldable pub pair_asks : ℕ → ℕ → ℕ → Asked
pair_asks kind n1 n2 = cond (eqb kind past_kind) (request (Call.Past n1 n2)) (cond (eqb kind pair_kind) (request (Call.Pair n1 n2)) misplaced)

-- what a frame with no body asks for, by its kind; no other kind has a place on a tape
unfoldable pub bare_asks : ℕ → Asked
bare_asks kind = cond (eqb kind unpair_kind) (request Call.Unpair) misplaced

-- what a message asks for; a change has no place on a tape
unfoldable pub asks : Message → List ℕ → Asked
asks (Message.Quote k) columns = request (Call.Quote (take k columns))
asks (Message.Sized kind n) columns = sized_asks kind n
asks (Message.Change kind n p) columns = misplaced
asks (Message.Pair kind n1 n2) columns = pair_asks kind n1 n2
asks (Message.Bare kind) columns = bare_asks kind
asks (Message.Position kind p) columns = misplaced
asks (Message.Open d N directions) columns = request (Call.Open d N directions)
asks Message.EndOfTape columns = finished
asks (Message.Refused k) columns = unread (number k)

-- a call is in its place, before or after an accepted opening: an opening before one, any other call after one
unfoldable pub in_place : Bool → Call → Bool
in_place begun (Call.Open d N directions) = not begun
in_place begun (Call.Quote x) = begun
in_place begun (Call.Look n) = begun
in_place begun (Call.Watch desk n) = begun
in_place begun (Call.End desk n) = begun
in_place begun (Call.Past n1 n2) = begun
in_place begun (Call.Pair n1 n2) = begun
in_place begun Call.Unpair = begun
in_place begun Call.Due = begun
in_place begun (Call.Preview x) = begun
in_place begun (Call.Both x n) = begun

-- what is asked for, in its place
unfoldable pub placed : Bool → Asked → Asked
placed begun finished = finished
placed begun (unread k) = unread k
placed begun misplaced = misplaced
placed begun (request c) = cond (in_place begun c) (request c) misplaced

-- what was read asks for, before or after an accepted opening
unfoldable pub asked : Bool → Saying → List ℕ → Asked
asked begun (told m) columns = placed begun (asks m columns)
asked begun ended columns = finished
asked begun (refused k) columns = unread k

-- some frame asks for this call: for any but what is due, a preview, and a quote and look in one
unfoldable pub playable : Call → Bool
playable (Call.Open d N directions) = true
playable (Call.Quote x) = true
playable (Call.Look n) = true
playable (Call.Watch desk n) = true
playable (Call.End desk n) = true
playable (Call.Past n1 n2) = true
playable (Call.Pair n1 n2) = true
playable Call.Unpair = true
playable Call.Due = false
playable (Call.Preview x) = false
playable (Call.Both x n) = false
