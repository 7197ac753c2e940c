-- Two desks on one book (02, 6/13): which calls concern a desk, with the pair or without it, what it sees of them, and what two runs show it.
use Rattle.std.specs.Prelude.{◌≡◌, ℕ, Bool, true, false, ◌&&◌, ◌||◌, cond, List, [], ◌∷◌, ◌++◌, eqb, length, take}
use Rattle.lists.specs.Lists.{filter}
use Rattle.head.specs.declared.Desk.{Desk}
use Rattle.refusals.specs.declared.Refusal.TheVariants.{NoFreeRecord}
use Rattle.refusals.specs.Refusals.{number}
use Rattle.head.specs.Desks.{desk_number}
use Rattle.frames.specs.declared.Message.{Message}
use Rattle.frames.specs.declared.Message.TheVariants as Message
use Rattle.frame_kinds.specs.Kinds.{pair_leave_kind, pair_join_kind}
use Rattle.frames.specs.Frames.{messages_from}
use Rattle.model.specs.Changes.{leave_kind_of, join_kind_of}
use Rattle.model.specs.Reference.{Lengths}
use Rattle.model.specs.Calls.{Call, Outputs, Lending, Lent, Seen, lengths_of}

-- whom a statement on isolation is about: a desk with its watches, and the watched pair too where it is counted among what is the desk's
-- own (02: the pair belongs to desk one)
pub record Concern : Type 0 where
  pub desk : Desk
  pub pair : Bool

-- the desks are one
unfoldable pub same_desk : Desk → Desk → Bool
same_desk one other = eqb (desk_number one) (desk_number other)

-- a call with this answer is of this concern: openings, quotes, the desk's own watches and their ends, and the pair and its end where it is
-- counted in; a quote and look in one if it was accepted (02, 8/13: the quote of a refused one is no quote here)
unfoldable pub concerns : Concern → Call → ℕ → Bool
concerns concern (Call.Open d N directions) a = true
concerns concern (Call.Quote x) a = true
concerns concern (Call.Look n) a = false
concerns concern (Call.Watch other n) a = same_desk concern.desk other
concerns concern (Call.End other n) a = same_desk concern.desk other
concerns concern (Call.Past n1 n2) a = false
concerns concern (Call.Pair n1 n2) a = concern.pair
concerns concern Call.Unpair a = concern.pair
concerns concern Call.Due a = false
concerns concern (Call.Preview x) a = false
concerns concern (Call.Both x n) a = eqb a 0

-- a call as a desk hears of it: a quote and look in one as its quote, any other as itself
unfoldable pub heard_as : Call → Call
heard_as (Call.Open d N directions) = Call.Open d N directions
heard_as (Call.Quote x) = Call.Quote x
heard_as (Call.Look n) = Call.Look n
heard_as (Call.Watch desk n) = Call.Watch desk n
heard_as (Call.End desk n) = Call.End desk n
heard_as (Call.Past n1 n2) = Call.Past n1 n2
heard_as (Call.Pair n1 n2) = Call.Pair n1 n2
heard_as Call.Unpair = Call.Unpair
heard_as Call.Due = Call.Due
heard_as (Call.Preview x) = Call.Preview x
heard_as (Call.Both x n) = Call.Quote x

-- a message is a change of its own: a leave or a join of the desk's watches, and of the pair where it is counted in
unfoldable pub is_change_of : Concern → Message → Bool
is_change_of concern (Message.Quote k) = false
is_change_of concern (Message.Sized k n) = false
is_change_of concern (Message.Change k n p) = eqb k (leave_kind_of (desk_number concern.desk)) || eqb k (join_kind_of (desk_number concern.desk))
is_change_of concern (Message.Pair k n1 n2) = false
is_change_of concern (Message.Bare k) = false
is_change_of concern (Message.Position k p) = concern.pair && (eqb k pair_leave_kind || eqb k pair_join_kind)
is_change_of concern (Message.Open d N directions) = false
is_change_of concern Message.EndOfTape = false
is_change_of concern (Message.Refused k) = false

-- a call is lent an output for frames: a quote, by itself or with a look behind it, the setting of a watch or of the pair, a preview
unfoldable pub writes_frames : Call → Bool
writes_frames (Call.Open d N directions) = false
writes_frames (Call.Quote x) = true
writes_frames (Call.Look n) = false
writes_frames (Call.Watch desk n) = true
writes_frames (Call.End desk n) = false
writes_frames (Call.Past n1 n2) = false
writes_frames (Call.Pair n1 n2) = true
writes_frames Call.Unpair = false
writes_frames Call.Due = false
writes_frames (Call.Preview x) = true
writes_frames (Call.Both x n) = true

-- a call is a preview
unfoldable pub is_preview : Call → Bool
is_preview (Call.Open d N directions) = false
is_preview (Call.Quote x) = false
is_preview (Call.Look n) = false
is_preview (Call.Watch desk n) = false
is_preview (Call.End desk n) = false
is_preview (Call.Past n1 n2) = false
is_preview (Call.Pair n1 n2) = false
is_preview Call.Unpair = false
is_preview Call.Due = false
is_preview (Call.Preview x) = true
is_preview (Call.Both x n) = false

-- the bytes of the frames that a call wrote
unfoldable pub wrote : Call → Seen → List ℕ
wrote c seen = cond (writes_frames c) (take seen.outcome.count seen.outputs.bytes) []

-- a concern's changes among the frames that a call wrote
unfoldable pub changes_of : Concern → Call → Seen → List Message
changes_of concern c seen = let bytes = wrote c seen in filter (is_change_of concern) (messages_from (length bytes) bytes 0)

-- what a concern sees of a call: the answer, and its changes among the frames that the call wrote
pub record View : Type 0 where
  pub number : ℕ
  pub changes : List Message

-- what a concern sees of a call that left this to be seen
unfoldable pub view_of : Concern → Call → Seen → View
view_of concern c seen = record { number = seen.outcome.number; changes = changes_of concern c seen }

module _ {A : Type 0} (concern : Concern) (of : Lending → Seen → A) where
  -- something of each call of the concern, by what was seen of it
  unfoldable pub of_concerning : List Lending → List Seen → List A
  of_concerning [] ss = []
  of_concerning (c ∷ cs) [] = []
  of_concerning (c ∷ cs) (s ∷ ss) = cond (concerns concern c.call s.outcome.number) (of c s ∷ of_concerning cs ss) (of_concerning cs ss)

-- what a concern sees of its calls
unfoldable pub views : Concern → List Lending → List Seen → List View
views concern = of_concerning concern (λ c s. view_of concern c.call s)

-- which of the calls of a concern got 9
unfoldable pub nines : Concern → List Lending → List Seen → List Bool
nines concern = of_concerning concern (λ c s. eqb s.outcome.number (number NoFreeRecord))

-- a concern's changes that a call issues: those among the frames that it wrote, and none of a preview (02: previews left out)
unfoldable pub issued : Concern → Call → Seen → List Message
issued concern c seen = cond (is_preview c) [] (changes_of concern c seen)

-- a concern's changes among all that the calls of a list wrote, previews left out
unfoldable pub changes_in : Concern → List Lending → List Seen → List Message
changes_in concern [] ss = []
changes_in concern (c ∷ cs) [] = []
changes_in concern (c ∷ cs) (s ∷ ss) = issued concern c.call s ++ changes_in concern cs ss

-- a call as a desk hears of it, with the length of its output for frames, whatever that held when it was lent
pub record Asking : Type 0 where
  pub call : Call
  pub bytes : ℕ

-- what a desk hears of a call
unfoldable pub asked : Lending → Asking
asked c = record { call = heard_as c.call; bytes = length c.outputs.bytes }

-- what a concern hears of its calls: not what their outputs held, nor what they were lent for positions
unfoldable pub concerning : Concern → List Lending → List Seen → List Asking
concerning concern = of_concerning concern (λ c s. asked c)

-- how long everything lent is
unfoldable pub lent_lengths : Lent → Lengths
lent_lengths l = lengths_of l (record { bytes = []; cells = [] })

-- two runs agree in a concern: as much was lent, the same calls of it were made as it hears of them, and the same of them got 9
pub record SameConcern (concern : Concern) (cs cs' : List Lending) (l l' : Lent) (ss ss' : List Seen) : Type 0 where
  pub lengths : lent_lengths l ≡ lent_lengths l'
  pub calls : concerning concern cs ss ≡ concerning concern cs' ss'
  pub refused : nines concern cs ss ≡ nines concern cs' ss'

-- two runs show a concern the same: answers and changes of its calls, and its changes among all that was written
pub record SameShown (concern : Concern) (cs cs' : List Lending) (ss ss' : List Seen) : Type 0 where
  pub viewed : views concern cs ss ≡ views concern cs' ss'
  pub written : changes_in concern cs ss ≡ changes_in concern cs' ss'

-- a call says nothing to a concern: no frame that it wrote is a change of its own, and where it is lent no output for frames those bytes stay
pub record Silent (concern : Concern) (c : Call) (o : Outputs) (seen : Seen) : Type 0 where
  pub none : changes_of concern c seen ≡ []
  pub left : writes_frames c ≡ false → seen.outputs.bytes ≡ o.bytes
