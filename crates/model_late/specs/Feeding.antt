-- What calls feed a book: the quotes that were accepted since its last accepted opening; and the changes that a watcher reads of a call.
use Rattle.std.specs.Prelude.{ℕ, cond, List, [], ◌∷◌, ◌++◌, map, eqb, length, take}
use Rattle.lists.specs.Lists.{flat}
use Rattle.refusals.specs.Refusals.{granted}
use Rattle.head.specs.Desks.{desk_number}
use Rattle.frames.specs.declared.Message.{Message}
use Rattle.frames.specs.declared.Message.TheVariants as Message
use Rattle.frame_kinds.specs.Kinds.{pair_leave_kind, pair_join_kind}
use Rattle.frames.specs.Frames.{messages_from}
use Rattle.model.specs.Changes.{leave_kind_of, join_kind_of}
use Rattle.model.specs.Calls.{Call, Open, Quote, Look, Watch, End, Past, Pair, Unpair, Due, Preview, Both, Lending, Seen}
use Rattle.model_watcher.specs.Watcher.{Follower, OfSize, OfPair}
use Rattle.model_claims.specs.Claims.{is_opening}
use Rattle.model_late.specs.Shift.{ListChange, Leaves, Joins}

-- ---- the quotes that a book has taken

-- the quote that a call puts behind the others if it is accepted; none of any call but a quote, by itself or with a look behind it, in one
unfoldable pub offers : Call → List (List ℕ)
offers (Open d N directions) = []
offers (Quote x) = x ∷ []
offers (Look n) = []
offers (Watch desk n) = []
offers (End desk n) = []
offers (Past n1 n2) = []
offers (Pair n1 n2) = []
offers Unpair = []
offers Due = []
offers (Preview x) = []
offers (Both x n) = x ∷ []

-- the quotes that stand after a call with this answer: an accepted opening drops those before it, and what an accepted call offers goes behind
unfoldable pub quotes_after : Call → ℕ → List (List ℕ) → List (List ℕ)
quotes_after c number quotes = granted number (cond (is_opening c) [] quotes ++ offers c) quotes

-- the quotes that stand after calls of which this was seen, if these stood before
unfoldable pub quotes_taken : List Lending → List Seen → List (List ℕ) → List (List ℕ)
quotes_taken [] ss quotes = quotes
quotes_taken (c ∷ cs) [] quotes = quotes
quotes_taken (c ∷ cs) (s ∷ ss) quotes = quotes_taken cs ss (quotes_after c.call s.outcome.number quotes)

-- ---- the changes that a watcher reads

-- a change by its kind: a leave, a join, or none of the two
unfoldable pub change_by : ℕ → ℕ → ℕ → ℕ → List ListChange
change_by leaves joins kind p = cond (eqb kind leaves) (Leaves p ∷ []) (cond (eqb kind joins) (Joins p ∷ []) [])

-- what a change of the list of n is to a watcher: a change of its list, or nothing
unfoldable pub sized_change : Follower → ℕ → ℕ → ℕ → List ListChange
sized_change (OfSize desk n) kind m p = cond (eqb m n) (change_by (leave_kind_of (desk_number desk)) (join_kind_of (desk_number desk)) kind p) []
sized_change OfPair kind m p = []

-- what a change of the past list of the pair is to a watcher
unfoldable pub paired_change : Follower → ℕ → ℕ → List ListChange
paired_change (OfSize desk n) kind p = []
paired_change OfPair kind p = change_by pair_leave_kind pair_join_kind kind p

-- what a message is to a watcher
unfoldable pub change_for : Follower → Message → List ListChange
change_for f (Message.Quote k) = []
change_for f (Message.Sized k n) = []
change_for f (Message.Change k n p) = sized_change f k n p
change_for f (Message.Pair k n1 n2) = []
change_for f (Message.Bare k) = []
change_for f (Message.Position k p) = paired_change f k p
change_for f (Message.Open d N directions) = []
change_for f Message.EndOfTape = []
change_for f (Message.Refused k) = []

-- the changes of a watcher's list among messages, in their order
unfoldable pub changes_among : Follower → List Message → List ListChange
changes_among f ms = flat (map (change_for f) ms)

-- the changes of a watcher's list among the frames that a call wrote, in their order
unfoldable pub changes_for : Follower → Seen → List ListChange
changes_for f seen =
    let bytes = take seen.outcome.count seen.outputs.bytes in
    changes_among f (messages_from (length bytes) bytes 0)
