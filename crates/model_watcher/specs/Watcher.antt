-- A watcher of a desk's n or of the pair: reads the frames that the calls write, and applies the changes that are meant for it.
use Rattle.std.specs.Prelude.{ℕ, Bool, true, false, ◌&&◌, cond, List, [], ◌∷◌, eqb, length, take}
use Rattle.lists.specs.Lists.{any, insert, without}
use Rattle.head.specs.declared.Desk.{Desk}
use Rattle.head.specs.Desks.{desk_number, size_in, watch_of}
use Rattle.refusals.specs.Refusals.{granted}
use Rattle.frames.specs.declared.Message.{Message}
use Rattle.frames.specs.declared.Message.TheVariants.{Quote, Sized, Change, Pair, Bare, Position, Open, EndOfTape, Refused}
use Rattle.frame_kinds.specs.Kinds.{pair_leave_kind, pair_join_kind}
use Rattle.frames.specs.Frames.{messages_from}
use Rattle.model.specs.Changes.{leave_kind_of, join_kind_of}
use Rattle.model.specs.Shares.{of_desk}
use Rattle.model.specs.Reference.{Reference, skyline_of, paired, pair_of}
use Rattle.model.specs.Calls.{Call, Lending, Seen}

-- a watcher: of the list of n at a desk, or of the past list of the pair
pub data Follower : Type 0 where
  OfSize : Desk → ℕ → Follower
  OfPair : Follower

-- a list after a change of this kind at a position: it is taken out by a leave and put in by a join
unfoldable pub applied : ℕ → ℕ → ℕ → ℕ → List ℕ → List ℕ
applied leaves joins kind p held = cond (eqb kind leaves) (without p held) (cond (eqb kind joins) (insert p held) held)

-- the list that a watcher holds after a change of the list of m
unfoldable pub applied_change : Follower → ℕ → ℕ → ℕ → List ℕ → List ℕ
applied_change (OfSize desk n) k m p held =
    cond (eqb m n) (applied (leave_kind_of (desk_number desk)) (join_kind_of (desk_number desk)) k p held) held
applied_change OfPair k m p held = held

-- the list that a watcher holds after a change of the past list of the pair
unfoldable pub applied_position : Follower → ℕ → ℕ → List ℕ → List ℕ
applied_position (OfSize desk n) k p held = held
applied_position OfPair k p held = applied pair_leave_kind pair_join_kind k p held

-- the list that a watcher holds after a message
unfoldable pub applied_message : Follower → List ℕ → Message → List ℕ
applied_message f held (Quote k) = held
applied_message f held (Sized k m) = held
applied_message f held (Change k m p) = applied_change f k m p held
applied_message f held (Pair k n1 n2) = held
applied_message f held (Bare k) = held
applied_message f held (Position k p) = applied_position f k p held
applied_message f held (Open d N directions) = held
applied_message f held EndOfTape = held
applied_message f held (Refused k) = held

-- the list that a watcher holds after messages
unfoldable pub applied_all : Follower → List ℕ → List Message → List ℕ
applied_all f held [] = held
applied_all f held (m ∷ ms) = applied_all f (applied_message f held m) ms

-- what a watcher holds: nothing while its list is not watched, else a list
pub data Held : Type 0 where
  Nothing : Held
  Holding : List ℕ → Held

-- what is held after the frames that a call wrote
unfoldable pub reads : Follower → Seen → Held → Held
reads f seen Nothing = Nothing
reads f seen (Holding held) =
    let bytes = take seen.outcome.count seen.outputs.bytes in
    Holding (applied_all f held (messages_from (length bytes) bytes 0))

-- this watch is that of the watcher: of its desk and of its n
unfoldable pub sized_for : Follower → ℕ → Bool
sized_for (OfSize desk n) watch = of_desk desk watch && eqb (size_in watch) n
sized_for OfPair watch = false

-- the watch of the pair is that of the watcher
unfoldable pub paired_for : Follower → Bool
paired_for (OfSize desk n) = false
paired_for OfPair = true

-- what is held after a call: an accepted watch of the watcher's begins with the empty list, its accepted end or an accepted opening
-- ends it; nobody applies a preview
unfoldable pub watcher_step : Follower → Call → Seen → Held → Held
watcher_step f (Call.Open d N directions) seen held = granted seen.outcome.number Nothing held
watcher_step f (Call.Quote x) seen held = reads f seen held
watcher_step f (Call.Look m) seen held = held
watcher_step f (Call.Watch desk m) seen held =
    reads f seen (granted seen.outcome.number (cond (sized_for f (watch_of desk m)) (Holding []) held) held)
watcher_step f (Call.End desk m) seen held = granted seen.outcome.number (cond (sized_for f (watch_of desk m)) Nothing held) held
watcher_step f (Call.Past n1 n2) seen held = held
watcher_step f (Call.Pair n1 n2) seen held = reads f seen (granted seen.outcome.number (cond (paired_for f) (Holding []) held) held)
watcher_step f Call.Unpair seen held = granted seen.outcome.number (cond (paired_for f) Nothing held) held
watcher_step f Call.Due seen held = held
watcher_step f (Call.Preview x) seen held = held
watcher_step f (Call.Both x n) seen held = reads f seen held

-- what a watcher holds after a list of calls of which this was seen
unfoldable pub watcher : Follower → List Lending → List Seen → Held → Held
watcher f [] ss held = held
watcher f (c ∷ cs) [] held = held
watcher f (c ∷ cs) (s ∷ ss) held = watcher f cs ss (watcher_step f c.call s held)

-- the watcher's list is watched
unfoldable pub watched_for : Follower → Reference → Bool
watched_for (OfSize desk n) s = any (sized_for (OfSize desk n)) s.watched
watched_for OfPair s = paired s

-- the watcher's list by the reference model: the skyline of n, or the past list of the pair
unfoldable pub list_for : Follower → Reference → List ℕ
list_for (OfSize desk n) s = skyline_of s n
list_for OfPair s = pair_of s

-- what a watcher is to hold by the reference model: nothing while its list is not watched, else the list
unfoldable pub held_by : Follower → Reference → Held
held_by f s = cond (watched_for f s) (Holding (list_for f s)) Nothing
