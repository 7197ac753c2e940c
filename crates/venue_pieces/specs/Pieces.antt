-- The join of what has come of two tapes: each pair's bytes behind those that are gathered, while what is judged of both tapes has come.
use Rattle.std.specs.Prelude.{◌≡◌, ℕ, ◌+◌, ◌≤◌, min, Bool, true, false, ◌&&◌, ◌||◌, List, [], ◌++◌, leb, eqb, length, drop, Option, Some, None, Result, Ok, Err}
use Rattle.refusals.specs.declared.Refusal.{Refusal}
use Rattle.refusals.specs.Refusals.{number}
use Rattle.octets.specs.Placed.{placed}
use Rattle.venue_join.specs.declared.Venue.{Venue}
use Rattle.venue_join.specs.Join.{venue, Joint, join_at, part_at, end_number, answer_of}
use Rattle.venue_pieces.specs.declared.Joiner.{Joiner}
use Rattle.venue_pieces.specs.declared.Written.{Written}

-- what is judged of a tape has come: thirty bytes from its place on, as many as the longest pair has, or the tape has ended
unfoldable pub enough : Bool → ℕ → ℕ → Bool
enough ended place long = ended || leb (place + 30) long

-- what is written of a pair: both frames, or the quote's alone
unfoldable pub output_of : Written → List ℕ → List ℕ
output_of Written.Pair part = part
output_of Written.Quote part = drop 5 part

-- how many bytes at the front of a part are not written: those of the stamp, where only quotes are
unfoldable pub left_out : Written → ℕ → ℕ
left_out Written.Pair long = 0
left_out Written.Quote long = min 5 long

-- the number of how a join came out: 0 while every answer was a pair, that of 'end', or the refusal's
abbrev pub number_out : Option (Result (Unit {0}) Refusal) → ℕ
number_out None = 0
number_out (Some (Ok done)) = end_number
number_out (Some (Err k)) = number k

-- the number of a joiner's last answer
abbrev pub answer : Joiner → ℕ
answer s = number_out s.outcome

-- one join: the answer's number, where both tapes stand after it, and what is written of the pair behind the bytes that are gathered
pub record JoinedOne (first second : List ℕ) (written : Written) (s s' : Joiner) (out out' : List ℕ) : Type 0 where
  pub answered : answer s' ≡ answer_of (join_at first second s.one s.two).choice
  pub first_left : s'.one ≡ (join_at first second s.one s.two).first
  pub second_left : s'.two ≡ (join_at first second s.one s.two).second
  pub gathered : out' ≡ placed (output_of written (part_at first second s.one s.two)) s.used out
  pub counted : s'.used ≡ s.used + length (output_of written (part_at first second s.one s.two))

module _ (first second : List ℕ) (ended ended' : Bool) where
  -- another join is made: no answer but pairs so far, room for the longest pair, and what is judged of both tapes has come
  unfoldable pub goes_on : Joiner → ℕ → Bool
  goes_on s room = eqb (answer s) 0 && (leb (s.used + 30) room && (enough ended s.one.place (length first) && enough ended' s.two.place (length second)))

module _ (first second : List ℕ) (ended ended' : Bool) (written : Written) where
  -- joins made one behind the other, each on what the one before left
  pub data Joins : Joiner → List ℕ → Joiner → List ℕ → Type 0 where
    none : {s : Joiner} {out : List ℕ} → Joins s out s out
    more : {s s' s'' : Joiner} {out out' out'' : List ℕ} → Joins s out s' out' → goes_on first second ended ended' s' (length out') ≡ true
        → JoinedOne first second written s' s'' out' out''
        → Joins s out s'' out''

  -- as many joins as can be made
  pub record PieceJoined (s : Joiner) (out : List ℕ) (s' : Joiner) (out' : List ℕ) : Type 0 where
    pub made : Joins s out s' out'
    pub all : goes_on first second ended ended' s' (length out') ≡ false
    pub within : s'.used ≤ length out'
    pub long : length out' ≡ length out
    pub first_within : s.one.place ≤ length first → s'.one.place ≤ length first
    pub second_within : s.two.place ≤ length second → s'.two.place ≤ length second

-- a piece of a tape has come: so many bytes before it were dropped, and where the tape has ended nothing more comes behind it
pub record Came (tape : List ℕ) (dropped : ℕ) (piece : List ℕ) (ended : Bool) : Type 0 where
  pub before : List ℕ
  pub rest : List ℕ
  pub whole : tape ≡ before ++ (piece ++ rest)
  pub count : length before ≡ dropped
  pub over : ended ≡ true → rest ≡ []

-- a place of a piece as one of the tape
abbrev pub onward : ℕ → Venue → Venue
onward n v = venue (n + v.place) v.last

-- a join of two pieces as one of the tapes: the same answer, and both places with what was dropped before them
abbrev pub joint_onward : ℕ → ℕ → Joint → Joint
joint_onward n m j = record { choice = j.choice; first = onward n j.first; second = onward m j.second }
