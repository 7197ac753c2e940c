-- The join of two venues' tapes: which stamped quote comes next, the part that holds it, and where both tapes stand after it.
use Rattle.std.specs.Prelude.{◌≡◌, ℕ, ◌-◌, cond, List, [], ltb, take, drop, Option, Some, None, Result, Ok, Err}
use Rattle.std.specs.Borrow.{Bor}
use Rattle.refusals.specs.declared.Refusal.{Refusal}
use Rattle.refusals.specs.Refusals.{number}
use Rattle.venue_tapes.specs.VenueTapes.{Ahead, pair, done, refuses, next}
use Rattle.venue_join.specs.declared.Venue.{Venue}
use Rattle.venue_join.specs.declared.Step.{Step}

-- what a join answers: a pair of the first tape, a pair of the second, 'end', or the number of a refusal
pub data Choice : Type 0 where
  of_first : Choice
  of_second : Choice
  at_ends : Choice
  refused : ℕ → Choice

-- the first tape's refusal, else the second's; 'end' where both are done; else the first's pair, if the second is done or its stamp is
-- not below, else the second's
unfoldable pub chosen : Ahead → Ahead → Choice
chosen (refuses k) other = refused k
chosen done (refuses k) = refused k
chosen done done = at_ends
chosen done (pair ms behind) = of_second
chosen (pair ms behind) (refuses k) = refused k
chosen (pair ms behind) done = of_first
chosen (pair ms behind) (pair other place) = cond (ltb other ms) of_second of_first

-- a tape's place and last stamp
abbrev pub venue : ℕ → ℕ → Venue
venue place last = record { place = place; last = last }

-- a tape's place and last stamp, moved past its pair
unfoldable pub moved : Venue → Ahead → Venue
moved v (pair ms behind) = venue behind ms
moved v done = v
moved v (refuses k) = v

-- what a join answers, and each tape's place and last stamp after it
pub record Joint : Type 0 where
  pub choice : Choice
  pub first : Venue
  pub second : Venue

-- the tape whose pair is chosen is moved, the other stays; 'end' and a refusal move none
unfoldable pub joint_by : Choice → Ahead → Ahead → Venue → Venue → Joint
joint_by of_first a b v w = record { choice = of_first; first = moved v a; second = w }
joint_by of_second a b v w = record { choice = of_second; first = v; second = moved w b }
joint_by at_ends a b v w = record { choice = at_ends; first = v; second = w }
joint_by (refused k) a b v w = record { choice = refused k; first = v; second = w }

-- one join, by what both tapes have next
unfoldable pub joint_of : Ahead → Ahead → Venue → Venue → Joint
joint_of a b v w = joint_by (chosen a b) a b v w

-- one join of two tapes, each at its place, with its last stamp
unfoldable pub join_at : List ℕ → List ℕ → Venue → Venue → Joint
join_at first second v w = joint_of (next first v.place v.last) (next second w.place w.last) v w

-- the part of a tape that was passed: both frames of the pair
unfoldable pub passed : List ℕ → Venue → Venue → List ℕ
passed tape before after = take (after.place - before.place) (drop before.place tape)

-- the part that is handed back: that of the tape whose pair is chosen, or an empty one
unfoldable pub part_by : Choice → List ℕ → List ℕ → Venue → Venue → Joint → List ℕ
part_by of_first first second v w j = passed first v j.first
part_by of_second first second v w j = passed second w j.second
part_by at_ends first second v w j = []
part_by (refused k) first second v w j = []

-- the part that a join hands back
unfoldable pub part_at : List ℕ → List ℕ → Venue → Venue → List ℕ
part_at first second v w = let j = join_at first second v w in part_by j.choice first second v w j

-- the number of 'end', to which 02 gives none: as 7/13 does, above those of the refusals
abbrev pub end_number : ℕ
end_number = 100

-- the number of an answer: 0 for a pair, that of 'end', or the refusal's
unfoldable pub answer_of : Choice → ℕ
answer_of of_first = 0
answer_of of_second = 0
answer_of at_ends = end_number
answer_of (refused k) = k

-- what a step makes of two tapes' places and last stamps
unfoldable pub joint_in : Venue → Venue → Result (Option Step) Refusal → Joint
joint_in v w (Ok (Some (Step.First behind))) = record { choice = of_first; first = behind; second = w }
joint_in v w (Ok (Some (Step.Second behind))) = record { choice = of_second; first = v; second = behind }
joint_in v w (Ok None) = record { choice = at_ends; first = v; second = w }
joint_in v w (Err k) = record { choice = refused (number k); first = v; second = w }

-- the part that is handed back: an empty one at both ends and by a refusal
abbrev pub part_in : Result (Option (Bor (List ℕ))) Refusal → List ℕ
part_in (Ok (Some part)) = part.now
part_in (Ok None) = []
part_in (Err k) = []

-- what is answered, by 02's numbers: 0 for a pair, that of 'end', or the refusal's
abbrev pub answer_in : Result (Option (Bor (List ℕ))) Refusal → ℕ
answer_in (Ok (Some part)) = 0
answer_in (Ok None) = end_number
answer_in (Err k) = number k

-- what the join promises: the part, the answer's number, and both tapes' places and last stamps after it
pub record Joined (first second : List ℕ) (v w : Venue) (part : List ℕ) (answer : ℕ) (v' w' : Venue) : Type 0 where
  pub handed : part ≡ part_at first second v w
  pub answered : answer ≡ answer_of (join_at first second v w).choice
  pub first_left : v' ≡ (join_at first second v w).first
  pub second_left : w' ≡ (join_at first second v w).second
