-- Runs of the join: calls that were made, each on what the one before left, until one hands back no pair.
use Rattle.std.specs.Prelude.{◌≡◌, ℕ, ◌+◌, ◌-◌, ◌*◌, ◌≤◌, ◌<◌, List, [], ◌∷◌, map, length, get_or}
use Rattle.venue_join.specs.declared.Venue.{Venue}
use Rattle.venue_join.specs.Join.{venue, end_number, Joined}
use Rattle.venue_claims.specs.Merging.{StampedQuote, frames_of, Whole, merge, Interleaved, NotFalling}

-- calls of the join on two tapes, each meeting its contract on what the one before left: the parts of those that handed back a pair, and
-- the number of the first that did not, with both tapes' places and last stamps after it
pub data Runs (first second : List ℕ) : Venue → Venue → List (List ℕ) → ℕ → Venue → Venue → Type 0 where
  stops : {v w v' w' : Venue} {part : List ℕ} {answer : ℕ} → Joined first second v w part answer v' w' → 1 ≤ answer → Runs first second v w [] answer v' w'
  goes : {v w v' w' v'' w'' : Venue} {part : List ℕ} {parts : List (List ℕ)} {answer : ℕ}
      → Joined first second v w part 0 v' w' → Runs first second v' w' parts answer v'' w'' → Runs first second v w (part ∷ parts) answer v'' w''

-- the elements of the list are bytes
abbrev pub Bytes : List ℕ → Type 0
Bytes l = (i : ℕ) → get_or l i 0 < 256

-- all that a run which ends with 'end' shows, from places 0, for any last stamps given
pub record Merges (first second : List ℕ) (a b : ℕ) (parts : List (List ℕ)) : Type 0 where
  pub firsts : List StampedQuote
  pub seconds : List StampedQuote
  -- both tapes are whole lists of stamped quotes, in order from the last stamp given
  pub first_whole : Whole first a firsts
  pub second_whole : Whole second b seconds
  -- the parts are their stable merge
  pub merged : parts ≡ map frames_of (merge firsts seconds)
  -- so every pair is there once, and each venue's are in their own order
  pub once : Interleaved firsts seconds (merge firsts seconds)
  -- and stamps are not falling
  pub rising : NotFalling 0 (merge firsts seconds)

-- a run from here on, with the number of its pairs by the bytes that are left: each moves a place by at least ten
pub record Ends (first second : List ℕ) (v w : Venue) : Type 0 where
  pub parts : List (List ℕ)
  pub answer : ℕ
  pub first_end : Venue
  pub second_end : Venue
  pub run : Runs first second v w parts answer first_end second_end
