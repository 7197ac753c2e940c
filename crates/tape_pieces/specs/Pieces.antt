-- Whether a step of a piece of a tape is played, and what a player leaves once the piece is played.
use Rattle.std.specs.Prelude.{◌≡◌, ℕ, ◌-◌, Bool, false, ◌&&◌, ◌||◌, not, List, leb, length}
use Rattle.model.specs.Rows.{Tables}
use Rattle.tape_model.specs.Streams.{settled}
use Rattle.tape_both.specs.Tried.{step_bytes}
use Rattle.tape_playback.specs.declared.Playback.{Playback}
use Rattle.tape_playback.specs.Played.{player_of, Gathered, SameInput, Plays}
use Rattle.table_starts.specs.Starts.{Within}

-- whether a step is played: the tape is not over, this room is enough for the lines of any step, and it may be played, since its frame is settled or
-- nothing more comes
pub record GoesOn (over : Bool) (room : ℕ) (may result : Bool) : Type 0 where
  pub is : result ≡ (not over && (leb step_bytes room && may))

-- what a player that stands at s leaves once it played a piece of a tape: its place, its book and whether the tape is over are those that frames of
-- the piece come to, their lines stand behind what was gathered, and the next frame is not played
pub record PiecePlayed (piece : List ℕ) (s : Playback) (t : Tables) (bytes before : List ℕ) (r : Playback) (t' : Tables) (bytes' after : List ℕ) : Type 0 where
  pub lines : List ℕ
  pub plays : Plays piece s.ended s.place (player_of s t bytes) s.over lines r.place (player_of r t' bytes') r.over
  pub gathered : Gathered s r lines before after
  pub same : SameInput s r
  pub starts : Within 1023 r.start
  pub stops : GoesOn r.over (length after - r.used) (r.ended || settled piece r.place) false
