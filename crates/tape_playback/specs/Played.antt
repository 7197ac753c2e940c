-- Where a player of a tape stands: the book that it plays on, what is gathered of its text, and what a step, and then any number of frames of
-- what has come of the tape, leave of both.
use Rattle.std.specs.Prelude.{◌≡◌, ℕ, ◌+◌, Bool, true, false, ◌||◌, List, [], ◌++◌, length, take}
use Rattle.lists.specs.Lists.{laid}
use Rattle.head.specs.Heads.{max_capacity}
use Rattle.model.specs.Rows.{Tables}
use Rattle.tape_model.specs.Play.{Player, on, book_play}
use Rattle.tape_model.specs.Streams.{ready}
use Rattle.line_answers.specs.Turns.{player}
use Rattle.table_starts.specs.Starts.{Within, FullOpened, onward, Moved}
use Rattle.tape_steps.specs.Stepping.{play_step}
use Rattle.tape_playback.specs.declared.Playback.{Playback}

-- the player that stands there: its book in tables t, from where its rows start on
abbrev pub player_of : Playback → Tables → List ℕ → Player
player_of s t bytes = player s.head (onward s.start t) s.watches bytes

-- a player that goes on in tables where its book may go on
pub data Resumes (k : Player) : Player → Type 0 where
  resumes : {u : Tables} → Moved k.world.head k.world.lent.tables u → Resumes k (on u k)

-- these lines are laid behind the text that is gathered, and gathered with it
pub record Gathered (s r : Playback) (lines before after : List ℕ) : Type 0 where
  pub used : r.used ≡ s.used + length lines
  pub text : after ≡ laid (take s.used before ++ lines) before

-- two players stand with the same book, at the same place of the tables
pub record SameBook (s r : Playback) : Type 0 where
  pub head : r.head ≡ s.head
  pub watches : r.watches ≡ s.watches
  pub start : r.start ≡ s.start

-- two players have the same of the tape
pub record SameInput (s r : Playback) : Type 0 where
  pub end : r.end ≡ s.end
  pub ended : r.ended ≡ s.ended

-- what a player that stands at s leaves once it played the step there: its lines, its place and whether the tape is over are those of the book
-- model's play, and so is its book
pub record StepPlayed (tape : List ℕ) (s : Playback) (t : Tables) (bytes before : List ℕ) (r : Playback) (t' : Tables) (bytes' after : List ℕ) : Type 0 where
  pub gathered : Gathered s r (play_step tape s.place (player_of s t bytes)).text before after
  pub place : r.place ≡ (play_step tape s.place (player_of s t bytes)).next
  pub over : r.over ≡ (play_step tape s.place (player_of s t bytes)).over
  pub book : Resumes (play_step tape s.place (player_of s t bytes)).state (player_of r t' bytes')
  pub same : SameInput s r
  pub starts : Within max_capacity r.start
  pub opened : FullOpened r.start r.head

-- frames of what has come of a tape, played from a place on by this player: their lines, the place behind them, the player that they leave, and
-- whether the tape is over; a frame is played where it is ready or nothing more comes, and between two the player may go on in other tables
pub data Plays (tape : List ℕ) (ended : Bool) (place : ℕ) (k : Player) (over : Bool) : List ℕ → ℕ → Player → Bool → Type 0 where
  none : Plays tape ended place k over [] place k over
  frame : {lines : List ℕ} {next : ℕ} {now : Player} → Plays tape ended place k over lines next now false → (ended || ready tape next) ≡ true
      → Plays tape ended place k over (lines ++ (book_play tape next now).text) (book_play tape next now).next (book_play tape next now).state (book_play tape next now).over
  moved : {lines : List ℕ} {next : ℕ} {now : Player} {over' : Bool} {u : Tables} → Plays tape ended place k over lines next now over'
      → Moved now.world.head now.world.lent.tables u → Plays tape ended place k over lines next (on u now) over'
