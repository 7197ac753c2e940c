-- One frame played: what it wants in its place, its call, and what the player hands back.
use Rattle.std.specs.Prelude.{Option, Some, None, Result, Ok, Err}
use mathlib.Core.Path.{◌≡◌, refl, sym, ap, ◌∙◌}
use Prim.Native.Nat.{ℕ}
use mathlib.Core.Bool.{Bool, false}
use mathlib.Core.List.{List}
use lib.Dec.{eqb}
use Rattle.head.specs.declared.Head.{Head}
use Rattle.refusals.specs.declared.Refusal.{Refusal}
use Rattle.frames.specs.Frames.{read_at}
use Rattle.model.specs.Rows.{Tables}
use Rattle.tape_asking.specs.declared.Wanted.{Wanted}
use Rattle.tape_asking.specs.declared.Wanted.TheVariants.{Quote, Look, Past, Watch, End, Pair, Unpair, Open, Misplaced}
use Rattle.tape_asking.specs.Asking.{asked}
use Rattle.tape_asking.specs.Placing.{frame_wants, wants}
use Rattle.tape_asking.specs.Reading.{WishAt}
use Rattle.tape_asking.proofs.Places.{ends, asked_ends}
use Rattle.tape_model.specs.Play.{Played, play_asked, play_at, Player, book_make, begun, book_play}
use Rattle.line_answers.specs.declared.Turn.{Turn}
use Rattle.line_answers.specs.Turns.{player, Effect, made, refused_with}
use Rattle.line_answers.specs.declared.Step.{Step}
use Rattle.tape_turns.specs.Making.{frame_taken, taken, Makes}
use Rattle.tape.specs.Steps.{SteppedTo, StepMade}
use Rattle.tape.specs.declared.SlidStep.{SlidStep}

-- what is played with this effect
abbrev pub played_as : Effect → ℕ → Bool → Played Player
played_as one next over = record { number = one.number; text = one.text; state = one.state; next = next; over = over }

-- what a frame wants is played as it is taken
frame_played : (w : Wanted) (columns : List ℕ) (next : ℕ) (k : Player)
    → play_asked begun book_make (frame_wants w columns) next k ≡ played_as (frame_taken w columns k) next (ends (frame_wants w columns))
unfolding play_asked frame_wants ends frame_taken made refused_with
frame_played (Quote n) columns next k = refl
frame_played (Look n) columns next k = refl
frame_played (Past n1 n2) columns next k = refl
frame_played (Watch desk n) columns next k = refl
frame_played (End desk n) columns next k = refl
frame_played (Pair n1 n2) columns next k = refl
frame_played Unpair columns next k = refl
frame_played (Open d N directions) columns next k = refl
frame_played Misplaced columns next k = refl

-- and so is what stands at a place
wanted_played : (w : Result (Option Wanted) Refusal) (columns : List ℕ) (next : ℕ) (k : Player)
    → play_asked begun book_make (wants w columns) next k ≡ played_as (taken w columns k) next (ends (wants w columns))
unfolding play_asked wants ends taken refused_with
wanted_played (Ok (Some w)) columns next k = frame_played w columns next k
wanted_played (Ok None) columns next k = refl
wanted_played (Err refusal) columns next k = refl

-- ---- the step

-- the step of a turn that was made, by what is played
pub step_to : {one : Played Player} {effect : Effect} {next : ℕ} {over : Bool} → one ≡ played_as effect next over → {turn : Turn} {step : Step}
    → step ≡ record { turn = turn; over = over; next = next }
    → {reachable : Bool} {by : ℕ} {before : List ℕ} {t' : Tables} {bytes' after : List ℕ} → Makes reachable effect before (record { turn = turn; by = by }) t' bytes' after
    → StepMade reachable one before (record { step = step; by = by }) t' bytes' after
step_to p {turn = turn} z m =
    let u = m.turned in
    rw (p, z) record {
      stepped = record {
        answer = u.answer;
        over = refl;
        next = refl;
        count = u.count;
        head = u.head;
        watches = u.watches;
        lent = refl;
        bytes = u.bytes;
        text = u.text;
      };
      moved = m.moved;
      slides = m.slides;
    }

module _ (tape : List ℕ) (place : ℕ) (h : Head) (t : Tables) (ws bytes before : List ℕ) {w : Result (Option Wanted) Refusal} {x : List ℕ} {next : ℕ} (v : WishAt tape place h w x next) where
  -- the player before the frame
  abbrev k : Player
  k = player h t ws bytes

  -- what is wanted is what is asked for
  wanted_there : wants w x ≡ asked (begun k) (read_at tape place).says (read_at tape place).columns
  unfolding begun
  wanted_there = v.asks x ∙ ap (asked (begun k) (read_at tape place).says) v.columns

  -- what is played
  played : book_play tape place k ≡ played_as (taken w x k) next (eqb next place)
  unfolding play_at
  played =
      let over : eqb next place ≡ ends (wants w x) =
      ap (λ (n : ℕ). eqb n place) v.next
      ∙ asked_ends (begun k) tape place (read_at tape place).columns
      ∙ ap ends (sym wanted_there) in
      rw (over, ← wanted_there, ← v.next) (wanted_played w x next k)

  -- the step of what was made
  pub step_made : {turn : Turn} {step : Step} {t' : Tables} {bytes' after : List ℕ}
      → step ≡ record { turn = turn; over = eqb next place; next = next }
      → {reachable : Bool} {by : ℕ} → Makes reachable (taken w x k) before (record { turn = turn; by = by }) t' bytes' after
      → StepMade reachable (book_play tape place k) before (record { step = step; by = by }) t' bytes' after
  step_made z m = step_to played z m

-- where nothing is known of the tables, they are those of the book model
pub step_anywhere : {one : Played Player} {before : List ℕ} {s : SlidStep} {t' : Tables} {bytes' after : List ℕ}
    → StepMade false one before s t' bytes' after → SteppedTo one before s.step t' bytes' after
step_anywhere m =
    let u = m.stepped in
    record {
      answer = u.answer;
      over = u.over;
      next = u.next;
      count = u.count;
      head = u.head;
      watches = u.watches;
      lent = m.moved refl;
      bytes = u.bytes;
      text = u.text;
    }
