-- Where frames that are played leave the place: within the tape, and behind the frame that stood there, unless the tape is over.
use mathlib.Core.Path.{◌≡◌}
use Prim.Native.Nat.{ℕ, ◌+◌, ◌-◌, ◌≤◌, ◌<◌}
use native.Mathlib.Omega.{arith}
use mathlib.Core.Bool.{Bool, true, false, ◌||◌, cond}
use mathlib.Core.List.{List, ◌++◌, append_assoc}
use lib.ListN.{length, get_or}
use Rattle.lists.proofs.Booleans.{or_right}
use Rattle.frames.specs.Frames.{message_at, columns_at, told, Reading, stays, read_at}
use Rattle.frames.proofs.Reading.{Found, beyond, at_end_lem, unknown, cut, whole, found}
use Rattle.tape_asking.specs.Asking.{Asked, finished, unread, misplaced, request, asked}
use Rattle.tape_model.specs.Play.{Played, play_asked, play_at, Player, book_make, begun, book_play}
use Rattle.tape_model.specs.Streams.{ready}
use Rattle.tape_model.specs.InOne.{play_two}
use Rattle.tape_steps.specs.Stepping.{play_step}
use Rattle.tape_steps.proofs.Stepping.{StepOf, one_frame, two_frames, step_plays}
use Rattle.tape_playback.specs.Played.{Plays, none, frame, moved}

-- the bytes from a place on, and one for the end; nothing once the tape is over
unfoldable pub left : List ℕ → ℕ → Bool → ℕ
left tape place over = cond over 0 (1 + (length tape - place))

-- a step from a place to the next: it stays within the tape, and less is left
pub record Advanced (tape : List ℕ) (place next : ℕ) (over : Bool) : Type 0 where
  pub inside : next ≤ length tape
  pub less : left tape next over < 1 + (length tape - place)

module _ (tape : List ℕ) (place : ℕ) (k : Player) (h : place ≤ length tape) where
  -- what is asked for is played
  asked_on : (a : Asked) (next : ℕ) → place < next → next ≤ length tape → let one = play_asked begun book_make a next k in Advanced tape place one.next one.over
  unfolding play_asked left
  asked_on finished next m t = record { inside = t; less = omega arith }
  asked_on (unread u) next m t = record { inside = t; less = omega arith }
  asked_on misplaced next m t = record { inside = t; less = omega arith }
  asked_on (request r) next m t = record { inside = t; less = omega arith }

  -- what stands at the place is played
  read_on : (r : Reading) → Found tape place r → let one = play_asked begun book_make (asked (begun k) r.says r.columns) r.next k in Advanced tape place one.next one.over
  unfolding play_asked asked stays left
  read_on _ (beyond t) = absurd (omega arith)
  read_on _ (at_end_lem t) = record { inside = h; less = omega arith }
  read_on _ unknown = record { inside = h; less = omega arith }
  read_on _ cut = record { inside = h; less = omega arith }
  read_on _ (whole kind t) =
      asked_on (asked (begun k) (told (message_at tape (place + 1) (get_or tape place 0))) (columns_at tape (place + 1) (get_or tape place 0))) _ (omega arith) t

  -- a step
  pub advanced : Advanced tape place (book_play tape place k).next (book_play tape place k).over
  unfolding play_at
  advanced = read_on (read_at tape place) (found tape place)

-- so does a step of one frame or of two
pub step_advanced : (tape : List ℕ) (place : ℕ) (k : Player) → place ≤ length tape → Advanced tape place (play_step tape place k).next (play_step tape place k).over
unfolding play_two left
step_advanced tape place k h = go (play_step tape place k) (step_plays tape place k)
  where
    go : (one : Played Player) → StepOf tape place k one → Advanced tape place one.next one.over
    go _ one_frame = advanced tape place k h
    go _ (two_frames o w) =
        let first = rw o at (advanced tape place k h) in
        let second = advanced tape (book_play tape place k).next (book_play tape place k).state first.inside in
        record { inside = second.inside; less = omega (arith, first.less, second.less) }

-- ---- any number of frames

-- a step more is one frame more, or two
pub step_frames : {tape : List ℕ} {ended : Bool} {place : ℕ} {k : Player} {over : Bool} {lines : List ℕ} {next : ℕ} {now : Player} → Plays tape ended place k over lines next now false
    → (ended || ready tape next) ≡ true
    → let one = play_step tape next now in
    Plays tape ended place k over (lines ++ one.text) one.next one.state one.over
unfolding play_two
step_frames {tape} {ended} {place} {k} {over} {lines} {next} {now} p r = go (play_step tape next now) (step_plays tape next now)
  where
    go : (one : Played Player) → StepOf tape next now one → Plays tape ended place k over (lines ++ one.text) one.next one.state one.over
    go _ one_frame = frame p r
    go _ (two_frames o w) =
        let first = book_play tape next now in
        rw (append_assoc lines first.text (book_play tape first.next first.state).text) at (frame (rw o at (frame p r)) (or_right ended (ready tape first.next) w))

-- they leave the place within the tape
pub plays_inside : {tape : List ℕ} {ended : Bool} {place : ℕ} {k : Player} {over : Bool} {lines : List ℕ} {next : ℕ} {now : Player} {over' : Bool}
    → Plays tape ended place k over lines next now over' → place ≤ length tape → next ≤ length tape
plays_inside none h = h
plays_inside {tape = tape} (frame {next = at} {now = who} p r) h = (advanced tape at who (plays_inside p h)).inside
plays_inside (moved p m) h = plays_inside p h
