-- A step that was played on the tables from where the rows start on, into the text behind what is gathered.
use mathlib.Core.Path.{◌≡◌, refl, ap}
use Prim.Native.Nat.{ℕ, ◌+◌, ◌-◌, ◌*◌, ◌≤◌}
use native.Mathlib.Omega.{arith}
use mathlib.Core.Bool.{true}
use mathlib.Core.List.{List}
use lib.ListN.{length, drop, length-append, length-drop}
use borrow.Rule.Slice.PartMut.{mid_of, put_mid}
use Rattle.lists.specs.Lists.{laid}
use Rattle.model.specs.Rows.{Tables}
use Rattle.tape_model.specs.Play.{Played, Player}
use Rattle.line_answers.specs.Turns.{player}
use Rattle.line_answers.specs.declared.Step.{Step}
use Rattle.tape.specs.declared.SlidStep.{SlidStep}
use Rattle.tape.specs.Steps.{SteppedTo, StepMade}
use Rattle.tape_steps.specs.Stepping.{play_step}
use Rattle.tape_steps.proofs.Stepping.{step_cells}
use Rattle.table_starts.specs.declared.Start.{Start}
use Rattle.table_starts.specs.Starts.{Long, Within}
use Rattle.tape_playback.specs.declared.Playback.{Playback}
use Rattle.tape_playback.specs.Played.{player_of, StepPlayed}
use Rattle.tape_playback.proofs.Gathering.{gathered_behind}
use Rattle.tape_playback.proofs.Starting.{parts, backs, parts_are, start_within, start_opened, start_resumes}

-- the lines fit the text
pub stepped_fits : {one : Played Player} {before : List ℕ} {r : Step} {t' : Tables} {bytes' after : List ℕ}
    → SteppedTo one before r t' bytes' after → length after ≡ length before → r.turn.count ≤ length before
unfolding laid
stepped_fits {one} {before} s e =
    let l : List ℕ = one.text in
    omega (arith, s.count, ap length s.text, e, length-append l (drop (length l) before), length-drop (length l) before)

-- what it leaves
pub step_played : (tape : List ℕ) (s : Playback) (t : Tables) (bytes before : List ℕ) {z : SlidStep} {t' : Tables} {bytes' last : List ℕ} {s' : Start}
    → StepMade true (play_step tape s.place (player s.head (parts s.start t) s.watches bytes)) (mid_of s.used (length before - s.used) before) z t' bytes' last
    → Long t → Within 1023 s.start → s.used ≤ length before → s' ≡ record { row = s.start.row + z.by; cell = s.start.cell + z.by * z.step.turn.head.dimensions }
    → StepPlayed tape s t bytes before
    (record { head = z.step.turn.head; watches = z.step.turn.watches; start = s'; place = z.step.next; end = s.end; used = s.used + z.step.turn.count; ended = s.ended; over = z.step.over })
    (backs s.start t t') bytes' (put_mid s.used (length before - s.used) before last)
step_played tape s t bytes before {z} {t'} {bytes'} {last} m l w h e =
    let k : Player = player_of s t bytes in
    let n : StepMade true (play_step tape s.place k) (mid_of s.used (length before - s.used) before) z t' bytes' last = rw (parts_are s.start t) at m in
    record {
      gathered = gathered_behind s (play_step tape s.place k).text before h (ap (λ (j : ℕ). s.used + j) n.stepped.count) n.stepped.text;
      place = n.stepped.next;
      over = n.stepped.over;
      book = start_resumes s.start t k n (step_cells tape s.place k) w e l;
      same = record { end = refl; ended = refl };
      starts = start_within m w e;
      opened = start_opened m w e;
    }
