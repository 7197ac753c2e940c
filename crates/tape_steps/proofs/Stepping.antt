-- A step along a tape: what it plays, by its cases, and the step that was made.
use mathlib.Core.Path.{◌≡◌, refl, sym, ap, ◌∙◌}
use Prim.Native.Nat.{ℕ, ◌+◌, ◌≤◌}
use native.Mathlib.Omega.{arith}
use mathlib.Core.Bool.{Bool, true, false, ◌&&◌, cond}
use mathlib.Core.List.{List}
use lib.Dec.{eqb}
use lib.ListN.{get_or, take}
use borrow.Author.Tests.{eqb-true, ne_eqb}
use Rattle.lists.proofs.Booleans.{and_left, and_right}
use Rattle.head.specs.declared.Head.{Head}
use Rattle.head.specs.Heads.{settings_hold}
use Rattle.frames.specs.Frames.{read_at}
use Rattle.model.specs.Rows.{Tables}
use Rattle.tape_model.specs.Play.{Played, Player, begun, book_play}
use Rattle.tape_model.specs.Streams.{ready}
use Rattle.tape_model.specs.InOne.{seen_both, behind, InARow, play_two}
use Rattle.tape_model.proofs.InOne.{two_is_both}
use Rattle.line_answers.specs.declared.Step.{Step}
use Rattle.line_answers.specs.Turns.{player, made_two}
use Rattle.line_answers.proofs.InOne.{two_played}
use Rattle.tape.specs.declared.SlidStep.{SlidStep}
use Rattle.tape.specs.Steps.{StepMade}
use Rattle.tape.proofs.Plays.{played_as, step_to}
use Rattle.tape.proofs.Prints.{cells_kept}
use Rattle.tape_steps.specs.declared.BothAt.{BothAt}
use Rattle.tape_both.specs.declared.BothTurn.{BothTurn}
use Rattle.tape_both.specs.Tried.{takes_both, BothTried}
use Rattle.tape_steps.specs.Stepping.{look_behind, quote_at, size_at, none_at, both_at, in_one, play_step}
use Rattle.tape_steps.proofs.Finding.{six, ahead, look_whole, look_end, in_a_row}

-- ---- what a step plays
module _ (tape : List ℕ) (place : ℕ) (k : Player) where
  -- one frame, or two where the first does not end the tape and the second is whole
  pub data StepOf : Played Player → Type 0 where
    one_frame : StepOf (book_play tape place k)
    two_frames : (book_play tape place k).over ≡ false → ready tape (book_play tape place k).next ≡ true → StepOf (play_two tape place k)

  module _ (e : in_one tape place k ≡ true) where
    there : begun k && look_behind tape place ≡ true
    unfolding in_one
    there = and_left (begun k && look_behind tape place) _ e

    look_there : look_behind tape place ≡ true
    look_there = and_right (begun k) (look_behind tape place) there

    -- they ask for the quote and the look
    row : InARow (quote_at tape place) (size_at tape place) k tape place
    row = in_a_row tape place look_there k (and_left (begun k) (look_behind tape place) there)

    -- one call takes both
    accepted : (seen_both (quote_at tape place) (size_at tape place) k).outcome.number ≡ 0
    unfolding in_one takes_both
    accepted = eqb-true _ 0 (and_right (begun k && look_behind tape place) _ e)

    both_frames : StepOf (play_two tape place k)
    both_frames =
        let first = (two_is_both (quote_at tape place) (size_at tape place) k tape place row accepted).first in
        two_frames (ap Played.over first) (rw (ap Played.next first) (look_whole tape place look_there))

  -- so does every step
  pub step_plays : StepOf (play_step tape place k)
  unfolding play_step
  step_plays = go (in_one tape place k) refl
    where
      go : (b : Bool) → in_one tape place k ≡ b → StepOf (cond b (play_two tape place k) (book_play tape place k))
      go true e = both_frames e
      go false e = one_frame

  -- a player keeps its cells for positions
  pub step_cells : (play_step tape place k).state.outputs.cells ≡ k.outputs.cells
  unfolding play_two
  step_cells = go (play_step tape place k) step_plays
    where
      go : (one : Played Player) → StepOf one → one.state.outputs.cells ≡ k.outputs.cells
      go _ one_frame = cells_kept tape place k
      go _ (two_frames o r) = cells_kept tape (book_play tape place k).next (book_play tape place k).state ∙ cells_kept tape place k

-- ---- what is found
module _ (tape : List ℕ) (place : ℕ) (h : Head) {r : BothAt} (e : r ≡ both_at tape place h) where
  abbrev holds : Bool
  holds = settings_hold h.dimensions h.capacity h.directions

  -- the quote has at most six columns
  pub found_six : r.kind ≤ 6
  unfolding both_at
  found_six = rw e (go (holds && look_behind tape place) refl)
    where
      go : (b : Bool) → (holds && look_behind tape place) ≡ b
          → (cond b (record { found = true; kind = get_or tape place 0; columns = (read_at tape place).columns; n = size_at tape place; next = behind tape place + 3 }) (none_at place)).kind ≤ 6
      go true f = six tape place (and_right holds (look_behind tape place) f)
      go false f = omega arith

  module _ (t : Tables) (ws bytes : List ℕ) where
    abbrev k : Player
    k = player h t ws bytes

    -- what is found, by whether it is
    abbrev found : Bool → BothAt
    found b = cond b (record { found = true; kind = get_or tape place 0; columns = (read_at tape place).columns; n = size_at tape place; next = behind tape place + 3 }) (none_at place)

    -- both are taken in one
    found_in_one : (r.found && takes_both (take r.kind r.columns) r.n k) ≡ in_one tape place k
    unfolding both_at in_one begun
    found_in_one = rw e (go (holds && look_behind tape place))
      where
        go : (b : Bool) → ((found b).found && takes_both (take (found b).kind (found b).columns) (found b).n k) ≡ (b && takes_both (quote_at tape place) (size_at tape place) k)
        go true = refl
        go false = refl

    module _ {before : List ℕ} {made : BothTurn} {t' : Tables} {bytes' after : List ℕ} (v : BothTried r.found (take r.kind r.columns) r.n k before made t' bytes' after) where
      taken_is : made.taken ≡ in_one tape place k
      taken_is = v.taken ∙ found_in_one

      -- both were taken
      module _ (y : made.taken ≡ true) where
        one : in_one tape place k ≡ true
        one = sym taken_is ∙ y

        found_is : r ≡ record { found = true; kind = get_or tape place 0; columns = (read_at tape place).columns; n = size_at tape place; next = behind tape place + 3 }
        unfolding both_at begun
        found_is = e ∙ rw (there tape place k one)

        -- what is played
        played : play_step tape place k ≡ played_as (made_two (take r.kind r.columns) r.n k) r.next (eqb r.next place)
        unfolding play_step
        played =
            let look = look_there tape place k one in
            let end : behind tape (behind tape place) ≡ behind tape place + 3 = look_end tape place look in
            let on : eqb (behind tape place + 3) place ≡ false = ne_eqb (behind tape place + 3) place (λ z. omega (arith, z, ahead tape place look)) in
            rw (one, found_is, on, ← end) (two_played (quote_at tape place) (size_at tape place) k (accepted tape place k one) tape place (row tape place k one))

        -- so the step of both was made
        pub step_taken : {step : Step}
            → step ≡ record { turn = made.made.turn; over = eqb r.next place; next = r.next }
            → StepMade true (play_step tape place k) before (record { step = step; by = made.made.by }) t' bytes' after
        step_taken z = step_to played z (v.turn y)

      -- neither was taken: all is as it was, and the step of one frame is made
      module _ (n : made.taken ≡ false) where
        pub left_there : (t' ≡ t) × (bytes' ≡ bytes) × (after ≡ before)
        left_there = v.left n

        pub step_left : {s : SlidStep} {t'' : Tables} {bytes'' last : List ℕ} → StepMade true (book_play tape place (player h t' ws bytes')) after s t'' bytes'' last
            → StepMade true (play_step tape place k) before s t'' bytes'' last
        unfolding play_step
        step_left m = rw (sym taken_is ∙ n) (rw (left_there.0, left_there.1, left_there.2) at m)
