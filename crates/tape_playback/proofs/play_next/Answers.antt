-- `play_next` meets its contract: the tables are lent from where the rows start on, and the text behind the lines that are gathered.
use native.Mathlib.Omega.{arith}
use lib.ListN.{length-take, length-drop}
use Rattle.tape_playback.proofs.Starting.{parts_roomy, parts_reached}
use Rattle.tape_playback.proofs.Framing.{stepped_fits, step_played}
use Rattle.tape.proofs.Slides.{left_bounded}
use Rattle.tape_playback.proofs.play_next.Goals as goal

pub step_rows-played-requires : goal.step_rows-played-requires
step_rows-played-requires c =
    record {
      step_bytes_in_bounds = simp (length-take, length-drop) (omega (arith, c.requires.step_bytes_in_bounds.0));
      known = record { reached = λ e. parts_reached _ _ c.requires.reached; roomy = λ e. parts_roomy _ _ c.requires.long c.requires.within };
    }

pub slid-requires : goal.slid-requires
slid-requires c = (c.requires.within, left_bounded c.step_rows-played.ensures)

pub overflow_add-result : goal.overflow_add-result
overflow_add-result c =
    omega (arith, stepped_fits c.step_rows-played.ensures.stepped c.step_rows-played.auto.text, c.requires.step_bytes_in_bounds.0, c.well_formed)

pub returns : goal.returns
returns c =
    step_played _ _ _ _ _ c.step_rows-played.ensures c.requires.long c.requires.within (omega (arith, c.requires.step_bytes_in_bounds.0)) c.slid.ensures
