-- `play_known` meets its contract: the frame at the place is read, what it wants is made, and the step is told.
use native.Mathlib.Omega.{arith}
use Rattle.tape.proofs.Plays.{step_made}
use Rattle.tape.proofs.playing.play_known.Goals as goal

pub make-made-requires : goal.make-made-requires
make-made-requires c =
    record {
      by_index = c.wish_at-wish.ensures.bounded;
      bytes_len_bound = (omega (arith, c.well_formed), c.requires.text_bytes_in_bounds);
      known = c.requires.known;
    }

pub returns : goal.returns
returns c =
    record { same_loan = c.make-made.ensures.same_loan; made = step_made _ _ _ _ _ _ _ c.wish_at-wish.ensures c.step_of.ensures c.make-made.ensures.made }
