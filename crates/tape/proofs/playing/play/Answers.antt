-- `play` meets its contract: nothing is known of the tables.
use mathlib.Core.Path.{refl}
use native.Mathlib.Omega.{arith}
use Rattle.call_quoting.proofs.Reaching.{unknown}
use Rattle.tape.proofs.Plays.{step_anywhere}
use Rattle.tape.proofs.playing.play.Goals as goal

pub play_known-played-requires : goal.play_known-played-requires
play_known-played-requires c =
    record {
      text_bytes_in_bounds = omega arith;
      known = unknown refl;
    }

pub returns : goal.returns
returns c = record { same_loan = c.play_known-played.ensures.same_loan; made = step_anywhere c.play_known-played.ensures.made }
