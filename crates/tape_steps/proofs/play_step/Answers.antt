-- `play_step` meets its contract: both in one are tried, and where they are not taken the one frame is played on all as it was.
use native.Mathlib.Omega.{arith}
use Rattle.lent_tables.proofs.Parts.{twice}
use Rattle.tape_steps.proofs.Stepping.{found_six, step_taken, left_there, step_left}
use Rattle.tape_steps.proofs.play_step.Goals as goal

pub make_both-tried-requires : goal.make_both-tried-requires
make_both-tried-requires c =
    record {
      kind_bound = found_six _ _ _ c.both_at-both.ensures;
      bytes_len_bound = (omega (arith, c.well_formed), c.requires.step_bytes_in_bounds);
      known = c.requires.known;
    }

pub returns-then-tried : goal.returns-then-tried
returns-then-tried c = record { same_loan = c.make_both-tried.ensures.same_loan; made = step_taken _ _ _ c.both_at-both.ensures _ _ _ c.make_both-tried.ensures.made c.if-tried.true c.step_of.ensures }

pub play_known-requires : goal.play_known-requires
play_known-requires c =
    let left = left_there _ _ _ c.both_at-both.ensures _ _ _ c.make_both-tried.ensures.made c.if-tried.false in
    record {
      text_bytes_in_bounds = omega (arith, c.requires.step_bytes_in_bounds, c.make_both-tried.auto.text);
      known = rw left.0 c.requires.known;
    }

pub returns : goal.returns
returns c = record { same_loan = twice c.args.tables.now c.make_both-tried.new.tables c.play_known.new.tables c.make_both-tried.ensures.same_loan c.play_known.ensures.same_loan; made = step_left _ _ _ c.both_at-both.ensures _ _ _ c.make_both-tried.ensures.made c.if-tried.false c.play_known.ensures.made }
