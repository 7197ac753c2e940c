-- `bqb_play` meets its contract: the promise of `play` at what the cells hold, handed back in cells.
use mathlib.Core.Path.{◌∙◌}
use Rattle.host_plays.proofs.Numbers.{flag_counts, turned_is, step_at}
use Rattle.host_plays.proofs.bqb_play.Goals as goal

pub returns : goal.returns
returns c =
    let made = c.play-step.ensures in
    let columns = c.columns-1.given.1.1 made.same_loan.0 in
    let positions = c.positions-1.given.1.1 made.same_loan.1 in
    let lower_ends = c.lower_ends-1.given.1.1 made.same_loan.2 in
    let upper_ends = c.upper_ends-1.given.1.1 made.same_loan.3 in
    record {
      step = c.play-step.result;
      answer = c.number_of.ensures;
      turned = turned_is (c.from.ensures ∙ flag_counts _);
      hands = c.store_head.ensures;
      records = c.store_numbers.ensures;
      stepped = rw (columns, positions, lower_ends, upper_ends) (step_at _ _ _ _ c.head_of.ensures c.numbers_of.ensures made.made);
    }
