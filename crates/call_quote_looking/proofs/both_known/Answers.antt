-- `both_known` meets its contract: both are judged, what the quote does is found, it is entered by that, and the list is written.
use mathlib.Core.Path.{refl}
use native.Mathlib.Omega.{arith}
use Rattle.lent_tables.proofs.Parts.{parts}
use Rattle.call_settling.proofs.Standing.{within}
use Rattle.call_settling.proofs.Findings.{findable}
use Rattle.call_settling.proofs.Settled.{placed}
use Rattle.call_settling.proofs.Reaching.{reached_sound}
use Rattle.call_judging.proofs.Answering.{in_range}
use Rattle.call_quoting.proofs.Quotes.{Entering, taken, quote_lent, bounded_held}
use Rattle.call_quote_looking.proofs.Answers.{sized_refused, sized_accepted}
use Rattle.call_quote_looking.proofs.Counting.{starts_at, countable}
use Rattle.call_quote_looking.proofs.Made.{made_refused, made_short, list_fits, made_both}
use Rattle.call_quote_looking.proofs.both_known.Goals as goal

pub judge_both-requires : goal.judge_both-requires
judge_both-requires c = rw c.to_read-read.ensures c.requires.reached

pub returns-in-Err : goal.returns-in-Err
returns-in-Err c =
    let judged = rw c.to_read-read.ensures at c.judge_both.ensures in
    record {
      same_loan = (refl, refl, refl, refl, refl, refl, refl, refl);
      both_made = made_refused _ _ _ _ _ _ _ _ (sized_refused _ _ _ _ _ _ judged c.in-Err.is _) c.in-Err.is c.refuse.ensures;
    }

pub find-found-requires : goal.find-found-requires
find-found-requires c =
    let p = parts c.to_read-read.result c.args.tables.now c.to_read-read.ensures in
    let sized = sized_accepted _ _ _ _ _ _ (rw c.to_read-read.ensures at c.judge_both.ensures) c.in_default.is in
    let a = (taken _ _ _ _ _ sized.0).admitted in
    record {
      findable = rw (p.columns, p.upper_ends) (findable a (omega (arith, bounded_held a)));
      placed = rw p.upper_ends (placed a);
      sound = rw (p.columns, p.upper_ends) λ e. reached_sound _ (c.requires.reached e) (within a).some_capacity;
    }

pub shift_of-start-requires : goal.shift_of-start-requires
shift_of-start-requires c =
    let sized = sized_accepted _ _ _ _ _ _ (rw c.to_read-read.ensures at c.judge_both.ensures) c.in_default.is in
    (taken _ _ _ _ _ sized.0).admitted.below

pub short_cells-requires : goal.short_cells-requires
short_cells-requires c =
    let p = parts c.to_read-read.result c.args.tables.now c.to_read-read.ensures in
    let sized = sized_accepted _ _ _ _ _ _ (rw c.to_read-read.ensures at c.judge_both.ensures) c.in_default.is in
    let all = quote_lent _ _ _ c.args.watches c.args.records _ (omega (arith, c.well_formed)) sized.0 in
    let v : Entering _ _ _ _ _ _ _ = record { accepted = rw all at sized.0; eight = omega (arith, c.well_formed); finds = rw (p.columns, p.upper_ends) at c.find-found.ensures.finds } in
    record {
      at_in_bounds = c.find-found.ensures.finds.most;
      countable = rw (p.lower_ends, p.upper_ends) (countable v (in_range _ _ sized.1) (starts_at _ _ c.shift_of-start.ensures));
    }

pub returns-then-short_cells : goal.returns-then-short_cells
returns-then-short_cells c =
    let p = parts c.to_read-read.result c.args.tables.now c.to_read-read.ensures in
    let sized = sized_accepted _ _ _ _ _ _ (rw c.to_read-read.ensures at c.judge_both.ensures) c.in_default.is in
    let all = quote_lent _ _ _ c.args.watches c.args.records _ (omega (arith, c.well_formed)) sized.0 in
    let v : Entering _ _ _ _ _ _ _ = record { accepted = rw all at sized.0; eight = omega (arith, c.well_formed); finds = rw (p.columns, p.upper_ends) at c.find-found.ensures.finds } in
    record {
      same_loan = (refl, refl, refl, refl, refl, refl, refl, refl);
      both_made =
          rw all (made_short _ _ _ _ v sized.1 (starts_at _ _ c.shift_of-start.ensures) (rw (p.lower_ends, p.upper_ends) at c.short_cells.ensures) c.if-short_cells.true c.refuse-then-short_cells.ensures);
    }

pub enter-entered-requires : goal.enter-entered-requires
enter-entered-requires c =
    let p = parts c.to_read-read.result c.args.tables.now c.to_read-read.ensures in
    let sized = sized_accepted _ _ _ _ _ _ (rw c.to_read-read.ensures at c.judge_both.ensures) c.in_default.is in
    let all = quote_lent _ _ _ c.args.watches c.args.records _ (omega (arith, c.well_formed)) sized.0 in
    record {
      out_value = rw all at sized.0;
      finds = rw (p.columns, p.upper_ends) at c.find-found.ensures.finds;
      known = rw c.find-found.ensures.reachable_value (rw all at c.requires);
    }

pub look_after-requires : goal.look_after-requires
look_after-requires c =
    let p = parts c.to_read-read.result c.args.tables.now c.to_read-read.ensures in
    let after = parts c.to_read.result c.enter-entered.new.tables c.to_read.ensures in
    let sized = sized_accepted _ _ _ _ _ _ (rw c.to_read-read.ensures at c.judge_both.ensures) c.in_default.is in
    let all = quote_lent _ _ _ c.args.watches c.args.records _ (omega (arith, c.well_formed)) sized.0 in
    let v : Entering _ _ _ _ _ _ _ = record { accepted = rw all at sized.0; eight = omega (arith, c.well_formed); finds = rw (p.columns, p.upper_ends) at c.find-found.ensures.finds } in
    let entered = rw c.find-found.ensures.reachable_value at c.enter-entered.ensures.entered in
    rw (after.lower_ends, after.upper_ends)
    (list_fits _ _ _ c.args.cells.now v sized.1 (starts_at _ _ c.shift_of-start.ensures) (rw (p.lower_ends, p.upper_ends) at c.short_cells.ensures) c.if-short_cells.false entered)

pub returns : goal.returns
returns c =
    let p = parts c.to_read-read.result c.args.tables.now c.to_read-read.ensures in
    let after = parts c.to_read.result c.enter-entered.new.tables c.to_read.ensures in
    let sized = sized_accepted _ _ _ _ _ _ (rw c.to_read-read.ensures at c.judge_both.ensures) c.in_default.is in
    let all = quote_lent _ _ _ c.args.watches c.args.records _ (omega (arith, c.well_formed)) sized.0 in
    let v : Entering _ _ _ _ _ _ _ = record { accepted = rw all at sized.0; eight = omega (arith, c.well_formed); finds = rw (p.columns, p.upper_ends) at c.find-found.ensures.finds } in
    let entered = rw c.find-found.ensures.reachable_value at c.enter-entered.ensures.entered in
    record {
      same_loan = c.enter-entered.ensures.same_loan;
      both_made =
          rw all
          (made_both _ _ _ _ v sized.1 (starts_at _ _ c.shift_of-start.ensures) (rw (p.lower_ends, p.upper_ends) at c.short_cells.ensures) c.if-short_cells.false entered
          (rw (after.lower_ends, after.upper_ends) at c.look_after.ensures.value) (rw (after.lower_ends, after.upper_ends) at c.look_after.ensures.cells_after));
    }
