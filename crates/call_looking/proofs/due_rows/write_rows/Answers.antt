-- `write_rows` meets its contract: nothing is written where the rows' cells do not fit.
use native.Mathlib.Omega.{arith}
use Rattle.lent_tables.specs.Lent.{lent}
use Rattle.skyline.specs.Skyline.{window_start}
use Rattle.table_listing.proofs.DueRows.{due_bounded}
use Rattle.call_looking.proofs.DueLooks.{rows_none, rows_all}
use Rattle.call_looking.proofs.due_rows.write_rows.Goals as goal

pub overflow_mul-cells : goal.overflow_mul-cells
overflow_mul-cells c =
    let w = c.window_of-window.result in
    let bounded = due_bounded w.first w.start w.end c.start_of-c.result w.lower_ends.now in
    omega (arith, bounded, c.count_due-count.ensures, c.window_of-window.ensures.end)

pub returns-then-out-cells : goal.returns-then-out-cells
returns-then-out-cells c =
    rows_none _ (lent c.args.tables.now) _ c.window_of-window.ensures c.start_of-c.ensures c.count_due-count.ensures c.if-out-cells.true c.refused.ensures

pub write_due-requires : goal.write_due-requires
unfolding window_start
write_due-requires c =
    let w = c.window_of-window.ensures in
    record {
      end_bound = omega (arith, w.end, w.start, c.requires.newest_le_last_position, c.requires.le_n1, c.requires.n1_le_max_capacity);
      n1_bound = omega (arith, w.end, c.requires.newest_le_last_position, c.requires.n1_le_max_capacity);
      out_in_bounds = omega (arith, c.if-out-cells.false, c.count_due-count.ensures);
    }

pub returns : goal.returns
returns c =
    rows_all _ (lent c.args.tables.now) _ c.window_of-window.ensures c.start_of-c.ensures c.count_due-count.ensures c.if-out-cells.false c.write_due.ensures c.accepted.ensures
