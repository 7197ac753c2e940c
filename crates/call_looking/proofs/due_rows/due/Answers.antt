-- `due` meets its contract: refused, or with no pair, it leaves everything as it was; else it writes the rows that are due if there is room.
use native.Mathlib.Omega.{arith}
use Rattle.call_looking.proofs.DueLooks.{due_passed, due_window, due_refused, due_none, due_done}
use Rattle.call_looking.proofs.due_rows.due.Goals as goal

pub returns-in-Err : goal.returns-in-Err
returns-in-Err c = due_refused _ _ _ c.judge.ensures c.in-Err.is c.refused.ensures

pub returns-then-head-eq0 : goal.returns-then-head-eq0
returns-then-head-eq0 c = due_none _ _ _ c.judge.ensures c.in_default.is c.if-head-eq0.true c.accepted.ensures

pub write_rows-requires : goal.write_rows-requires
write_rows-requires c =
    let s = due_passed _ _ c.judge.ensures c.in_default.is c.if-head-eq0.false in
    record {
      newest_le_last_position = s.passed.whole.low_newest;
      le_n1 = omega (arith, s.pair);
      n1_le_max_capacity = omega (arith, s.pair, s.passed.settings);
      window = due_window _ _ s;
    }

pub returns : goal.returns
returns c =
    due_done _ _ _ c.judge.ensures c.in_default.is (due_passed _ _ c.judge.ensures c.in_default.is c.if-head-eq0.false) c.write_rows.ensures
