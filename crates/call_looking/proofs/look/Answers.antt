-- `look` meets its contract: refused, it leaves everything as it was; accepted, it writes the list if there is room.
use Rattle.lent_tables.specs.Lent.{lent}
use Rattle.call_judging.proofs.Answering.{Passed, InRange}
use Rattle.call_looking.proofs.Listing.{list_window, size_passed, look_refused, look_done}
use Rattle.call_looking.proofs.look.Goals as goal
use Rattle.call_looking.proofs.look.Goals.{In_default}

pub returns-in-Err : goal.returns-in-Err
returns-in-Err c = look_refused _ _ _ _ c.judge_size.ensures c.in-Err.is c.refused.ensures

-- what is known where the look is not refused
passed : (c : In_default) → Passed c.args.head (lent c.args.tables.now) × InRange c.args.head c.args.n
passed c = size_passed _ _ _ c.judge_size.ensures c.in_default.is

pub window_of-window-requires : goal.window_of-window-requires
window_of-window-requires c =
    let p = passed (goal.at.window_of-window-requires c).In_default in
    record { newest_le_last_position = p.0.whole.low_newest; within = list_window _ _ p.0 p.1 }

pub returns : goal.returns
returns c = look_done _ _ _ _ c.judge_size.ensures c.in_default.is c.window_of-window.ensures c.write_list.ensures
