-- `past` meets its contract: refused, it leaves everything as it was; accepted, it writes the list if there is room.
use Rattle.call_looking.proofs.Listing.{past_window, sizes_passed, past_refused, past_done}
use Rattle.call_looking.proofs.past.Goals as goal

pub returns-in-Err : goal.returns-in-Err
returns-in-Err c = past_refused _ _ _ _ _ c.judge_sizes.ensures c.in-Err.is c.refused.ensures

pub window_of-window-requires : goal.window_of-window-requires
window_of-window-requires c =
    let p = sizes_passed _ _ _ _ c.judge_sizes.ensures c.in_default.is in
    record { newest_le_last_position = p.0.whole.low_newest; within = past_window _ _ p.0 p.1 p.2 p.3 }

pub returns : goal.returns
returns c = past_done _ _ _ _ _ c.judge_sizes.ensures c.in_default.is c.window_of-window.ensures c.write_list.ensures
