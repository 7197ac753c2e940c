-- `set_watch` meets its contract: refused, it leaves everything as it was; accepted, it writes the joins.
use native.Mathlib.Omega.{arith}
use lib.ListN.{length, take}
use Rattle.lent_tables.specs.Lent.{lent}
use Rattle.refusals.proofs.Numbers.{accepted_number}
use Rattle.call_looking.proofs.Listing.{list_window}
use Rattle.call_watching.proofs.Watches.{Free, watch_free, joins_room, watch_refused, watch_set}
use Rattle.call_watching.proofs.set_watch.Goals as goal
use Rattle.call_watching.proofs.set_watch.Goals.{In_default}

pub returns-in-Err : goal.returns-in-Err
returns-in-Err c = watch_refused _ _ _ _ _ _ c.judge_watch.ensures c.in-Err.is c.refused.ensures

-- what is known where the watch is not refused
free : (c : In_default) → Free c.args.head c.args.n (lent c.args.tables.now) (take c.args.records c.args.watches) (length c.args.out.now)
free c = watch_free _ _ _ _ _ _ (accepted_number _ c.judge_watch.ensures c.in_default.is)

pub window_of-window-requires : goal.window_of-window-requires
window_of-window-requires c =
    let known = free (goal.at.window_of-window-requires c).In_default in
    record { newest_le_last_position = known.passed.whole.low_newest; within = list_window _ _ known.passed known.range }

pub overflow_cast-n : goal.overflow_cast-n
overflow_cast-n c = let known = free (goal.at.overflow_cast-n c).In_default in omega (arith, known.range, known.passed.settings)

pub write_joins-count-requires : goal.write_joins-count-requires
write_joins-count-requires c = joins_room _ _ _ (free (goal.at.write_joins-count-requires c).In_default) c.window_of-window.ensures _

pub returns : goal.returns
returns c =
    watch_set _ _ _ _ _ _ c.judge_watch.ensures c.in_default.is (free (goal.at.returns c).In_default) c.window_of-window.ensures c.write_joins-count.ensures.value c.write_joins-count.ensures.out_after
    c.accepted.ensures
