-- `pair` meets its contract: refused, it leaves everything as it was; accepted, it writes the joins and sets the pair.
use native.Mathlib.Omega.{arith}
use lib.ListN.{length}
use Rattle.lent_tables.specs.Lent.{lent}
use Rattle.call_looking.proofs.Listing.{past_window}
use Rattle.call_watching.proofs.Pairs.{FreePair, pair_free, joins_room, pair_refused, pair_set}
use Rattle.call_watching.proofs.pairing.pair.Goals as goal
use Rattle.call_watching.proofs.pairing.pair.Goals.{In_default}

pub returns-in-Err : goal.returns-in-Err
returns-in-Err c = pair_refused _ _ _ _ _ _ c.judge_pair.ensures c.in-Err.is c.refused.ensures

-- what is known where the watch is not refused
free : (c : In_default) → FreePair c.args.head c.args.n1 c.args.n2 (lent c.args.tables.now) (length c.args.out.now)
free c = pair_free _ _ _ _ _ _ c.judge_pair.ensures c.in_default.is

pub window_of-window-requires : goal.window_of-window-requires
window_of-window-requires c =
    let known = free (goal.at.window_of-window-requires c).In_default in
    let two = known.two in
    record { newest_le_last_position = known.passed.whole.low_newest; within = past_window _ _ known.passed (omega arith) known.order known.most }

pub write_joins-count-requires : goal.write_joins-count-requires
write_joins-count-requires c = joins_room _ _ _ _ (free (goal.at.write_joins-count-requires c).In_default) c.window_of-window.ensures

pub returns : goal.returns
returns c =
    pair_set _ _ _ _ _ _ c.judge_pair.ensures c.in_default.is (free (goal.at.returns c).In_default) c.window_of-window.ensures c.write_joins-count.ensures.value c.write_joins-count.ensures.out_after
    c.after_watch.ensures c.accepted.ensures
