-- `unpair` meets its contract: refused, it hands the head back as it came; accepted, without the pair.
use Rattle.call_watching.proofs.Pairs.{unpair_refused, unpair_done}
use Rattle.call_watching.proofs.pairing.unpair.Goals as goal

pub returns-in-Err : goal.returns-in-Err
returns-in-Err c = unpair_refused _ _ _ c.judge_unpair.ensures c.in-Err.is c.refused.ensures

pub returns : goal.returns
returns c = unpair_done _ _ _ c.judge_unpair.ensures c.in_default.is c.after_watch.ensures c.accepted.ensures
