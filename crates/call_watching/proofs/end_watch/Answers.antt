-- `end_watch` meets its contract: its answer is the judgement's.
use Rattle.call_watching.proofs.Watches.{end_refused, end_accepted}
use Rattle.call_watching.proofs.end_watch.Goals as goal

pub returns-in-Ok : goal.returns-in-Ok
returns-in-Ok c = end_accepted _ _ _ _ _ c.judge_end.ensures c.in-Ok.is c.accepted.ensures

pub returns-in-Err : goal.returns-in-Err
returns-in-Err c = end_refused _ _ _ _ _ c.judge_end.ensures c.in-Err.is c.refused.ensures
