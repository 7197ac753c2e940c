-- `judge` meets its contract: it is the answer of a call that lacks no record.
use Rattle.call_judging.proofs.Answering.{alone_judged}
use Rattle.call_judging.proofs.judge.Goals as goal

pub returns : goal.returns
returns c = alone_judged _ _ c.judge_rows.ensures
