-- `judge_both` meets its contract: the quote is judged, and behind it the size.
use Rattle.call_quote_looking.proofs.Answers.{sized_handed, sized_is}
use Rattle.call_quote_looking.proofs.judge_both.Goals as goal

pub returns-in_err-judge : goal.returns-in_err-judge
returns-in_err-judge c = sized_handed _ _ _ _ _ _ _ c.judge.ensures c.in_err-judge.was c.from_residual.ensures

pub returns : goal.returns
returns c = sized_is _ _ _ _ _ _ c.judge.ensures c.in_ok-judge.was c.out_of_range.ensures c.refuse_if.ensures
