-- `judge_watch_size` meets its contract: the test of n stands behind those of the tables and watches.
use mathlib.Core.Path.{refl}
use Rattle.model.specs.Book.{watchful_answer}
use Rattle.call_judging.proofs.Answering.{handed_on, tested}
use Rattle.call_watching.proofs.judge_watch_size.Goals as goal

pub returns-in_err-judge_watchful : goal.returns-in_err-judge_watchful
unfolding watchful_answer
returns-in_err-judge_watchful c = handed_on _ _ _ c.judge_watchful.ensures c.in_err-judge_watchful.was c.from_residual.ensures refl

pub returns : goal.returns
unfolding watchful_answer
returns c = tested _ _ _ c.judge_watchful.ensures c.in_ok-judge_watchful.was c.out_of_range.ensures c.refuse_if.ensures refl
