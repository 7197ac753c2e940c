-- `judge_size` meets its contract: the test of n stands behind those of the tables.
use mathlib.Core.Path.{refl}
use Rattle.model.specs.Book.{answer_of}
use Rattle.call_judging.proofs.Answering.{handed_on, tested}
use Rattle.call_looking.specs.Shown.{size_answer}
use Rattle.call_looking.proofs.judge_size.Goals as goal

pub returns-in_err-judge : goal.returns-in_err-judge
unfolding answer_of size_answer
returns-in_err-judge c = handed_on _ _ _ c.judge.ensures c.in_err-judge.was c.from_residual.ensures refl

pub returns : goal.returns
unfolding answer_of size_answer
returns c = tested _ _ _ c.judge.ensures c.in_ok-judge.was c.out_of_range.ensures c.refuse_if.ensures refl
