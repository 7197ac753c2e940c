-- `judge_unpair` meets its contract: whether a pair stands is asked behind the other tests.
use mathlib.Core.Path.{refl}
use Rattle.model.specs.Book.{watchful_answer, pair_stands, unpair_answer}
use Rattle.call_judging.proofs.Answering.{handed_on, tested}
use Rattle.call_watching.proofs.Pairs.{not_twice}
use Rattle.call_watching.proofs.pairing.judge_unpair.Goals as goal

pub returns-in_err-judge_watchful : goal.returns-in_err-judge_watchful
unfolding watchful_answer unpair_answer
returns-in_err-judge_watchful c = handed_on _ _ _ c.judge_watchful.ensures c.in_err-judge_watchful.was c.from_residual.ensures refl

pub returns : goal.returns
unfolding watchful_answer unpair_answer pair_stands
returns c = tested _ _ _ c.judge_watchful.ensures c.in_ok-judge_watchful.was (not_twice _) c.refuse_if.ensures refl
