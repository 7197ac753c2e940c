-- `judge` meets its contract: the quote is tested behind the tables and watches, or in a reachable book behind the settings.
use mathlib.Core.Path.{refl}
use Rattle.model.specs.Book.{watchful_answer, quote_answer}
use Rattle.call_judging.proofs.Answering.{handed_on, goes_on}
use Rattle.call_quoting.specs.Answers.{reached_answer}
use Rattle.call_quoting.proofs.Reaching.{reached_answers}
use Rattle.call_quoting.proofs.judged.judge.Goals as goal

pub returns-in_err-judge_settings : goal.returns-in_err-judge_settings
unfolding reached_answer
returns-in_err-judge_settings c =
    reached_answers _ _ (c.requires c.if-reachable.true) (handed_on _ _ _ c.judge_settings.ensures c.in_err-judge_settings.was c.from_residual.ensures refl)

pub returns-then-reachable : goal.returns-then-reachable
unfolding reached_answer
returns-then-reachable c =
    reached_answers _ _ (c.requires c.if-reachable.true) (goes_on _ _ c.judge_settings.ensures c.in_ok-judge_settings.was c.judge_quote.ensures refl)

pub returns-in_err-judge_watchful : goal.returns-in_err-judge_watchful
unfolding quote_answer watchful_answer
returns-in_err-judge_watchful c = handed_on _ _ _ c.judge_watchful.ensures c.in_err-judge_watchful.was c.from_residual-in_err-judge_watchful.ensures refl

pub returns : goal.returns
unfolding quote_answer watchful_answer
returns c = goes_on _ _ c.judge_watchful.ensures c.in_ok-judge_watchful.was c.judge_quote-2.ensures refl
