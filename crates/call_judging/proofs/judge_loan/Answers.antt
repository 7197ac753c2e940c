-- `judge_loan` meets its contract: the lengths and how many records are lent are tested behind the settings.
use mathlib.Core.Path.{refl, ap₂}
use mathlib.Core.Bool.{◌||◌}
use Rattle.call_judging.specs.Answers.{loan_answer}
use Rattle.call_judging.proofs.Answering.{handed_on, tested}
use Rattle.call_judging.proofs.judge_loan.Goals as goal

pub returns-in_err-judge_settings : goal.returns-in_err-judge_settings
unfolding loan_answer
returns-in_err-judge_settings c = handed_on _ _ _ c.judge_settings.ensures c.in_err-judge_settings.was c.from_residual.ensures refl

pub returns : goal.returns
unfolding loan_answer
returns c = tested _ _ _ c.judge_settings.ensures c.in_ok-judge_settings.was (ap₂ ◌||◌ c.short_tables-short.ensures refl) c.refuse_if.ensures refl
