-- `judge_watchful` meets its contract: torn watches are sought behind what the tables and the count of records show.
use mathlib.Core.Path.{ap, ◌∙◌}
use native.Mathlib.Omega.{arith}
use Rattle.refusals.specs.Refusals.{number_of}
use Rattle.refusals.proofs.Numbers.{handed_refusal}
use Rattle.call_judging.proofs.Answering.{watchful_refused, watchful_judged}
use Rattle.call_judging.proofs.judge_watchful.Goals as goal

pub returns-in_err-judge_rows : goal.returns-in_err-judge_rows
returns-in_err-judge_rows c =
    ap number_of (handed_refusal _ c.from_residual.ensures) ∙ watchful_refused _ _ (omega arith) _ _ c.judge_rows.ensures c.in_err-judge_rows.was

pub returns : goal.returns
returns c = watchful_judged _ _ (omega arith) _ _ c.judge_rows.ensures c.in_ok-judge_rows.was c.torn.ensures c.refuse_if.ensures
