-- `judge_rows` meets its contract: torn rows and a torn pair are sought where the settings and lengths pass.
use mathlib.Core.Path.{refl, ap₂}
use mathlib.Core.Bool.{◌||◌}
use Rattle.refusals.proofs.Numbers.{accepted_number}
use Rattle.call_judging.specs.Answers.{loan_answer, rows_answer}
use Rattle.call_judging.proofs.Answering.{handed_on, tested, loan_passed}
use Rattle.call_judging.proofs.judge_rows.Goals as goal

pub returns-in_err-judge_loan : goal.returns-in_err-judge_loan
unfolding loan_answer rows_answer
returns-in_err-judge_loan c = handed_on _ _ _ c.judge_loan.ensures c.in_err-judge_loan.was c.from_residual.ensures refl

pub torn_rows-rows-requires : goal.torn_rows-rows-requires
torn_rows-rows-requires c =
    let loan = loan_passed _ _ _ (accepted_number _ c.judge_loan.ensures c.in_ok-judge_loan.was) in
    record {
      le_capacity = loan.0.some_capacity;
      capacity_in_bounds = loan.1.positions;
      capacity_in_bounds_2 = loan.1.lower_ends;
      capacity_in_bounds_3 = loan.1.upper_ends;
    }

pub returns : goal.returns
unfolding loan_answer rows_answer
returns c =
    tested _ _ _ c.judge_loan.ensures c.in_ok-judge_loan.was (ap₂ ◌||◌ c.torn_rows-rows.ensures c.torn_pair-pair.ensures) c.refuse_if.ensures refl
