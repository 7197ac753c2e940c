-- `judge_sizes` meets its contract: the tests of n1 and n2 stand behind those of the tables.
use mathlib.Core.Path.{refl}
use Rattle.model.specs.Book.{answer_of}
use Rattle.call_judging.proofs.Answering.{handed_on, tested}
use Rattle.call_looking.specs.Shown.{sizes_answer}
use Rattle.call_looking.proofs.Listing.{below_one}
use Rattle.call_looking.proofs.judge_sizes.Goals as goal

pub returns-in_err-judge : goal.returns-in_err-judge
unfolding answer_of sizes_answer
returns-in_err-judge c = handed_on _ _ _ c.judge.ensures c.in_err-judge.was c.from_residual.ensures refl

pub returns-in_err-refuse_if : goal.returns-in_err-refuse_if
unfolding answer_of sizes_answer
returns-in_err-refuse_if c =
    let sized = tested _ _ _ c.judge.ensures c.in_ok-judge.was (rw below_one at c.out_of_sizes.ensures) c.refuse_if.ensures refl in
    handed_on _ _ _ sized c.in_err-refuse_if.was c.from_residual-in_err-refuse_if.ensures refl

pub returns : goal.returns
unfolding answer_of sizes_answer
returns c =
    let sized = tested _ _ _ c.judge.ensures c.in_ok-judge.was (rw below_one at c.out_of_sizes.ensures) c.refuse_if.ensures refl in
    tested _ _ _ sized c.in_ok-refuse_if.was refl c.refuse_if-2.ensures refl
