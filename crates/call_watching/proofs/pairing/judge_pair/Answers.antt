-- `judge_pair` meets its contract: whether a pair stands is asked behind the sizes of n1 and n2 and their order, and the output last.
use mathlib.Core.Path.{refl}
use Rattle.model.specs.Book.{watchful_answer, pair_stands, pair_answer}
use Rattle.call_judging.proofs.Answering.{handed_on, tested}
use Rattle.call_watching.proofs.pairing.judge_pair.Goals as goal

pub returns-in_err-judge_watchful : goal.returns-in_err-judge_watchful
unfolding watchful_answer pair_answer
returns-in_err-judge_watchful c = handed_on _ _ _ c.judge_watchful.ensures c.in_err-judge_watchful.was c.from_residual.ensures refl

pub returns-in_err-refuse_if : goal.returns-in_err-refuse_if
unfolding watchful_answer pair_answer
returns-in_err-refuse_if c =
    let sized = tested _ _ _ c.judge_watchful.ensures c.in_ok-judge_watchful.was c.out_of_sizes.ensures c.refuse_if.ensures refl in
    handed_on _ _ _ sized c.in_err-refuse_if.was c.from_residual-in_err-refuse_if.ensures refl

pub returns-in_err-refuse_if-2 : goal.returns-in_err-refuse_if-2
unfolding watchful_answer pair_answer
returns-in_err-refuse_if-2 c =
    let sized = tested _ _ _ c.judge_watchful.ensures c.in_ok-judge_watchful.was c.out_of_sizes.ensures c.refuse_if.ensures refl in
    let ordered = tested _ _ _ sized c.in_ok-refuse_if.was refl c.refuse_if-2.ensures refl in
    handed_on _ _ _ ordered c.in_err-refuse_if-2.was c.from_residual-in_err-refuse_if-2.ensures refl

pub returns-in_err-refuse_if-3 : goal.returns-in_err-refuse_if-3
unfolding watchful_answer pair_answer pair_stands
returns-in_err-refuse_if-3 c =
    let sized = tested _ _ _ c.judge_watchful.ensures c.in_ok-judge_watchful.was c.out_of_sizes.ensures c.refuse_if.ensures refl in
    let ordered = tested _ _ _ sized c.in_ok-refuse_if.was refl c.refuse_if-2.ensures refl in
    let free = tested _ _ _ ordered c.in_ok-refuse_if-2.was refl c.refuse_if-3.ensures refl in
    handed_on _ _ _ free c.in_err-refuse_if-3.was c.from_residual-in_err-refuse_if-3.ensures refl

pub returns : goal.returns
unfolding watchful_answer pair_answer pair_stands
returns c =
    let sized = tested _ _ _ c.judge_watchful.ensures c.in_ok-judge_watchful.was c.out_of_sizes.ensures c.refuse_if.ensures refl in
    let ordered = tested _ _ _ sized c.in_ok-refuse_if.was refl c.refuse_if-2.ensures refl in
    let free = tested _ _ _ ordered c.in_ok-refuse_if-2.was refl c.refuse_if-3.ensures refl in
    tested _ _ _ free c.in_ok-refuse_if-3.was c.short_output.ensures c.refuse_if-4.ensures refl
