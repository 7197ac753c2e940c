-- `judge_watch` meets its contract: the watches are searched and the shares and the output judged behind the other tests.
use mathlib.Core.Path.{refl}
use native.Mathlib.Omega.{arith}
use Rattle.model.specs.Book.{watchful_answer}
use Rattle.call_judging.proofs.Answering.{handed_on, tested}
use Rattle.call_watching.proofs.Watches.{watch_asked}
use Rattle.call_watching.proofs.judge_watch.Goals as goal

pub returns-in_err-judge_watch_size : goal.returns-in_err-judge_watch_size
unfolding watchful_answer
returns-in_err-judge_watch_size c =
    watch_asked _ _ _ _ c.args.watches c.args.records (omega (arith, c.well_formed)) _ (handed_on _ _ _ c.judge_watch_size.ensures c.in_err-judge_watch_size.was c.from_residual.ensures refl)

pub returns-in_err-refuse_if : goal.returns-in_err-refuse_if
unfolding watchful_answer
returns-in_err-refuse_if c =
    let new = tested _ _ _ c.judge_watch_size.ensures c.in_ok-judge_watch_size.was c.find.ensures c.refuse_if.ensures refl in
    watch_asked _ _ _ _ c.args.watches c.args.records (omega (arith, c.well_formed)) _ (handed_on _ _ _ new c.in_err-refuse_if.was c.from_residual-in_err-refuse_if.ensures refl)

pub returns-in_err-refuse_if-2 : goal.returns-in_err-refuse_if-2
unfolding watchful_answer
returns-in_err-refuse_if-2 c =
    let new = tested _ _ _ c.judge_watch_size.ensures c.in_ok-judge_watch_size.was c.find.ensures c.refuse_if.ensures refl in
    let free = tested _ _ _ new c.in_ok-refuse_if.was c.full.ensures c.refuse_if-2.ensures refl in
    watch_asked _ _ _ _ c.args.watches c.args.records (omega (arith, c.well_formed)) _ (handed_on _ _ _ free c.in_err-refuse_if-2.was c.from_residual-in_err-refuse_if-2.ensures refl)

pub returns : goal.returns
unfolding watchful_answer
returns c =
    let new = tested _ _ _ c.judge_watch_size.ensures c.in_ok-judge_watch_size.was c.find.ensures c.refuse_if.ensures refl in
    let free = tested _ _ _ new c.in_ok-refuse_if.was c.full.ensures c.refuse_if-2.ensures refl in
    watch_asked _ _ _ _ c.args.watches c.args.records (omega (arith, c.well_formed)) _ (tested _ _ _ free c.in_ok-refuse_if-2.was c.short_output.ensures c.refuse_if-3.ensures refl)
