-- `judge_end` meets its contract: the watches are searched behind the other tests.
use mathlib.Core.Path.{refl, ap}
use native.Mathlib.Omega.{arith}
use mathlib.Core.Bool.{not}
use Rattle.model.specs.Book.{watchful_answer}
use Rattle.call_judging.proofs.Answering.{handed_on, tested}
use Rattle.call_watching.proofs.Watches.{end_asked}
use Rattle.call_watching.proofs.judge_end.Goals as goal

pub returns-in_err-judge_watch_size : goal.returns-in_err-judge_watch_size
unfolding watchful_answer
returns-in_err-judge_watch_size c =
    end_asked _ _ _ _ c.args.watches c.args.records (omega (arith, c.well_formed)) (handed_on _ _ _ c.judge_watch_size.ensures c.in_err-judge_watch_size.was c.from_residual.ensures refl)

pub returns : goal.returns
unfolding watchful_answer
returns c =
    end_asked _ _ _ _ c.args.watches c.args.records (omega (arith, c.well_formed)) (tested _ _ _ c.judge_watch_size.ensures c.in_ok-judge_watch_size.was (ap not c.find.ensures) c.refuse_if.ensures refl)
