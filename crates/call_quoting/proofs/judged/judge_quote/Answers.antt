-- `judge_quote` meets its contract: the column count is tested, behind it the position, and last the output.
use mathlib.Core.Path.{refl, ap, ◌∙◌}
use mathlib.Core.List.{[], ◌∷◌}
use Rattle.refusals.specs.Refusals.{number_of, first_of}
use Rattle.call_judging.proofs.Answering.{handed_on, tested}
use Rattle.call_quoting.proofs.judged.judge_quote.Goals as goal

pub returns-in_err-refuse_if : goal.returns-in_err-refuse_if
returns-in_err-refuse_if c = handed_on _ _ _ c.refuse_if.ensures c.in_err-refuse_if.was c.from_residual.ensures refl

pub returns-in_err-refuse_if-2 : goal.returns-in_err-refuse_if-2
returns-in_err-refuse_if-2 c =
    handed_on _ _ _ (tested (_ ∷ []) _ _ c.refuse_if.ensures c.in_ok-refuse_if.was refl c.refuse_if-2.ensures refl) c.in_err-refuse_if-2.was c.from_residual-in_err-refuse_if-2.ensures refl

pub returns : goal.returns
returns c =
    tested (_ ∷ _ ∷ []) _ _ (tested (_ ∷ []) _ _ c.refuse_if.ensures c.in_ok-refuse_if.was refl c.refuse_if-2.ensures refl) c.in_ok-refuse_if-2.was c.short_output.ensures c.refuse_if-3.ensures refl
