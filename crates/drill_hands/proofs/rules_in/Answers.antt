-- `rules_in` meets its contract.
use mathlib.Core.Path.{◌≡◌, sym, ap, ◌∙◌}
use Rattle.std.proofs.Common.{rules}
use Rattle.std.specs.Prelude.{None}
use Rattle.drill_hands.specs.Files.{asked_by}
use Rattle.drill_hands.proofs.Lines.{asked_none, asked_some}
use Rattle.drill_hands.proofs.rules_in.Goals as goal

pub returns-in_err-numbers : goal.returns-in_err-numbers
returns-in_err-numbers c =
    let e : c.from_residual.result ≡ None = search rules in
    e ∙ sym (asked_none c.fields_from.result (sym c.numbers_if.ensures ∙ c.in_err-numbers.was)) ∙ ap asked_by c.fields_from.ensures

pub returns : goal.returns
returns c = sym (asked_some c.fields_from.result (sym c.numbers_if.ensures ∙ c.in_ok-numbers.was)) ∙ ap asked_by c.fields_from.ensures
