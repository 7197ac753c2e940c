-- The turns, which call each other, meet their contracts: each turn of a loop tries one quote in hand.
use mathlib.Core.Path.{sym, ap, ◌∙◌}
use mathlib.Core.Bool.{not}
use lib.Dec.{eqb}
use Rattle.std.specs.Prelude.{Some}
use Rattle.drill_turns.proofs.Turning.{found_is, start_try, more_try, found_try, end_try, start_face, more_face, lost_face, end_face, keeps_on, after_on, on_first, on_second, on_list}
use Rattle.drill_turns.proofs.game.Game.+turns.Goals as goal

pub first_turn-loop-i-init : goal.first_turn-loop-i-init
first_turn-loop-i-init t c = start_try _ _ _

pub first_turn-returns-then-wins : goal.first_turn-returns-then-wins
first_turn-returns-then-wins t c =
    found_try _ _ _ _ c.loop-i.invariant c.loop-i-test.true (keeps_on _ _ _ _ _ c.lay_first.ensures ∙ sym c.wins.ensures ∙ c.if-wins.true)

pub first_turn-loop-i-preserved : goal.first_turn-loop-i-preserved
first_turn-loop-i-preserved t c =
    more_try _ _ _ _ c.loop-i.invariant c.loop-i-test.true (keeps_on _ _ _ _ _ c.lay_first.ensures ∙ sym c.wins.ensures ∙ c.if-wins.false)

pub first_turn-returns : goal.first_turn-returns
first_turn-returns t c = end_try _ _ _ _ c.loop-i.invariant c.loop-i-test.false

pub second_turn-loop-i-init : goal.second_turn-loop-i-init
second_turn-loop-i-init t c = start_face _ _ _

pub second_turn-returns-then-not-wins : goal.second_turn-returns-then-not-wins
second_turn-returns-then-not-wins t c =
    lost_face _ _ _ _ c.loop-i.invariant c.loop-i-test.true (after_on _ _ _ _ _ c.lay_second.ensures ∙ sym c.wins.ensures ∙ c.if-not-wins.true)

pub second_turn-loop-i-preserved : goal.second_turn-loop-i-preserved
second_turn-loop-i-preserved t c =
    more_face _ _ _ _ c.loop-i.invariant c.loop-i-test.true (after_on _ _ _ _ _ c.lay_second.ensures ∙ sym c.wins.ensures ∙ c.if-not-wins.false)

pub second_turn-returns : goal.second_turn-returns
second_turn-returns t c = end_face _ _ _ _ c.loop-i.invariant c.requires c.loop-i-test.false

pub wins-returns-in-Some-First : goal.wins-returns-in-Some-First
wins-returns-in-Some-First t c =
    c.is_some.ensures ∙ found_is c.first_turn.result ∙ ap (λ n. not (eqb n 0)) c.first_turn.ensures
    ∙ sym (on_first _ _ _ _ (sym c.layer.ensures ∙ c.in-Some-First.is ∙ ap Some c.in-Some-First.field-0-is))

pub wins-returns-in-Some-Second : goal.wins-returns-in-Some-Second
wins-returns-in-Some-Second t c =
    c.second_turn.ensures ∙ sym (on_second _ _ _ _ (sym c.layer.ensures ∙ c.in-Some-Second.is ∙ ap Some c.in-Some-Second.field-0-is))

pub wins-returns-in-None : goal.wins-returns-in-None
wins-returns-in-None t c = c.first_stands.ensures ∙ sym (on_list _ _ _ _ (sym c.layer.ensures ∙ c.in-None.is))
