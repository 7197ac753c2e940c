-- `follower_known` meets its contract, by what stands at the place.
use mathlib.Core.Path.{sym, ◌∙◌}
use Rattle.tape_waiting.proofs.Waits.{none_follows, other_follows, look_follows}
use Rattle.tape_waiting.proofs.follower_known.Goals as goal

pub returns-in-Some-eq16 : goal.returns-in-Some-eq16
returns-in-Some-eq16 c =
    let l = c.in-Some-eq16.ensures.lookup.3 in
    c.ready.ensures ∙ look_follows c.args.tape.now c.args.next l.0 (sym (l.1 0) ∙ c.in-Some-eq16.field-0-test)

pub returns-in-Some : goal.returns-in-Some
returns-in-Some c =
    let l = c.in-Some.ensures.lookup.3 in
    other_follows c.args.tape.now c.args.next l.0 (λ e. c.in-Some.field-0-test.1 (l.1 0 ∙ e))

pub returns-in-None : goal.returns-in-None
returns-in-None c = none_follows _ _ c.in-None.ensures.lookup.3
