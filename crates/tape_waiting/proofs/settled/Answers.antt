-- `settled` meets its contract, by the tests it makes.
use native.Mathlib.Omega.{arith}
use mathlib.Core.Path.{ap, ◌∙◌}
use mathlib.Core.Bool.{not}
use Rattle.tape_waiting.proofs.Waits.{not_settled, stands, low_settled, high_settled, by_next}
use Rattle.tape_waiting.proofs.settled.Goals as goal

pub returns-then-not-ready : goal.returns-then-not-ready
returns-then-not-ready c = not_settled _ _ c.ready.ensures (ap not c.if-not-ready.true)

pub bounds-tape-place : goal.bounds-tape-place
bounds-tape-place c = stands _ _ c.ready.ensures (ap not c.if-not-ready.false)

pub returns-in-1-to-6 : goal.returns-in-1-to-6
returns-in-1-to-6 c =
    c.follower_known.ensures ∙ by_next _ _ c.ready.ensures (ap not c.if-not-ready.false) (omega (arith, c.in-1-to-6)) (omega (arith, c.in-1-to-6)) (c.from.ensures ∙ c.body_length.ensures)

pub returns-in_default : goal.returns-in_default
returns-in_default c = low_settled _ _ c.ready.ensures (ap not c.if-not-ready.false) (omega (arith, c.in_default))

pub returns-in_default-2 : goal.returns-in_default-2
returns-in_default-2 c = high_settled _ _ c.ready.ensures (ap not c.if-not-ready.false) (omega (arith, c.in_default))
