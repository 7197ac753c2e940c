-- `named_before` meets its contract.
use native.Mathlib.Omega.{arith}
use Rattle.call_settling.proofs.Numbers.{before_none, before_live, before_upper, first_held, upper_within, named_any, named_some}
use mathlib.Core.Path.{ap}
use mathlib.Core.Bool.{not}
use Rattle.call_settling.proofs.named_before.Goals as goal

pub returns-then-not-reachable : goal.returns-then-not-reachable
returns-then-not-reachable c = named_any _ _ _ (ap not c.if-not-reachable.true)

pub returns-then-gone-eq0 : goal.returns-then-gone-eq0
returns-then-gone-eq0 c = named_some _ _ _ (ap not c.if-not-reachable.false) (before_none _ _ c.expired_position-gone.ensures c.if-gone-eq0.true)

pub bounds-upper_ends-0 : goal.bounds-upper_ends-0
bounds-upper_ends-0 c = first_held _ _ c.expired_position-gone.ensures c.requires c.if-gone-eq0.false

pub returns-then-upper-eq0 : goal.returns-then-upper-eq0
returns-then-upper-eq0 c = named_some _ _ _ (ap not c.if-not-reachable.false) (before_live _ _ c.expired_position-gone.ensures c.if-gone-eq0.false c.if-upper-eq0.true)

pub overflow_sub-result : goal.overflow_sub-result
overflow_sub-result c = (upper_within _ _ c.expired_position-gone.ensures c.requires c.if-gone-eq0.false c.if-upper-eq0.false).0

pub overflow_cast-result : goal.overflow_cast-result
overflow_cast-result c = omega (arith, (upper_within _ _ c.expired_position-gone.ensures c.requires c.if-gone-eq0.false c.if-upper-eq0.false).1, c.requires.below)

pub returns : goal.returns
returns c =
    named_some _ _ _ (ap not c.if-not-reachable.false) (before_upper _ _ c.expired_position-gone.ensures c.if-gone-eq0.false c.if-upper-eq0.false)
