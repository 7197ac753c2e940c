-- `expired_live` meets its contract.
use mathlib.Core.Path.{◌∙◌}
use Rattle.call_settling.proofs.Numbers.{live_none, live_first}
use Rattle.call_settling.proofs.expired_live.Goals as goal

pub returns-then-by-eq0 : goal.returns-then-by-eq0
returns-then-by-eq0 c = live_none _ c.if-by-eq0.true

pub returns : goal.returns
returns c = c.from.ensures ∙ live_first _ c.requires.by_bound c.if-by-eq0.false
