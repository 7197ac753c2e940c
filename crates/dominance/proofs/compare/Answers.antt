-- `compare` meets its contract: each turn compares one column in both ways, and the shift brings the next direction bit to the front.
use Rattle.dominance.proofs.Comparing.{start as begin, more, finish}
use Rattle.dominance.proofs.compare.Goals as goal

pub loop-i-init : goal.loop-i-init
loop-i-init c = begin _ _ _ _ _

pub loop-i-preserved : goal.loop-i-preserved
loop-i-preserved c = more c.loop-i.invariant c.loop-i-test.true _ _ c.is_better-better.ensures c.is_better-worse.ensures

pub returns : goal.returns
returns c = finish c.loop-i.invariant c.loop-i-test.false
