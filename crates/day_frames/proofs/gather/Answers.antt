-- `gather` meets its contract: frame after frame is taken.
use native.Mathlib.Omega.{arith}
use Rattle.day_frames.proofs.Gathering.{gathering_start, few_quotes, gathering_more, gathering_end}
use Rattle.day_frames.proofs.gather.Goals as goal

pub loop-i-init : goal.loop-i-init
loop-i-init c = gathering_start _ _ _ c.none-gathered.ensures

pub step-gathered-requires : goal.step-gathered-requires
step-gathered-requires c = omega (arith, few_quotes _ _ _ c.loop-i.invariant, c.loop-i-test.true)

pub loop-i-preserved : goal.loop-i-preserved
loop-i-preserved c = gathering_more _ _ _ c.loop-i.invariant (omega arith) c.step-gathered.auto.cells c.step-gathered.ensures

pub returns : goal.returns
returns c = gathering_end _ _ _ c.loop-i.invariant (omega arith)
