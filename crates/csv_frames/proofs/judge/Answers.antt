-- `judge` meets its contract: every line passed fits.
use native.Mathlib.Omega.{arith}
use Rattle.csv_frames.proofs.Judging.{judging_start, judging_more, judging_misfit, judging_end}
use Rattle.csv_frames.proofs.judge.Goals as goal

pub loop-place-init : goal.loop-place-init
loop-place-init c = judging_start _ _

pub overflow_add-lines : goal.overflow_add-lines
overflow_add-lines c = omega (arith, c.loop-place.invariant.few, c.loop-place.invariant.inside)

pub loop-place-smaller : goal.loop-place-smaller
loop-place-smaller c = omega (arith, c.in-Some.ensures.read.onward, c.in-Some.ensures.read.inside)

pub loop-place-preserved : goal.loop-place-preserved
loop-place-preserved c = judging_more c.loop-place.invariant c.in-Some.ensures

pub returns : goal.returns
returns c = judging_end c.loop-place.invariant c.loop-place-test.false

pub returns-in_default : goal.returns-in_default
returns-in_default c = judging_misfit c.loop-place.invariant c.in_default.ensures
