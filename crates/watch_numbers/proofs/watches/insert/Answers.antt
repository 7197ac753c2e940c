-- `insert` meets its contract.
use native.Mathlib.Omega.{arith}
use Rattle.watch_numbers.proofs.Inserting.{goes_here, start, more, finish}
use Rattle.watch_numbers.proofs.watches.insert.Goals as goal

pub loop-i-init : goal.loop-i-init
loop-i-init c = start _ _ (omega arith)

pub loop-i-preserved : goal.loop-i-preserved
unfolding goes_here
loop-i-preserved c = rw (c.chosen.ensures, c.chosen-carried.ensures) (more _ _ _ _ _ c.loop-i.invariant c.loop-i-test.true)

pub returns : goal.returns
returns c =
    rw (← c.watch_of-carried.ensures) (finish _ _ _ _ _ c.loop-i.invariant c.requires.capacity c.loop-i-test.false c.requires.untorn c.requires.free)
