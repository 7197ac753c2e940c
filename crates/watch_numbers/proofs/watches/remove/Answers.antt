-- `remove` meets its contract.
use native.Mathlib.Omega.{arith}
use Rattle.watch_numbers.proofs.Removing.{stays, start, bounded, more_stays, more_goes, finish}
use Rattle.watch_numbers.proofs.watches.remove.Goals as goal

pub loop-watch-init : goal.loop-watch-init
loop-watch-init c = start _ _ (omega arith)

pub offset_bounds-kept-count : goal.offset_bounds-kept-count
offset_bounds-kept-count c = omega (arith, bounded _ _ _ _ _ c.loop-watch.invariant c.loop-watch-test.true)

pub bounds-kept-count : goal.bounds-kept-count
bounds-kept-count c = bounded _ _ _ _ _ c.loop-watch.invariant c.loop-watch-test.true

pub overflow_add-count : goal.overflow_add-count
overflow_add-count c = omega (arith, bounded _ _ _ _ _ c.loop-watch.invariant c.loop-watch-test.true)

pub loop-watch-preserved-then-not-stays : goal.loop-watch-preserved-then-not-stays
unfolding stays
loop-watch-preserved-then-not-stays c = more_goes _ _ _ _ _ c.loop-watch.invariant c.loop-watch-test.true c.if-not-stays.true

pub loop-watch-preserved : goal.loop-watch-preserved
unfolding stays
loop-watch-preserved c = more_stays _ _ _ _ _ c.loop-watch.invariant c.loop-watch-test.true c.if-not-stays.false

pub returns : goal.returns
returns c = rw (← c.watch_of-ended.ensures) (finish _ _ _ _ _ c.loop-watch.invariant c.loop-watch-test.false)
