-- `disordered` meets its contract.
use native.Mathlib.Omega.{arith}
use Rattle.watch_numbers.proofs.Judging.{start, more, finish}
use Rattle.watch_numbers.proofs.watches.disordered.Goals as goal

pub loop-watch-init : goal.loop-watch-init
loop-watch-init c = start _ _ (omega arith)

pub loop-watch-preserved : goal.loop-watch-preserved
loop-watch-preserved c = rw c.is_watch.ensures (more _ _ _ _ _ _ c.loop-watch.invariant c.loop-watch-test.true)

pub returns : goal.returns
returns c = finish _ _ _ _ _ _ c.loop-watch.invariant c.loop-watch-test.false
