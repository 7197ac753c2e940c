-- `gather` meets its contract: frame after frame is taken.
use Rattle.day_frames.specs.Gather.{state_of}
use Rattle.day_frames.proofs.Gathering.{Gathering}
use Rattle.day_frames.proofs.gather.Given as goal

abbrev pub invariant-loop-i : goal.invariant-loop-i
invariant-loop-i l = Gathering l.d l.tape l.fn.cells (state_of l.gathered) l.cells l._i
