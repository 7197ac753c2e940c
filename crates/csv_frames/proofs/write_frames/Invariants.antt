-- `write_frames` meets its contract: the frames of the lines passed stand at the front of the output.
use Prim.Native.Nat.{◌-◌}
use lib.ListN.{length}
use Rattle.csv_frames.proofs.Frames.{Writing}
use Rattle.csv_frames.proofs.write_frames.Given as goal

abbrev pub invariant-loop-at : goal.invariant-loop-at
invariant-loop-at l = Writing l.d l.file l.initial.out l.out l.at l.used

abbrev pub decreases-loop-at : goal.decreases-loop-at
decreases-loop-at l = length l.file - l.at
