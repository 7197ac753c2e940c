-- `judge` meets its contract: every line passed fits.
use Prim.Native.Nat.{◌-◌}
use lib.ListN.{length}
use Rattle.csv_frames.proofs.Judging.{Judging}
use Rattle.csv_frames.proofs.judge.Given as goal

abbrev pub invariant-loop-place : goal.invariant-loop-place
invariant-loop-place l = Judging l.d l.file l.place l.lines

abbrev pub decreases-loop-place : goal.decreases-loop-place
decreases-loop-place l = length l.file - l.place
