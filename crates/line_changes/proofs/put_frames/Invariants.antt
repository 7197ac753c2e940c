-- `put_frames` meets its contract: the line of each frame is laid behind those before.
use Prim.Native.Nat.{◌-◌}
use lib.ListN.{length}
use Rattle.line_changes.proofs.Printing.{Printing}
use Rattle.line_changes.proofs.put_frames.Given as goal

abbrev pub invariant-loop-next : goal.invariant-loop-next
invariant-loop-next l = Printing l.bytes l.initial.text l.text l.at l.place

abbrev pub decreases-loop-next : goal.decreases-loop-next
decreases-loop-next l = length l.bytes - l.place
