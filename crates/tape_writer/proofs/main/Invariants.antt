-- At every turn the writer stands within what has come of the input, and what is gathered lies within its buffer.
use Rattle.std.proofs.Common.{◌≤◌, length}
use Rattle.tape_writer.proofs.main.Given as goal

abbrev pub invariant-loop : goal.invariant-loop
invariant-loop l = (l.writer.place ≤ l.writer.end) × (l.writer.end ≤ length l.text) × (l.writer.used ≤ length l.out)
