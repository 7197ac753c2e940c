-- `put_line` meets its contract: each field is laid behind those before, and the newline behind the last.
use Rattle.text.proofs.Lines.{Line}
use Rattle.text.proofs.put_line.Given as goal

abbrev pub invariant-loop-n : goal.invariant-loop-n
invariant-loop-n l = Line l.letter l.numbers l.initial.text l.text l.at l.n-index
