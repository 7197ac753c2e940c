-- `join_piece` meets its contract: the joins so far, each on what the one before left.
use Rattle.venue_pieces.proofs.Steps.{left, Piece}
use Rattle.venue_pieces.proofs.join_piece.Given as goal

abbrev pub invariant-pairs : goal.invariant-pairs
invariant-pairs l = Piece l.first.tape.now l.second.tape.now l.first.ended l.second.ended l.written l.initial.joiner l.initial.out l.joiner l.out

abbrev pub decreases-pairs : goal.decreases-pairs
decreases-pairs l = left l.first.tape.now l.second.tape.now l.written l.joiner
