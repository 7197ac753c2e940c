-- `play_piece` meets its contract: step by step, each on what the one before left.
use Rattle.model.specs.Promises.{tables}
use Rattle.tape_playback.proofs.Advancing.{left}
use Rattle.tape_pieces.proofs.Playing.{Playing}
use Rattle.tape_pieces.proofs.play_piece.Given as goal

abbrev pub invariant-loop-columns : goal.invariant-loop-columns
invariant-loop-columns l =
    Playing l.tape (tables l.initial.columns l.initial.positions l.initial.lower_ends l.initial.upper_ends) l.initial.bytes l.initial.text l.initial.now (tables l.columns l.positions l.lower_ends l.upper_ends) l.bytes l.text l.now

abbrev pub decreases-loop-columns : goal.decreases-loop-columns
decreases-loop-columns l = left l.tape l.now.place l.now.over
