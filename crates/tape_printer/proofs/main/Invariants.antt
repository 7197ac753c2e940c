-- At every turn the lines stand within the text, what has come of the tape within its buffer, and the rows within the tables; the book is one
-- that calls left.
use Rattle.model.specs.Promises.{tables}
use Rattle.tape_printer.proofs.Printing.{Printing}
use Rattle.tape_printer.proofs.main.Given as goal

abbrev pub invariant-loop : goal.invariant-loop
invariant-loop l = Printing (tables l.columns l.positions l.lower_ends l.upper_ends) l.tape l.text l.playback
