-- `put_long` meets its contract: the digits are written from the last to the first, each in its place.
use Rattle.text.proofs.Digits.{Putting}
use Rattle.text.proofs.put_long.Given as goal

abbrev pub invariant-loop-i : goal.invariant-loop-i
invariant-loop-i l = Putting l.n l.initial.text l.count l.text l.rest l.i
