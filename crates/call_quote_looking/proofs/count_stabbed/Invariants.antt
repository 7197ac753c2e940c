-- `count_stabbed` meets its contract: each turn counts the row at one of the places.
use Rattle.call_quote_looking.proofs.Counting.{Counting}
use Rattle.call_quote_looking.proofs.count_stabbed.Given as goal

abbrev pub invariant-loop-place : goal.invariant-loop-place
invariant-loop-place l = Counting l.first l.start l.lower_ends l.places l.count l.place-index
