-- At every turn the places lie within what has come of both tapes, that within its buffer, and what is gathered within its own.
use Rattle.std.proofs.Common.{◌≤◌, length}
use Rattle.venue_joiner.proofs.join_files.Given as goal

abbrev pub invariant-turns : goal.invariant-turns
invariant-turns g l =
    (l.joiner.one.place ≤ l.first.end)
    × (l.first.end ≤ length l.first.piece)
    × (l.joiner.two.place ≤ l.second.end)
    × (l.second.end ≤ length l.second.piece)
    × (l.joiner.used ≤ length l.out)
