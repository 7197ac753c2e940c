-- `join_at` meets its contract, by what both tapes have next.
use Rattle.venue_join.proofs.Joins.{refused_first, refused_second}
use Rattle.std.proofs.Common.{rules}
use Rattle.venue_join.proofs.join_at.Goals as goal

pub returns-in_err-next_first : goal.returns-in_err-next_first
returns-in_err-next_first c = refused_first _ _ _ _ c.next_pair.ensures c.in_err-next_first.was (search rules)

pub returns-in_err-next_second : goal.returns-in_err-next_second
returns-in_err-next_second c = refused_second _ _ _ _ c.next_pair.ensures c.next_pair-2.ensures c.in_ok-next_first.was c.in_err-next_second.was (search rules)
