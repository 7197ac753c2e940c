-- `pair` meets its contract: the watch of the pair, by the first eight records.
use Rattle.book_shared_records.proofs.Fronts.{pair_records}
use Rattle.book_shared_records.proofs.pair.Goals as goal

pub returns : goal.returns
returns c = pair_records _ c.args.head c.args.n1 c.args.n2 _ c.numbers-before.ensures c.pair.ensures
