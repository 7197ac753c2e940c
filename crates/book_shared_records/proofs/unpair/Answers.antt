-- `unpair` meets its contract: the end of the pair, by the first eight records.
use Rattle.book_shared_records.proofs.Fronts.{unpair_records}
use Rattle.book_shared_records.proofs.unpair.Goals as goal

pub returns : goal.returns
returns c = unpair_records _ c.args.head _ c.numbers-before.ensures c.unpair.ensures
