-- `find` meets its contract: what is found among all records is found among the watches that stand.
use Rattle.std.proofs.Common.{◌∙◌, arith}
use Rattle.watch_numbers.proofs.Counting.{found_among}
use Rattle.watch_numbers.proofs.watches.find.Goals as goal

pub returns : goal.returns
returns c = c.contains.ensures.value ∙ found_among _ _ _ _ (omega arith) c.watch_of-watch.ensures
