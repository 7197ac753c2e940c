-- `count_of` meets its contract: what is counted among all records is counted among the watches that stand.
use Rattle.std.proofs.Common.{◌∙◌, arith}
use Rattle.watch_numbers.proofs.Counting.{counted_of}
use Rattle.watch_numbers.proofs.shares.count_of.Goals as goal

pub returns : goal.returns
returns c = c.count_number.ensures ∙ counted_of _ _ _ (omega arith) c.desk_number-number.ensures
