-- `end_of` meets its contract: the end moves by one position.
use Rattle.table_pair_changes.proofs.Sliding.{end_is}
use borrow.Author.Rules.{rules}
use Rattle.table_pair_changes.proofs.windows.end_of.Goals as goal

pub returns : goal.returns
returns c = end_is _ (search rules)
