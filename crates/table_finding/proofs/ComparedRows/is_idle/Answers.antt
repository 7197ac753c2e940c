-- `is_idle` meets its contract: where a row over the quote is sought, one that is worse than the quote in some column is none.
use Rattle.table_finding.proofs.Idling.{idle_worse, rest_whole}
use Rattle.table_finding.proofs.ComparedRows.is_idle.Goals as goal

pub returns : goal.returns
returns c = idle_worse _ (rw rest_whole at c.no_worse.ensures) c.if-no_worse.false c.is_kept-2.ensures
