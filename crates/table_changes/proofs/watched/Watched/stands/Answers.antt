-- `stands` meets its contract: a row that is not live does not stand, a live one is compared.
use Rattle.table_finding.proofs.Comparisons.{live_zero, live_not, over_by}
use Rattle.table_changes.specs.Held.{stands}
use Rattle.table_changes.specs.Frames.{rows_by}
use Rattle.table_changes.proofs.watched.Watched.stands.Goals as goal

pub returns-then-tables-place-ne0 : goal.returns-then-tables-place-ne0
unfolding stands
returns-then-tables-place-ne0 c = rw (live_not c.args.self.now.before.now.tables.upper_ends.now c.args.place c.if-tables-place-ne0.true)

pub returns : goal.returns
unfolding stands
returns c =
    rw (c.over_older.ensures, live_zero c.args.self.now.before.now.tables.upper_ends.now c.args.place c.if-tables-place-ne0.false, over_by (rows_by c.args.self.now.before.now) c.args.place c.compare-c.result c.compare-c.ensures)
