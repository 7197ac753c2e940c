-- `upper_end` meets its contract: each turn asks one row, from the next one on.
use mathlib.Core.Path.{◌∙◌}
use Rattle.book_audit.proofs.Seeking.{onward_start, onward_found, onward_more, onward_none}
use Rattle.book_audit.proofs.ends.HeldRows.upper_end.Goals as goal

pub loop-j-init : goal.loop-j-init
loop-j-init c = onward_start (record { own = c.requires; columns_fit = c.args.self.now.columns_fit; positions_fit = c.args.self.now.positions_fit })

pub returns-then-over_older : goal.returns-then-over_older
returns-then-over_older c = onward_found c.loop-j.invariant c.loop-j-test.true (c.over_older.ensures ∙ c.compared.ensures.over) c.if-over_older.true

pub loop-j-preserved : goal.loop-j-preserved
loop-j-preserved c = onward_more c.loop-j.invariant c.loop-j-test.true (c.over_older.ensures ∙ c.compared.ensures.over) c.if-over_older.false

pub returns : goal.returns
returns c = onward_none c.loop-j.invariant c.loop-j-test.false
