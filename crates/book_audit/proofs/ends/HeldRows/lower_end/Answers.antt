-- `lower_end` meets its contract: each turn asks one row, from the youngest back.
use mathlib.Core.Path.{◌∙◌}
use native.Mathlib.Omega.{arith}
use Rattle.book_audit.proofs.Seeking.{back_start, back_found, back_more, back_none}
use Rattle.book_audit.proofs.ends.HeldRows.lower_end.Goals as goal

pub loop-j-init : goal.loop-j-init
loop-j-init c = back_start (record { own = c.requires; columns_fit = c.args.self.now.columns_fit; positions_fit = c.args.self.now.positions_fit })

pub returns-then-under_older : goal.returns-then-under_older
returns-then-under_older c = back_found c.loop-j.invariant (omega arith) (c.under_older.ensures ∙ c.compared.ensures.under) c.if-under_older.true

pub loop-j-preserved : goal.loop-j-preserved
loop-j-preserved c = back_more c.loop-j.invariant (omega arith) (c.under_older.ensures ∙ c.compared.ensures.under) c.if-under_older.false

pub returns : goal.returns
returns c = back_none c.loop-j.invariant (omega arith)
