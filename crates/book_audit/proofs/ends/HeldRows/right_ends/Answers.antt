-- `right_ends` meets its contract: each turn judges one row.
use Rattle.book_audit.proofs.Judging.{start, more, finish}
use Rattle.book_audit.proofs.ends.HeldRows.right_ends.Goals as goal

pub loop-i-init : goal.loop-i-init
loop-i-init c = start

pub loop-i-preserved : goal.loop-i-preserved
loop-i-preserved c = more c.loop-i.invariant c.loop-i-test.true _ _ c.lower_end-lower_found.ensures c.upper_end-upper_found.ensures

pub returns : goal.returns
returns c = finish c.loop-i.invariant c.loop-i-test.false
