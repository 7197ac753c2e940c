-- `no_worse` meets its contract: each turn compares one column, and the first that is worse decides.
use mathlib.Core.Path.{sym, ◌∙◌}
use Rattle.table_finding.proofs.Idling.{rank_start, rank_turn, rank_end, rank_stop, worse_at}
use Rattle.table_finding.proofs.no_worse.Goals as goal

pub loop-i-init : goal.loop-i-init
loop-i-init c = rank_start _ _ _ _

pub returns-then-compare : goal.returns-then-compare
returns-then-compare c =
    let column = worse_at c.args.directions c.loop-i.i c.args.xs.now c.args.ys.now _ c.loop-i.invariant.bits≡ c.compare.ensures in
    rank_stop _ _ _ _ c.loop-i-test.true (sym column ∙ c.if-compare.true)

pub loop-i-preserved : goal.loop-i-preserved
loop-i-preserved c =
    let column = worse_at c.args.directions c.loop-i.i c.args.xs.now c.args.ys.now _ c.loop-i.invariant.bits≡ c.compare.ensures in
    rank_turn _ _ _ _ c.loop-i.invariant c.loop-i-test.true (sym column ∙ c.if-compare.false)

pub returns : goal.returns
returns c = rank_end _ _ _ _ c.loop-i.invariant c.loop-i-test.false
