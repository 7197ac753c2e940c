-- `skip_unequal` meets its contract: each turn passes a block.
use mathlib.Core.Path.{refl, sym, ◌∙◌}
use Rattle.table_changes.proofs.Passing.{unequal_block}
use Rattle.table_changes.proofs.seeking.skip_unequal.Goals as goal

pub loop-i-preserved : goal.loop-i-preserved
loop-i-preserved c =
    unequal_block _ _ _ _ c.requires.to_in_bounds c.loop-i.invariant c.loop-i-test.true refl (sym c.any_equal.ensures ∙ c.if-any_equal.false)
