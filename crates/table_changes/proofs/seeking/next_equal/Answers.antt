-- `next_equal` meets its contract: blocks are passed, then cells.
use mathlib.Core.Path.{sym, ◌∙◌}
use Rattle.table_changes.proofs.Passing.{unequal_join, found_some, found_none}
use Rattle.table_changes.proofs.seeking.next_equal.Goals as goal

pub returns-in_err-place : goal.returns-in_err-place
returns-in_err-place c =
    rw c.from_residual.ensures
    (found_none _ _ _ _ c.requires.to_in_bounds (unequal_join _ _ _ _ c.skip_unequal-far.ensures c.skip_unequal-near.ensures) (sym c.first_equal.ensures ∙ c.in_err-place.was))

pub returns : goal.returns
returns c =
    found_some _ _ _ _ c.requires.to_in_bounds (unequal_join _ _ _ _ c.skip_unequal-far.ensures c.skip_unequal-near.ensures) (sym c.first_equal.ensures ∙ c.in_ok-place.was)
