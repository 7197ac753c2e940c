-- `in_places` meets its contract: each turn passes one row.
use mathlib.Core.Path.{refl, ◌∙◌}
use native.Mathlib.Omega.{arith}
use Rattle.table_cells.proofs.Passing.{test_counts, live_fits, start, more, finish}
use Rattle.table_cells.proofs.rows.in_places.Goals as goal

pub loop-i-init : goal.loop-i-init
loop-i-init c = start

pub overflow_add-live : goal.overflow_add-live
overflow_add-live c = omega (arith, live_fits c.loop-i.invariant c.loop-i-test.true (c.from-live.ensures ∙ test_counts _))

pub loop-i-preserved : goal.loop-i-preserved
loop-i-preserved c = more c.loop-i.invariant c.loop-i-test.true _ _ _ _ refl refl refl (c.from-live.ensures ∙ test_counts _)

pub returns : goal.returns
returns c = finish c.loop-i.invariant c.loop-i-test.false _
