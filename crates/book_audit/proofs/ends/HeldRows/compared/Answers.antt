-- `compared` meets its contract: the two ways of standing over are those of the rows' columns.
use native.Mathlib.Omega.{arith}
use lib.ListN.{length-take, length-drop}
use Rattle.table_cells.proofs.Reading.{row_within}
use Rattle.book_audit.proofs.Seeking.{over_younger_by, over_older_by}
use Rattle.book_audit.proofs.ends.HeldRows.compared.Goals as goal

pub overflow_mul-from : goal.overflow_mul-from
overflow_mul-from c = omega (arith, row_within _ _ c.args.self.now.dimensions c.requires.younger_held, c.args.self.now.columns_fit)

pub overflow_add-to : goal.overflow_add-to
overflow_add-to c = omega (arith, row_within _ _ c.args.self.now.dimensions c.requires.younger_held, c.args.self.now.columns_fit)

pub compare-requires : goal.compare-requires
compare-requires c =
    record {
      d_in_bounds = simp (length-take, length-drop) (omega (arith, row_within _ _ c.args.self.now.dimensions c.requires.younger_held, c.args.self.now.columns_fit));
      d_in_bounds_2 = omega (arith, row_within _ _ c.args.self.now.dimensions c.requires.older_held, c.args.self.now.columns_fit);
    }

pub returns-clause-under : goal.returns-clause-under
returns-clause-under c = over_younger_by _ _ _ _ _ _ c.compare.ensures

pub returns-clause-over : goal.returns-clause-over
returns-clause-over c = over_older_by _ _ _ _ _ _ c.compare.ensures
