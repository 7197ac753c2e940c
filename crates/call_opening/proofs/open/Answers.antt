-- `open` meets its contract: refused, it leaves everything as it was; accepted, it clears the tables and the watches.
use mathlib.Core.Path.{◌≡◌, refl}
use Prim.Native.Nat.{◌≤◌}
use native.Mathlib.Nat.{mul-le-mul}
use Prim.Native.Nat.{◌≤◌}
use native.Mathlib.Omega.{arith}
use lib.ListN.{length}
use Rattle.lent_tables.specs.Lent.{lent_mut}
use Rattle.head.proofs.Settings.{Within}
use Rattle.call_judging.proofs.Answering.{Long}
use Rattle.call_opening.proofs.Openings.{open_passed, open_refused, open_done}
use Rattle.call_opening.proofs.open.Goals as goal
use Rattle.call_opening.proofs.open.Goals.{In_default}

pub returns-in-Err : goal.returns-in-Err
returns-in-Err c =
    let eight : length c.args.watches ≡ 8 = omega (arith, c.well_formed) in
    record {
      same_loan = (refl, refl, refl, refl, refl, refl, refl, refl);
      opened = open_refused _ _ _ _ _ c.fresh-head.ensures (rw c.to_read.ensures at c.judge_loan.ensures) c.args.watches eight c.in-Err.is c.fresh.ensures c.refused.ensures;
      watches_len = eight;
    }

-- what is known where the opening is accepted
passed : (c : In_default) → Within c.args.dimensions c.args.capacity × Long (lent_mut c.args.tables.now) c.args.dimensions c.args.capacity × (8 ≤ c.args.records)
passed c = open_passed _ _ _ _ _ c.fresh-head.ensures (rw c.to_read.ensures at c.judge_loan.ensures) c.in_default.is

pub overflow_mul-n : goal.overflow_mul-n
overflow_mul-n c = let within = (passed (goal.at.overflow_mul-n c).In_default).0 in omega (arith, mul-le-mul within.small_capacity within.bounded_columns)

pub clear-requires-clause-to_in_bounds : goal.clear-requires-clause-to_in_bounds
clear-requires-clause-to_in_bounds c = (passed (goal.at.clear-requires-clause-to_in_bounds c).In_default).1.columns

pub clear-requires-2-clause-to_in_bounds : goal.clear-requires-2-clause-to_in_bounds
clear-requires-2-clause-to_in_bounds c = (passed (goal.at.clear-requires-2-clause-to_in_bounds c).In_default).1.positions

pub clear-requires-3-clause-to_in_bounds : goal.clear-requires-3-clause-to_in_bounds
clear-requires-3-clause-to_in_bounds c = (passed (goal.at.clear-requires-3-clause-to_in_bounds c).In_default).1.lower_ends

pub clear-requires-4-clause-to_in_bounds : goal.clear-requires-4-clause-to_in_bounds
clear-requires-4-clause-to_in_bounds c = (passed (goal.at.clear-requires-4-clause-to_in_bounds c).In_default).1.upper_ends

pub returns : goal.returns
returns c =
    record {
      same_loan = (refl, refl, refl, refl, c.clear.auto.cells, c.clear-2.auto.cells, c.clear-3.auto.cells, c.clear-4.auto.cells);
      opened = open_done _ _ _ _ _ c.fresh-head.ensures (rw c.to_read.ensures at c.judge_loan.ensures) c.args.watches (omega (arith, c.well_formed)) c.in_default.is c.accepted.ensures
          c.clear.ensures c.clear-2.ensures c.clear-3.ensures c.clear-4.ensures;
      watches_len = refl;
    }
