-- `meets_rules` meets its contract: torn rows fail, and of all others the parts decide.
use mathlib.Core.Path.{sym, ◌∙◌}
use native.Mathlib.Omega.{arith}
use Rattle.book_audit.proofs.Rules.{held_fits, columns_fit, torn_fails, by_parts}
use Rattle.book_audit.proofs.meets_rules.Goals as goal

pub returns-then-torn_rows : goal.returns-then-torn_rows
returns-then-torn_rows c = sym (torn_fails _ _ _ _ _ (sym c.torn_rows.ensures ∙ c.if-torn_rows.true))

pub invariant_of-rows : goal.invariant_of-rows
invariant_of-rows c =
    let untorn = sym c.torn_rows.ensures ∙ c.if-torn_rows.false in
    record {
      columns_fit = omega (arith, columns_fit _ _ _ _ _ c.requires.le_capacity untorn, c.requires.dimensions_in_bounds);
      positions_fit = omega (arith, held_fits _ _ _ _ _ c.requires.le_capacity untorn, c.requires.capacity_in_bounds);
    }

pub right_ends-right-requires-clause-count_in_bounds : goal.right_ends-right-requires-clause-count_in_bounds
right_ends-right-requires-clause-count_in_bounds c =
    let untorn = sym c.torn_rows.ensures ∙ c.if-torn_rows.false in
    omega (arith, held_fits _ _ _ _ _ c.requires.le_capacity untorn, c.requires.capacity_in_bounds_2)

pub right_ends-right-requires-clause-count_in_bounds_2 : goal.right_ends-right-requires-clause-count_in_bounds_2
right_ends-right-requires-clause-count_in_bounds_2 c =
    let untorn = sym c.torn_rows.ensures ∙ c.if-torn_rows.false in
    omega (arith, held_fits _ _ _ _ _ c.requires.le_capacity untorn, c.requires.capacity_in_bounds_3)

pub all_zero-requires-clause-from_le_to : goal.all_zero-requires-clause-from_le_to
all_zero-requires-clause-from_le_to c =
    let untorn = sym c.torn_rows.ensures ∙ c.if-torn_rows.false in
    columns_fit _ _ _ _ _ c.requires.le_capacity untorn

pub all_zero-requires-2-clause-from_le_to : goal.all_zero-requires-2-clause-from_le_to
all_zero-requires-2-clause-from_le_to c =
    let untorn = sym c.torn_rows.ensures ∙ c.if-torn_rows.false in
    held_fits _ _ _ _ _ c.requires.le_capacity untorn

pub all_zero-requires-3-clause-from_le_to : goal.all_zero-requires-3-clause-from_le_to
all_zero-requires-3-clause-from_le_to c =
    let untorn = sym c.torn_rows.ensures ∙ c.if-torn_rows.false in
    held_fits _ _ _ _ _ c.requires.le_capacity untorn

pub all_zero-requires-4-clause-from_le_to : goal.all_zero-requires-4-clause-from_le_to
all_zero-requires-4-clause-from_le_to c =
    let untorn = sym c.torn_rows.ensures ∙ c.if-torn_rows.false in
    held_fits _ _ _ _ _ c.requires.le_capacity untorn

pub returns : goal.returns
returns c =
    let untorn = sym c.torn_rows.ensures ∙ c.if-torn_rows.false in
    by_parts _ _ _ _ _ c.requires.le_capacity untorn _ c.right_ends-right.ensures _ _ _ _ c.all_zero.ensures c.all_zero-2.ensures c.all_zero-3.ensures c.all_zero-4.ensures
