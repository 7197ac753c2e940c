-- `torn_rows` meets its contract: a torn head decides, and under any other head the places of the rows do.
use mathlib.Core.Path.{sym, ◌∙◌}
use native.Mathlib.Omega.{arith}
use Rattle.model.specs.Book.{book_rows}
use Rattle.table_cells.proofs.Reading.{length_rows}
use Rattle.table_cells.proofs.Torn.{head_torn, head_likely, likely_fits, by_places}
use Rattle.table_cells.proofs.rows.torn_rows.Goals as goal

pub returns-then-torn_head : goal.returns-then-torn_head
unfolding book_rows
returns-then-torn_head c = sym (head_torn _ _ (length_rows _ _ _) c.requires.le_capacity (sym c.torn_head.ensures ∙ c.if-torn_head.true))

pub overflow_cast-first : goal.overflow_cast-first
overflow_cast-first c =
    let likely = head_likely _ (sym c.torn_head.ensures ∙ c.if-torn_head.false) in
    omega (arith, c.window_start-first.ensures, likely_fits _ c.requires.le_capacity likely)

pub in_places-requires : goal.in_places-requires
in_places-requires c =
    let likely = head_likely _ (sym c.torn_head.ensures ∙ c.if-torn_head.false) in
    record {
      held_bound = omega (arith, c.window_start-first.ensures, likely.fills, likely_fits _ c.requires.le_capacity likely);
      held_in_bounds = omega (arith, c.window_start-first.ensures, likely.fills, likely_fits _ c.requires.le_capacity likely);
      held_in_bounds_2 = omega (arith, c.window_start-first.ensures, likely.fills, likely_fits _ c.requires.le_capacity likely);
      held_in_bounds_3 = omega (arith, c.window_start-first.ensures, likely.fills, likely_fits _ c.requires.le_capacity likely);
    }

pub returns : goal.returns
returns c =
    by_places _ _ _ _ c.requires.le_capacity (sym c.torn_head.ensures ∙ c.if-torn_head.false) c.window_start-first.ensures c.in_places.ensures
