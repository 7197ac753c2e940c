-- `rewind` meets its contract: where the rows find no place more they are moved to the front, table by table.
use native.Mathlib.Omega.{arith}
use Rattle.table_starts.specs.Starts.{stays}
use Rattle.table_starts.proofs.Rewinding.{rows_inside, rewound}
use Rattle.table_starts.proofs.rewind.Goals as goal

pub returns-then-row-lt-PLACES-clause-within_2 : goal.returns-then-row-lt-PLACES-clause-within_2
returns-then-row-lt-PLACES-clause-within_2 c = record { bounded = omega (arith, c.if-row-lt-PLACES.true); near = c.requires.within.0.near }

pub returns-then-row-lt-PLACES-clause-moved : goal.returns-then-row-lt-PLACES-clause-moved
returns-then-row-lt-PLACES-clause-moved c = stays

pub overflow_mul-n : goal.overflow_mul-n
overflow_mul-n c = omega (arith, (rows_inside c.requires.long c.requires.within.0 c.requires.within.1 c.if-row-lt-PLACES.false).0)

pub overflow_add-cell : goal.overflow_add-cell
overflow_add-cell c = omega (arith, (rows_inside c.requires.long c.requires.within.0 c.requires.within.1 c.if-row-lt-PLACES.false).0)

pub shift-requires : goal.shift-requires
shift-requires c =
    let i = rows_inside c.requires.long c.requires.within.0 c.requires.within.1 c.if-row-lt-PLACES.false in
    record {
      by_le_count = omega arith;
      count_in_bounds = omega (arith, i.0, c.requires.long.columns);
    }

pub shift-requires-2 : goal.shift-requires-2
shift-requires-2 c =
    let i = rows_inside c.requires.long c.requires.within.0 c.requires.within.1 c.if-row-lt-PLACES.false in
    record {
      by_le_count = omega arith;
      count_in_bounds = omega (arith, i.1, c.requires.long.positions);
    }

pub shift-requires-3 : goal.shift-requires-3
shift-requires-3 c =
    let i = rows_inside c.requires.long c.requires.within.0 c.requires.within.1 c.if-row-lt-PLACES.false in
    record {
      by_le_count = omega arith;
      count_in_bounds = omega (arith, i.1, c.requires.long.lower_ends);
    }

pub shift-requires-4 : goal.shift-requires-4
shift-requires-4 c =
    let i = rows_inside c.requires.long c.requires.within.0 c.requires.within.1 c.if-row-lt-PLACES.false in
    record {
      by_le_count = omega arith;
      count_in_bounds = omega (arith, i.1, c.requires.long.upper_ends);
    }

pub returns-clause-within_2 : goal.returns-clause-within_2
returns-clause-within_2 c = record { bounded = omega arith; near = omega arith }

pub returns-clause-moved : goal.returns-clause-moved
returns-clause-moved c =
    rewound c.requires.long c.requires.within.0 c.requires.within.1 c.if-row-lt-PLACES.false c.shift.ensures c.shift-2.ensures c.shift-3.ensures c.shift-4.ensures
