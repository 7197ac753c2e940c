-- `join_one` meets its contract: the part of the join is laid behind what is gathered.
use native.Mathlib.Omega.{arith}
use mathlib.Core.Path.{refl}
use Rattle.venue_pieces.proofs.Steps.{left_within, gather_fits, joined_one, joined_none}
use Rattle.venue_pieces.proofs.join_one.Goals as goal

pub slice_bounds-bytes-count : goal.slice_bounds-bytes-count
slice_bounds-bytes-count c = left_within _ _ c.left_out.ensures

pub slice_bounds-bytes-start : goal.slice_bounds-bytes-start
slice_bounds-bytes-start c = omega (arith, left_within _ _ c.left_out.ensures)

pub gather-requires : goal.gather-requires
gather-requires c = gather_fits _ _ _ _ _ _ (rw c.in-Ok-Some.field-0-is at c.in-Ok-Some.ensures).handed (omega arith)

pub returns-in-Ok-Some : goal.returns-in-Ok-Some
returns-in-Ok-Some c = joined_one _ _ _ _ (rw c.in-Ok-Some.field-0-is at c.in-Ok-Some.ensures) c.left_out.ensures c.gather.ensures refl

pub returns-in-Ok-None : goal.returns-in-Ok-None
returns-in-Ok-None c = joined_none _ _ _ _ _ (rw c.in-Ok-None.field-0-is at c.in-Ok-None.ensures)

pub returns-in-Err : goal.returns-in-Err
returns-in-Err c = joined_none _ _ _ _ _ c.in-Err.ensures
