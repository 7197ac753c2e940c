-- `write_frames` meets its contract: the frames of the lines passed stand at the front of the output.
use native.Mathlib.Omega.{arith}
use Rattle.csv_frames.proofs.Frames.{writing_start, used_inside, written_room, writing_more, writing_none, writing_end}
use Rattle.csv_frames.proofs.write_frames.Goals as goal

pub loop-at-init : goal.loop-at-init
loop-at-init c = writing_start _ _ _ c.requires

pub overflow_cast-d : goal.overflow_cast-d
overflow_cast-d c = omega (arith, c.loop-at.invariant.ready.most)

pub slice_bounds-write-count : goal.slice_bounds-write-count
slice_bounds-write-count c = used_inside c.loop-at.invariant c.in-Some.ensures

pub slice_bounds-write-start : goal.slice_bounds-write-start
slice_bounds-write-start c = omega (arith, used_inside c.loop-at.invariant c.in-Some.ensures)

pub slice_bounds-write-end : goal.slice_bounds-write-end
slice_bounds-write-end c = omega (arith, used_inside c.loop-at.invariant c.in-Some.ensures)

pub overflow_add-used : goal.overflow_add-used
overflow_add-used c =
    omega (arith, written_room c.loop-at.invariant c.in-Some.ensures c.write-written.ensures c.unwrap_or-used.ensures, c.loop-at.invariant.front.long, c.well_formed)

pub loop-at-smaller : goal.loop-at-smaller
loop-at-smaller c = omega (arith, c.in-Some.ensures.read.onward, c.in-Some.ensures.read.inside)

pub loop-at-preserved : goal.loop-at-preserved
loop-at-preserved c = writing_more c.loop-at.invariant c.in-Some.ensures c.write-written.ensures c.unwrap_or-used.ensures

pub shape_of-out : goal.shape_of-out
shape_of-out c = c.loop-at.invariant.front.long

pub returns : goal.returns
returns c = writing_end c.loop-at.invariant c.loop-at-test.false

pub returns-in_default : goal.returns-in_default
returns-in_default c = absurd (writing_none c.loop-at.invariant c.in_default.ensures)
