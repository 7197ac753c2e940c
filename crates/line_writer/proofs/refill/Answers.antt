-- `refill` meets its contract.
use Rattle.std.proofs.Common.{arith, length-take}
use Rattle.streams.proofs.Behind.{given_behind, given_none}
use Rattle.line_writer.proofs.Refilling.{quiet_kept, refill_quiet, read_kept, refill_read}
use Rattle.line_writer.proofs.refill.Goals as goal

pub slice_bounds-line_end-end-2 : goal.slice_bounds-line_end-end-2
slice_bounds-line_end-end-2 g c = simp length-take (omega (arith, c.requires.place_le_end))

pub returns-then-writer-line_end-clause-refilled : goal.returns-then-writer-line_end-clause-refilled
returns-then-writer-line_end-clause-refilled g c = refill_quiet _ _ c.requires.place_le_end c.line_end.ensures c.if-writer-line_end.true

pub returns-then-writer-line_end-clause-given : goal.returns-then-writer-line_end-clause-given
returns-then-writer-line_end-clause-given g c = given_none _ _ _ (quiet_kept c.args.writer _ c.requires.place_le_end c.line_end.ensures c.if-writer-line_end.true)

pub returns-clause-refilled : goal.returns-clause-refilled
returns-clause-refilled g c =
    let came = c.read_in-came in
    refill_read _ _ c.requires.place_le_end c.requires.in_bounds _ came.new.buffer c.line_end.ensures c.if-writer-line_end.false c.min-stop.ensures c.to_front.ensures came.ensures.prefix_len.0 came.auto.buffer

pub returns-clause-given : goal.returns-clause-given
returns-clause-given g c =
    let came = c.read_in-came in
    let kept = read_kept c.args.writer _ c.requires.place_le_end _ came.new.buffer c.line_end.ensures c.if-writer-line_end.false c.min-stop.ensures c.to_front.ensures came.ensures.prefix_len.0 in
    given_behind _ _ _ _ _ kept came.ensures.bytes
