-- `refill` meets its contract: what is not played is moved to the front, and these bytes are read behind it.
use Rattle.streams.proofs.Behind.{given_behind}
use Rattle.tape_streams.proofs.Refilling.{read_kept, refill_read}
use Rattle.tape_streams.proofs.refill.Goals as goal

pub returns-clause-refilled : goal.returns-clause-refilled
returns-clause-refilled g c =
    let came = c.read_in-came in
    refill_read _ _ c.requires.place_le_end came.new.buffer c.settled.ensures c.if-now-settled.false c.to_front.ensures came.ensures.prefix_len.0 came.auto.buffer

pub returns-clause-given : goal.returns-clause-given
returns-clause-given g c =
    let came = c.read_in-came in
    let kept = read_kept c.args.playback _ c.requires.place_le_end came.new.buffer c.to_front.ensures came.ensures.prefix_len.0 in
    given_behind _ _ _ _ _ kept came.ensures.bytes
