-- `write_on` meets its contract: the frame that was laid fits, and the place behind the line stands within what has come.
use Rattle.std.proofs.Common.{arith}
use Rattle.line_writer.proofs.Laying.{taken_inside, taken_fits}
use Rattle.tape_writer.proofs.write_on.Goals as goal

pub returns-clause-used_in_bounds_2 : goal.returns-clause-used_in_bounds_2
returns-clause-used_in_bounds_2 g c =
    let room = c.with_room.ensures in
    let taken = c.take_line-now.ensures in
    (omega (arith, taken_fits taken (omega (arith, room.used_in_bounds))), taken_inside taken (omega (arith, room.place_value.0, c.requires.used_in_bounds.2)))
