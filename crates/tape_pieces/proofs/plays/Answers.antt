-- `plays` meets its contract, by the tests it makes.
use Rattle.tape_pieces.proofs.Playing.{no_room, some_room, none_over}
use Rattle.tape_pieces.proofs.plays.Goals as goal

pub returns-then-playback : goal.returns-then-playback
returns-then-playback c = none_over c.if-playback.true

pub returns-then-room-playback-lt-STEP_BYTES : goal.returns-then-room-playback-lt-STEP_BYTES
returns-then-room-playback-lt-STEP_BYTES c = no_room c.if-playback.false c.if-room-playback-lt-STEP_BYTES.true

pub returns-then-playback-2 : goal.returns-then-playback-2
returns-then-playback-2 c = some_room c.if-playback.false c.if-room-playback-lt-STEP_BYTES.false (rw c.if-playback-2.true)

pub returns : goal.returns
returns c = some_room c.if-playback.false c.if-room-playback-lt-STEP_BYTES.false (rw c.if-playback-2.false c.settled.ensures)
