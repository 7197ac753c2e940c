-- `wish_at` meets its contract: what was read is judged by the head.
use Rattle.tape_asking.proofs.Reading.{wish_there}
use Rattle.tape_asking.proofs.wish_at.Goals as goal

pub returns : goal.returns
returns c = wish_there _ _ _ c.read_at-read.result c.placed.result c.read_at-read.ensures c.settings_hold.ensures c.placed.ensures
