-- `put_changes` meets its contract: the lines of the first bytes.
use lib.Seq.{length-take-le}
use Rattle.line_changes.proofs.put_changes.Goals as goal

pub put_frames-requires : goal.put_frames-requires
put_frames-requires c = rw (length-take-le _ _ c.requires.count_in_bounds) c.requires.count_bound
