-- `bqb_read` meets its contract: what is read at the place, as a number and seven cells.
use mathlib.Core.Path.{◌∙◌}
use Rattle.host_frames.proofs.Reading.{read_number, read_cells}
use Rattle.host_frames.proofs.bqb_read.Goals as goal

pub returns-clause-value : goal.returns-clause-value
returns-clause-value c = c.reading_number.ensures ∙ read_number _ _ _ _ c.read.ensures

pub returns-clause-frame_after : goal.returns-clause-frame_after
returns-clause-frame_after c = c.reading_cells.ensures ∙ read_cells _ _ _ _ c.read.ensures c.args.frame.now
