-- `find` ends, since each half has fewer cells.
use Rattle.std.proofs.Common.{length}
use Rattle.day_skyline.proofs.day.Day.+find.Given as goal

abbrev pub decreases-find : goal.decreases-find
decreases-find l = length l.cells.now
