-- `thin` meets its contract: those of the positions up to a place over which none of the others is are laid down.
use Rattle.day_skyline.specs.Finding.{over_in}
use Rattle.day_skyline.proofs.Thinning.{Thinning}
use Rattle.day_skyline.proofs.day.Day.thin.Given as goal

abbrev pub invariant-loop-i : goal.invariant-loop-i
invariant-loop-i l = Thinning (over_in l.self) l.self.count l.initial.cells l.from l.to l.low l.high l.at l.cells l.end l.i
