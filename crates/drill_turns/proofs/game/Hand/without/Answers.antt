-- `without` meets its contract: what stands behind the place is moved to it.
use mathlib.Core.Path.{refl}
use Rattle.drill_turns.proofs.Playing.{without}
use Rattle.drill_turns.proofs.game.Hand.without.Goals as goal

pub returns : goal.returns
returns c = let b = c.copy_within.ensures.by_index in let e = c.args.self.of_four in without c.args.self _ c.args.i c.requires refl b.1 (rw e at b.0)
