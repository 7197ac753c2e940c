-- `lay_second` meets its contract.
use mathlib.Core.Path.{refl}
use Rattle.drill_turns.proofs.Playing.{laid_second}
use Rattle.drill_turns.proofs.game.Play.lay_second.Goals as goal

pub returns : goal.returns
returns c = laid_second _ _ _ c.requires c.without.ensures refl c.with.ensures
