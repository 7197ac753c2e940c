-- `lay_first` meets its contract.
use mathlib.Core.Path.{refl}
use Rattle.drill_turns.proofs.Playing.{laid_first}
use Rattle.drill_turns.proofs.game.Play.lay_first.Goals as goal

pub returns : goal.returns
returns c = laid_first _ _ _ c.requires c.without.ensures refl c.with.ensures
