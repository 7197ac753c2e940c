-- `start` meets its contract.
use mathlib.Core.Path.{refl}
use Rattle.drill_turns.proofs.Playing.{started}
use Rattle.drill_turns.proofs.game.Play.start.Goals as goal

pub returns : goal.returns
returns c = started _ refl refl refl
