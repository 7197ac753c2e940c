-- `is_dominated` meets its contract.
use mathlib.Core.Path.{◌∙◌, refl}
use Prim.Native.Nat.{◌-◌}
use Rattle.std.proofs.Common.{rules}
use Rattle.std.proofs.lemmas.Iterator.{YieldsList-from_range}
use Rattle.std.proofs.lemmas.Iterator.Search.{any_from_yields_List}
use Rattle.drill_turns.specs.Numbers.{over_at}
use Rattle.drill_turns.proofs.Scans.{dominated_is}
use Rattle.drill_turns.proofs.game.Game.is_dominated.Goals as goal

pub returns : goal.returns
returns c =
    let g = c.args.self in
    let l = c.args.laid in
    any_from_yields_List (λ j. over_at g.quotes.now g.rules l.numbers j c.args.i) _ _ _ c.any.ensures.ran
    (YieldsList-from_range c.args.from l.count (l.count - c.args.from) refl refl) (λ x b q k. search rules)
    ∙ dominated_is g.quotes.now g.rules l.numbers c.args.from (l.count - c.args.from) c.args.i
