-- `first_stands` meets its contract.
use mathlib.Core.Path.{◌∙◌, refl}
use mathlib.Core.Bool.{◌&&◌, not}
use Prim.Native.Nat.{◌-◌, ◌%◌}
use lib.Dec.{ltb}
use lib.ListN.{get_or}
use native.Mathlib.Omega.{arith}
use Rattle.std.proofs.Common.{rules}
use Rattle.std.proofs.lemmas.Iterator.{YieldsList-from_range}
use Rattle.std.proofs.lemmas.Iterator.Search.{any_from_yields_List}
use Rattle.drill_turns.specs.Numbers.{dominated_at}
use Rattle.drill_turns.proofs.Scans.{stands_is}
use Rattle.drill_turns.proofs.game.Game.first_stands.Goals as goal

pub returns : goal.returns
returns c =
    let g = c.args.self in
    let l = c.args.laid in
    let few = l.few in
    let long = l.of_eight in
    let from = c.saturating_sub-from.result in
    any_from_yields_List (λ i. not (dominated_at g.quotes.now g.rules l.numbers from (l.count - from) i) && ltb (get_or l.numbers i 0 % 8) 4)
    _ _ _ c.any.ensures.ran (YieldsList-from_range from l.count (l.count - from) refl refl) (λ x b q k. search rules)
    ∙ stands_is g.quotes.now g.rules l.numbers from l.count c.saturating_sub-from.ensures (omega arith)
