-- `best_place` meets its contract.
use native.Mathlib.Omega.{arith}
use Rattle.drill_call.proofs.Placing.{found_place, place_most, place_below}
use Rattle.drill_call.proofs.best_place.Goals as goal

pub returns-clause-place : goal.returns-clause-place
returns-clause-place c = found_place c.args.rules c.args.first c.args.second c.requires c.joined-quotes.ensures _ c.start.ensures c.first_turn.ensures

pub returns-clause-within : goal.returns-clause-within
returns-clause-within c =
    let e = found_place c.args.rules c.args.first c.args.second c.requires c.joined-quotes.ensures _ c.start.ensures c.first_turn.ensures in
    let firsts = c.requires.firsts in
    place_below c.first_turn.result (omega (arith, e, place_most c.args.rules c.args.first c.args.second c.requires))
