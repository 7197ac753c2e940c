-- `drill` meets its contract.
use mathlib.Core.Path.{◌≡◌, sym}
use Prim.Native.Nat.{◌+◌}
use Rattle.std.proofs.Common.{rules}
use Rattle.std.specs.Prelude.{Err}
use Rattle.std.specs.Option.{option_map}
use Rattle.drill_call.proofs.Judging.{accepted_small}
use Rattle.drill_call.proofs.Answers.{refused_says, place_says}
use Rattle.drill_call.proofs.drill.Goals as goal

pub returns-in_err-judge : goal.returns-in_err-judge
returns-in_err-judge c =
    let e : c.from_residual.result ≡ Err c.in_err-judge.field-0.0 = search rules in
    rw e (refused_says c.args.rules c.args.first c.args.second c.in_err-judge.field-0.0 c.in_err-judge.ensures)

pub best_place-place-requires : goal.best_place-place-requires
best_place-place-requires c = accepted_small c.args.rules c.args.first c.args.second (sym c.in_ok-judge.ensures)

pub returns : goal.returns
returns c =
    let e : c.map.result ≡ option_map (λ i. i + 1) c.best_place-place.result = search rules in
    rw e (place_says c.args.rules c.args.first c.args.second c.best_place-place.result c.in_ok-judge.ensures c.best_place-place.ensures.place)
