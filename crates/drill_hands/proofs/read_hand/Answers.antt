-- `read_hand` meets its contract.
use native.Mathlib.Omega.{arith}
use Rattle.drill_hands.proofs.Handing.{start_gather, more_gather, moves_on, out_gather, end_gather}
use Rattle.drill_hands.proofs.read_hand.Goals as goal

pub loop-place-init : goal.loop-place-init
loop-place-init c = start_gather _ c.none-hand.ensures

pub returns-in-Err : goal.returns-in-Err
returns-in-Err c =
    out_gather c.args.file.now c.loop-place.hand c.loop-place.place c.loop-place.invariant c.read_at-read.result
    c.read_at-read.ensures c.loop-place-test.true c.columns_in.ensures.refusal c.columns_in.ensures.columns _ c.in-Err.is

pub loop-place-smaller : goal.loop-place-smaller
loop-place-smaller c =
    let on = moves_on c.args.file.now c.loop-place.hand c.loop-place.place c.loop-place.invariant c.read_at-read.result
    c.read_at-read.ensures c.loop-place-test.true c.columns_in.ensures.refusal c.columns_in.ensures.columns c.in-Ok.is in
    omega (arith, on, c.loop-place-test.true)

pub loop-place-preserved : goal.loop-place-preserved
loop-place-preserved c =
    more_gather c.args.file.now c.loop-place.hand c.loop-place.place c.loop-place.invariant c.read_at-read.result
    c.read_at-read.ensures c.loop-place-test.true c.columns_in.ensures.refusal c.columns_in.ensures.columns c.in-Ok.is
    c.with_quote-hand.ensures

pub returns : goal.returns
returns c = end_gather _ _ _ c.loop-place.invariant c.loop-place-test.false
