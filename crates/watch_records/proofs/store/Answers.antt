-- `store` meets its contract: each turn stores one number.
use Rattle.std.proofs.Common.{◌≡◌, arith, min, length}
use Rattle.watch_records.proofs.Copying.{put_none, put_on, all_put}
use Rattle.watch_records.proofs.store.Goals as goal

pub loop-i-init : goal.loop-i-init
loop-i-init c = put_none _ _

pub loop-i-preserved : goal.loop-i-preserved
loop-i-preserved c = rw (c.loop-i.invariant, c.record_at.ensures) (put_on c.args.records.now c.args.watches c.loop-i.i)

pub returns : goal.returns
returns c =
    let e : min 8 (length c.args.records.now) ≡ c.loop-i.i = omega arith in
    rw c.loop-i.invariant (rw e at (all_put c.args.records.now c.args.watches (omega (arith, c.well_formed))))
