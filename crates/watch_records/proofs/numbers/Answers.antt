-- `numbers` meets its contract: each turn reads one record.
use Rattle.std.proofs.Common.{◌≡◌, min, length, arith}
use Rattle.watch_records.proofs.Copying.{none_read, read_on, all_read}
use Rattle.watch_records.proofs.numbers.Goals as goal

pub loop-i-init : goal.loop-i-init
loop-i-init c = none_read _

pub loop-i-preserved : goal.loop-i-preserved
loop-i-preserved c = rw (c.loop-i.invariant, c.number_of.ensures) (read_on c.args.records.now c.loop-i.i)

pub returns : goal.returns
returns c =
    let e : min 8 (length c.args.records.now) ≡ c.loop-i.i = omega arith in
    rw c.loop-i.invariant (rw e at (all_read c.args.records.now))
