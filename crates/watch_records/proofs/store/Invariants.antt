-- `store` meets its contract: each turn stores one number.
use Rattle.std.proofs.Common.{◌≡◌}
use Rattle.watch_records.proofs.Copying.{put_in}
use Rattle.watch_records.proofs.store.Given as goal

abbrev pub invariant-loop-i : goal.invariant-loop-i
invariant-loop-i l = l.records ≡ put_in l.initial.records l.watches l.i
