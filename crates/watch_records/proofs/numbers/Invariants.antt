-- `numbers` meets its contract: each turn reads one record.
use Rattle.std.proofs.Common.{◌≡◌}
use Rattle.watch_records.specs.Records.{watched}
use Rattle.watch_records.proofs.Copying.{copied}
use Rattle.watch_records.proofs.numbers.Given as goal

abbrev pub invariant-loop-i : goal.invariant-loop-i
invariant-loop-i l = l.watches ≡ copied (watched l.records) l.i
