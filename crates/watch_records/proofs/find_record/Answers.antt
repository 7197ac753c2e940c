-- `find_record` meets its contract: what is found among the first eight numbers is found among all records.
use Rattle.watch_records.proofs.Records.{standing_first}
use Rattle.watch_records.specs.Records.{watched}
use Rattle.watch_records.proofs.find_record.Goals as goal

pub returns : goal.returns
returns c = rw (← standing_first (watched c.args.records.now), ← c.numbers.ensures) c.find.ensures
