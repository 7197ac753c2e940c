-- `watch` meets its contract: accepted, its watch is inserted into the records; refused, they stay.
use Rattle.book_changed_records.proofs.Fronts.{watch_asks, watch_inserted, watch_left}
use Rattle.book_changed_records.proofs.watch.Goals as goal

pub returns-in-Err : goal.returns-in-Err
returns-in-Err c =
    watch_left _ c.numbers-before.ensures c.args.head c.args.desk c.args.n _ c.set_watch-judged.result c.set_watch-judged.ensures c.in-Err.is

pub insert_record-requires : goal.insert_record-requires
insert_record-requires c =
    watch_asks _ c.numbers-before.ensures c.args.head c.args.desk c.args.n _ c.set_watch-judged.result c.set_watch-judged.ensures c.in_default.is

pub returns : goal.returns
returns c =
    watch_inserted _ c.numbers-before.ensures c.args.head c.args.desk c.args.n _ c.set_watch-judged.result c.set_watch-judged.ensures c.in_default.is _
    c.insert_record.ensures
