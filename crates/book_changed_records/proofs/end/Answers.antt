-- `end` meets its contract: accepted, its watch is removed from the records; refused, they stay.
use Rattle.book_changed_records.proofs.Fronts.{end_enough, end_removed, end_left}
use Rattle.book_changed_records.proofs.end.Goals as goal

pub returns-in-Err : goal.returns-in-Err
returns-in-Err c =
    end_left _ c.numbers-before.ensures c.args.head c.args.desk c.args.n _ c.end_watch-judged.result c.end_watch-judged.ensures c.in-Err.is

pub remove_record-requires : goal.remove_record-requires
remove_record-requires c =
    end_enough _ c.numbers-before.ensures c.args.head c.args.desk c.args.n _ c.end_watch-judged.result c.end_watch-judged.ensures c.in_default.is

pub returns : goal.returns
returns c =
    end_removed _ c.numbers-before.ensures c.args.head c.args.desk c.args.n _ c.end_watch-judged.result c.end_watch-judged.ensures c.in_default.is _
    c.remove_record.ensures
