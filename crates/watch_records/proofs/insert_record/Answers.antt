-- `insert_record` meets its contract: a watch put into its place among the first eight numbers is put into its place over the records.
use Rattle.lists.specs.Lists.{insert}
use Rattle.head.specs.Desks.{watch_of}
use Rattle.watch_records.proofs.Records.{changed, vacant_first, bounded_inserted, many}
use Rattle.watch_records.proofs.insert_record.Goals as goal

pub insert-requires : goal.insert-requires
insert-requires c = rw c.numbers-watches.ensures (vacant_first _ (many _ c.requires.0) c.requires.1)

pub returns : goal.returns
returns c =
    let n = watch_of c.args.desk c.args.n in
    rw (c.store.ensures, c.insert.ensures, c.numbers-watches.ensures)
    (changed _ (many _ c.requires.0) (insert n) (bounded_inserted n _ c.requires.1))
