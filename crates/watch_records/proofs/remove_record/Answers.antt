-- `remove_record` meets its contract: a watch taken out of the first eight numbers is taken out of the records.
use Rattle.lists.specs.Lists.{without}
use Rattle.head.specs.Desks.{watch_of}
use Rattle.watch_records.proofs.Records.{changed, bounded_left, many}
use Rattle.watch_records.proofs.remove_record.Goals as goal

pub returns : goal.returns
returns c =
    let n = watch_of c.args.desk c.args.n in
    rw (c.store.ensures, c.remove.ensures, c.numbers-watches.ensures)
    (changed _ (many _ c.requires) (without n) (bounded_left n _))
