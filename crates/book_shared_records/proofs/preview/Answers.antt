-- `preview` meets its contract: the preview, by the first eight records.
use Rattle.book_shared_records.proofs.Fronts.{preview_records}
use Rattle.book_shared_records.proofs.preview.Goals as goal

pub returns : goal.returns
returns c = preview_records _ c.args.head c.args.quote.now _ c.numbers-before.ensures c.preview.ensures
