-- `open` meets its contract: an opening's eight numbers stored in the records are what it leaves of them.
use Rattle.book_changed_records.proofs.Fronts.{open_stored}
use Rattle.book.proofs.open.Goals as goal

pub returns : goal.returns
returns c =
    record {
      same_loan = c.open-made.ensures.same_loan;
      made = open_stored _ c.numbers-before.ensures c.args.dimensions c.args.capacity c.args.directions _ c.open-made.result.watches c.open-made.ensures.watches_len c.store.ensures c.open-made.ensures.opened;
    }
