-- `quote` meets its contract: the quote, by the first eight records.
use Rattle.book_shared_records.proofs.Fronts.{quote_records}
use Rattle.book_shared_records.proofs.quote.Goals as goal

pub returns : goal.returns
returns c = record { same_loan = c.quote.ensures.same_loan; made = quote_records _ c.args.head c.args.quote.now _ c.numbers-before.ensures c.quote.ensures.quoted }
