-- `both` meets its contract: the quote and look in one, by the first eight records.
use Rattle.book_shared_records.proofs.Fronts.{both_records}
use Rattle.book_shared_records.proofs.both.Goals as goal

pub returns : goal.returns
returns c = record { same_loan = c.both.ensures.same_loan; made = both_records _ c.args.head c.args.quote.now c.args.n _ c.numbers-before.ensures c.both.ensures.quoted_looked }
