-- `bqb_quote` meets its contract: the promise of the call at the head and the records that the cells hold.
use mathlib.Core.Path.{refl}
use Rattle.host_loans.proofs.Loans.{lent_eight, quote_told_lem, quote_short_told}
use Rattle.host_quotes.proofs.bqb_quote.Goals as goal

pub returns-then-watches-lt16 : goal.returns-then-watches-lt16
returns-then-watches-lt16 c = quote_short_told c.head_of-before.ensures c.args.watches.now c.if-watches-lt16.true c.short_answer.ensures

pub returns : goal.returns
returns c =
    let lent = lent_eight c.records_of.result c.args.watches.now c.records_of.ensures c.if-watches-lt16.false in
    let made = c.quote-taken.ensures in
    let columns = c.columns-1.given.1.1 made.same_loan.0 in
    let positions = c.positions-1.given.1.1 made.same_loan.1 in
    let lower_ends = c.lower_ends-1.given.1.1 made.same_loan.2 in
    let upper_ends = c.upper_ends-1.given.1.1 made.same_loan.3 in
    rw (columns, positions, lower_ends, upper_ends)
    (quote_told_lem c.head_of-before.ensures lent made.made c.number_of.ensures c.store_head.ensures refl)
