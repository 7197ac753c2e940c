-- `bqb_end_pair` meets its contract: the promise of the call at the head and the records that the cells hold.
use Rattle.host_loans.proofs.Loans.{lent_eight, unpair_told, unpair_short_told}
use Rattle.host_watches.proofs.bqb_end_pair.Goals as goal

pub returns-then-watches-lt16 : goal.returns-then-watches-lt16
returns-then-watches-lt16 c = unpair_short_told c.head_of-before.ensures c.args.watches.now c.if-watches-lt16.true c.short_answer.ensures

pub returns : goal.returns
returns c =
    let lent = lent_eight c.records_of.result c.args.watches.now c.records_of.ensures c.if-watches-lt16.false in
    unpair_told c.head_of-before.ensures lent c.unpair-left.ensures c.number_of.ensures c.store_head.ensures
