-- `bqb_end_watch` meets its contract: the promise of the call at the head and the records that the cells hold; a refused one leaves the records.
use mathlib.Core.Path.{sym}
use native.Mathlib.Omega.{arith}
use Rattle.host_loans.proofs.Loans.{lent_eight, untouched, changed, end_desk, end_told, end_refused, end_short_told}
use Rattle.host_watches.proofs.bqb_end_watch.Goals as goal

pub returns-then-watches-lt16 : goal.returns-then-watches-lt16
returns-then-watches-lt16 c =
    record {
      answered = end_short_told c.head_of-before.ensures c.args.watches.now c.if-watches-lt16.true c.short_answer.ensures;
      only_eight = untouched;
    }

pub returns-then-refusal-gt0 : goal.returns-then-refusal-gt0
returns-then-refusal-gt0 c =
    let lent = lent_eight c.records_of.result c.args.watches.now c.records_of.ensures c.if-watches-lt16.false in
    let made = end_desk c.desk_of.ensures c.end-made.ensures in
    record {
      answered = end_refused c.head_of-before.ensures lent made c.number_of-refusal.ensures c.if-refusal-gt0.true;
      only_eight = untouched;
    }

pub returns : goal.returns
returns c =
    let lent = lent_eight c.records_of.result c.args.watches.now c.records_of.ensures c.if-watches-lt16.false in
    let kept = lent_eight _ c.store_records.new.cells (sym c.store_records.ensures.cells_after) (omega (arith, c.store_records.auto.cells, c.if-watches-lt16.false)) in
    let made = end_desk c.desk_of.ensures c.end-made.ensures in
    record {
      answered = end_told c.head_of-before.ensures lent made c.number_of-refusal.ensures kept;
      only_eight = changed (omega (arith, c.if-refusal-gt0.false)) c.store_records.ensures.cells_unchanged;
    }
