-- `bqb_set_watch` meets its contract: the promise of the call at the head and the records that the cells hold; a refused one leaves the records.
use mathlib.Core.Path.{refl, sym}
use native.Mathlib.Omega.{arith}
use Rattle.host_loans.proofs.Loans.{lent_eight, untouched, changed, watch_desk, watch_told, watch_refused, watch_short_told}
use Rattle.host_watches.proofs.bqb_set_watch.Goals as goal

pub returns-then-watches-lt16 : goal.returns-then-watches-lt16
returns-then-watches-lt16 c =
    record {
      answered = watch_short_told c.head_of-before.ensures c.args.watches.now c.if-watches-lt16.true c.short_answer.ensures;
      only_eight = untouched;
    }

pub returns-then-number-gt0 : goal.returns-then-number-gt0
returns-then-number-gt0 c =
    let lent = lent_eight c.records_of.result c.args.watches.now c.records_of.ensures c.if-watches-lt16.false in
    let made = watch_desk c.desk_of.ensures c.watch-made.ensures in
    record {
      answered = watch_refused c.head_of-before.ensures lent made c.number_of-number.ensures c.if-number-gt0.true refl;
      only_eight = untouched;
    }

pub returns : goal.returns
returns c =
    let lent = lent_eight c.records_of.result c.args.watches.now c.records_of.ensures c.if-watches-lt16.false in
    let kept = lent_eight _ c.store_records.new.cells (sym c.store_records.ensures.cells_after) (omega (arith, c.store_records.auto.cells, c.if-watches-lt16.false)) in
    let made = watch_desk c.desk_of.ensures c.watch-made.ensures in
    record {
      answered = watch_told c.head_of-before.ensures lent made c.number_of-number.ensures refl kept;
      only_eight = changed (omega (arith, c.if-number-gt0.false)) c.store_records.ensures.cells_unchanged;
    }
