-- `bqb_open` meets its contract: the promise of the opening at the records that the cells hold; a refused one leaves head and records.
use mathlib.Core.Path.{◌≡◌, sym}
use native.Mathlib.Omega.{arith}
use Rattle.host_loans.proofs.Loans.{lent_eight, untouched, changed, open_told, open_refused, open_short_told}
use Rattle.host_cells.specs.Cells.{head_in}
use Rattle.host_quotes.proofs.bqb_open.Goals as goal

pub returns-then-watches-lt16 : goal.returns-then-watches-lt16
returns-then-watches-lt16 c =
    record {
      answered = open_short_told c.args.watches.now c.if-watches-lt16.true c.fresh.ensures c.short_answer.ensures;
      only_eight = untouched;
    }

pub returns-then-number-gt0 : goal.returns-then-number-gt0
returns-then-number-gt0 c =
    let lent = lent_eight c.records_of.result c.args.watches.now c.records_of.ensures c.if-watches-lt16.false in
    let made = c.open-made.ensures in
    let columns = c.columns-1.given.1.1 made.same_loan.0 in
    let positions = c.positions-1.given.1.1 made.same_loan.1 in
    let lower_ends = c.lower_ends-1.given.1.1 made.same_loan.2 in
    let upper_ends = c.upper_ends-1.given.1.1 made.same_loan.3 in
    record {
      answered = rw (columns, positions, lower_ends, upper_ends) (open_refused lent made.made c.number_of-number.ensures c.if-number-gt0.true);
      only_eight = untouched;
    }

pub returns : goal.returns
returns c =
    let lent = lent_eight c.records_of.result c.args.watches.now c.records_of.ensures c.if-watches-lt16.false in
    let kept = lent_eight _ c.store_records.new.cells (sym c.store_records.ensures.cells_after) (omega (arith, c.store_records.auto.cells, c.if-watches-lt16.false)) in
    let zero : c.number_of-number.result ≡ 0 = omega (arith, c.if-number-gt0.false) in
    let head = head_in c.args.head.now in
    let made = c.open-made.ensures in
    let columns = c.columns-1.given.1.1 made.same_loan.0 in
    let positions = c.positions-1.given.1.1 made.same_loan.1 in
    let lower_ends = c.lower_ends-1.given.1.1 made.same_loan.2 in
    let upper_ends = c.upper_ends-1.given.1.1 made.same_loan.3 in
    record {
      answered = rw (columns, positions, lower_ends, upper_ends) (open_told lent made.made c.number_of-number.ensures head zero c.store_head.ensures kept);
      only_eight = changed zero c.store_records.ensures.cells_unchanged;
    }
