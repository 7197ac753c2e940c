-- `make_both` meets its contract: the call is made on cells behind n, and where it takes both their lines are laid.
use native.Mathlib.Omega.{arith}
use mathlib.Core.List.{append-nil}
use lib.ListN.{length-take}
use Rattle.call_judging.proofs.Answering.{lent_all}
use Rattle.tape_calls.proofs.CellRooms.{cells_room}
use Rattle.tape_both.proofs.Trying.{tried_none, tried_refused, changes_fit, listed_fit, tried_taken}
use mathlib.Core.Path.{refl, ap}
use mathlib.Core.Bool.{not}
use Rattle.tape_both.proofs.make_both.Goals as goal

pub returns-then-not-found : goal.returns-then-not-found
returns-then-not-found c =
    record { same_loan = (refl, refl, refl, refl, refl, refl, refl, refl); made = tried_none _ _ _ _ _ _ _ (ap not c.if-not-found.true) c.not_taken.ensures }

pub slice_bounds-both_known-end : goal.slice_bounds-both_known-end
slice_bounds-both_known-end c = simp length-take (omega (arith, c.well_formed, c.requires.kind_bound))

pub both_known-entered-requires : goal.both_known-entered-requires
both_known-entered-requires c = rw (lent_all c.args.watches 8 (omega (arith, c.well_formed)) (omega arith)) c.requires.known

pub returns-in-Err : goal.returns-in-Err
returns-in-Err c =
    let made = rw (lent_all c.args.watches 8 (omega (arith, c.well_formed)) (omega arith)) at c.both_known-entered.ensures.both_made in
    record { same_loan = c.both_known-entered.ensures.same_loan; made = tried_refused _ _ _ _ _ _ made _ (ap not c.if-not-found.false) c.in-Err.is c.not_taken-in-Err.ensures }

pub overflow_add-end : goal.overflow_add-end
overflow_add-end c = omega (arith, listed_fit _ _ _ _ _ _ c.both_known-entered.ensures.both_made c.in_default.is c.both_known-entered.auto.cells)

pub slice_bounds-cells-end-2 : goal.slice_bounds-cells-end-2
slice_bounds-cells-end-2 c =
    cells_room c.both_known-entered.new.cells (listed_fit _ _ _ _ _ _ c.both_known-entered.ensures.both_made c.in_default.is c.both_known-entered.auto.cells) c.both_known-entered.auto.cells

pub slice_bounds-put_both-end : goal.slice_bounds-put_both-end
slice_bounds-put_both-end c =
    simp (append-nil, length-take) (omega (arith, listed_fit _ _ _ _ _ _ c.both_known-entered.ensures.both_made c.in_default.is c.both_known-entered.auto.cells, c.both_known-entered.auto.cells))

pub put_both-count-requires : goal.put_both-count-requires
put_both-count-requires c =
    record {
      count_in_bounds = (omega (arith, changes_fit _ _ _ _ _ _ c.both_known-entered.ensures.both_made c.in_default.is, c.both_known-entered.auto.out), omega (arith, c.requires.bytes_len_bound, c.both_known-entered.auto.out));
      numbers_len_bound = (simp (append-nil, length-take) (omega (arith, listed_fit _ _ _ _ _ _ c.both_known-entered.ensures.both_made (c.in_default.is) c.both_known-entered.auto.cells, c.both_known-entered.auto.cells)), omega (arith, c.requires.bytes_len_bound));
    }

pub returns : goal.returns
returns c =
    let made = rw (lent_all c.args.watches 8 (omega (arith, c.well_formed)) (omega arith)) at c.both_known-entered.ensures.both_made in
    record { same_loan = c.both_known-entered.ensures.same_loan; made = tried_taken _ _ _ _ _ _ made c.in_default.is _ (ap not c.if-not-found.false) c.put_both-count.ensures }
