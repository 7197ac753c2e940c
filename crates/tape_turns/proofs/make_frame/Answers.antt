-- `make_frame` meets its contract: each call is made, and its lines are laid.
use mathlib.Core.Path.{refl}
use native.Mathlib.Omega.{arith}
use lib.ListN.{length-take}
use Rattle.call_judging.proofs.Answering.{lent_all}
use Rattle.tape_calls.proofs.Rooms.{quote_fits}
use Rattle.tape_turns.specs.Making.{frame_taken}
use Rattle.tape_turns.proofs.Makes.{wanted_made, quote_made}
use Rattle.tape_turns.proofs.make_frame.Goals as goal

pub slice_bounds-quote-end : goal.slice_bounds-quote-end
slice_bounds-quote-end c = omega (arith, c.well_formed, c.requires.by_index _ c.in-Quote.is)

pub slice_bounds-columns-end : goal.slice_bounds-columns-end
slice_bounds-columns-end c = simp length-take (omega (arith, c.well_formed, c.requires.by_index _ c.in-Quote.is))

pub quote_known-entered-requires : goal.quote_known-entered-requires
quote_known-entered-requires c = rw (lent_all c.args.watches 8 (omega (arith, c.well_formed)) (omega arith)) c.requires.known

pub put_quote-requires : goal.put_quote-requires
put_quote-requires c =
    (omega (arith, quote_fits c.quote_known-entered.ensures.entered.quoted), (omega (arith, c.requires.bytes_len_bound, c.quote_known-entered.auto), omega (arith, c.requires.bytes_len_bound)))

pub put_opening-requires : goal.put_opening-requires
put_opening-requires c = omega (arith, c.requires.bytes_len_bound)

pub returns-in-Quote : goal.returns-in-Quote
returns-in-Quote c =
    let entered = rw (lent_all c.args.watches 8 (omega (arith, c.well_formed)) (omega arith)) at c.quote_known-entered.ensures.entered in
    record { same_loan = c.quote_known-entered.ensures.same_loan; made = quote_made _ _ _ _ _ c.in-Quote.is entered (c.put_quote.ensures _ _ _ _ _ entered.quoted) }

pub returns-in-Open : goal.returns-in-Open
unfolding frame_taken
returns-in-Open c =
    let opened = rw (lent_all c.args.watches 8 (omega (arith, c.well_formed)) (omega arith), lent_all c.open-replied.result.watches 8 c.open-replied.ensures.watches_len (omega arith)) at c.open-replied.ensures.opened in
    record { same_loan = c.open-replied.ensures.same_loan; made = wanted_made _ _ c.in-Open.is (c.put_opening.ensures _ _ _ _ opened) }

pub returns-in-Look : goal.returns-in-Look
unfolding frame_taken
returns-in-Look c = record { same_loan = (refl, refl, refl, refl, refl, refl, refl, refl); made = wanted_made _ _ c.in-Look.is (rw c.to_read-read.ensures at (c.look.ensures c.args.bytes.now)) }

pub returns-in-Past : goal.returns-in-Past
unfolding frame_taken
returns-in-Past c = record { same_loan = (refl, refl, refl, refl, refl, refl, refl, refl); made = wanted_made _ _ c.in-Past.is (rw c.to_read-read.ensures at (c.past.ensures c.args.bytes.now)) }

pub returns-in-Watch : goal.returns-in-Watch
unfolding frame_taken
returns-in-Watch c = record { same_loan = (refl, refl, refl, refl, refl, refl, refl, refl); made = wanted_made _ _ c.in-Watch.is (rw c.to_read-read.ensures at c.watch.ensures) }

pub returns-in-End : goal.returns-in-End
unfolding frame_taken
returns-in-End c = record { same_loan = (refl, refl, refl, refl, refl, refl, refl, refl); made = wanted_made _ _ c.in-End.is (rw c.to_read-read.ensures at (c.end.ensures c.args.bytes.now)) }

pub returns-in-Pair : goal.returns-in-Pair
unfolding frame_taken
returns-in-Pair c = record { same_loan = (refl, refl, refl, refl, refl, refl, refl, refl); made = wanted_made _ _ c.in-Pair.is (rw c.to_read-read.ensures at c.pair.ensures) }

pub returns-in-Unpair : goal.returns-in-Unpair
unfolding frame_taken
returns-in-Unpair c = record { same_loan = (refl, refl, refl, refl, refl, refl, refl, refl); made = wanted_made _ _ c.in-Unpair.is (rw c.to_read-read.ensures at (c.unpair.ensures c.args.bytes.now)) }

pub returns-in-Misplaced : goal.returns-in-Misplaced
unfolding frame_taken
returns-in-Misplaced c = record { same_loan = (refl, refl, refl, refl, refl, refl, refl, refl); made = wanted_made _ _ c.in-Misplaced.is (c.put_refusal.ensures _ _) }
