-- `enter` meets its contract: what was found tells the changes and the rows that stay, and each table is settled by itself.
use mathlib.Core.Path.{refl}
use native.Mathlib.Omega.{arith}
use lib.ListN.{length}
use Rattle.lent_tables.specs.Lent.{lent_mut}
use Rattle.lent_tables.proofs.Parts.{parts}
use Rattle.model.specs.Rows.{Tables}
use Rattle.call_settling.proofs.Standing.{within}
use Rattle.call_quoting.proofs.Quotes.{Entering, book, writable, retired_low}
use Rattle.call_quoting.proofs.Reaching.{known_sound}
use Rattle.call_quoting.proofs.Entries.{columns_ready, positions_ready, lowers_ready, uppers_ready, named_held, entered}
use Rattle.call_quoting.proofs.enter.Goals as goal
use Rattle.call_quoting.proofs.enter.Goals.{Start}

-- what is known where the call begins
entering : (s : Start)
    → Entering s.args.head s.args.quote.now (lent_mut s.args.tables.now) s.args.watches (length s.args.out.now) s.args.found s.args.places.now
entering s = record { accepted = s.requires.out_value; eight = omega (arith, s.well_formed); finds = s.requires.finds }

pub write-count-requires : goal.write-count-requires
write-count-requires c =
    let p = parts c.to_read.result c.args.tables.now c.to_read.ensures in
    record {
      writable = rw (p.columns, p.lower_ends, p.upper_ends) (writable (entering (goal.at.write-count-requires c).Start));
      sound_if =
          rw (p.columns, p.lower_ends, p.upper_ends) (known_sound _ _ c.requires.known (within (book (entering (goal.at.write-count-requires c).Start))).some_capacity);
    }

pub settle-requires : goal.settle-requires
settle-requires c =
    record {
      ready = columns_ready (entering (goal.at.settle-requires c).Start) c.requires.known;
      row_len = (book (entering (goal.at.settle-requires c).Start)).wide;
    }

pub overflow_add-head : goal.overflow_add-head
overflow_add-head c = omega (arith, (book (entering (goal.at.overflow_add-head c).Start)).below)

pub settle-requires-2 : goal.settle-requires-2
settle-requires-2 c =
    record {
      ready = positions_ready (entering (goal.at.settle-requires-2 c).Start) c.requires.known;
      row_len = refl;
    }

pub settle_lower_ends-requires : goal.settle_lower_ends-requires
settle_lower_ends-requires c =
    record {
      ready = lowers_ready (entering (goal.at.settle_lower_ends-requires c).Start) c.requires.known;
      named_le_held = named_held (entering (goal.at.settle_lower_ends-requires c).Start) c.requires.known;
    }

pub settle_upper_ends-requires : goal.settle_upper_ends-requires
settle_upper_ends-requires c =
    record {
      ready = uppers_ready (entering (goal.at.settle_upper_ends-requires c).Start) c.requires.known;
      newest_lt_last_position = (book (entering (goal.at.settle_upper_ends-requires c).Start)).below;
      below = retired_low (entering (goal.at.settle_upper_ends-requires c).Start);
    }

pub shape_of-out : goal.shape_of-out
shape_of-out c = omega (arith, c.write-count.auto)

pub returns : goal.returns
returns c =
    let p = parts c.to_read.result c.args.tables.now c.to_read.ensures in
    record {
      same_loan = (refl, refl, refl, refl, c.settle.auto.cells, c.settle-2.auto.cells, c.settle_lower_ends.auto.lower_ends, c.settle_upper_ends.auto.upper_ends);
      entered =
          entered _ (entering (goal.at.returns c).Start) c.requires.known (rw (p.columns, p.lower_ends, p.upper_ends) at c.write-count.ensures.value) c.accept.ensures
          (rw (p.columns, p.lower_ends, p.upper_ends) at c.write-count.ensures.out_after) c.settle.ensures c.settle-2.ensures c.settle_lower_ends.ensures c.settle_upper_ends.ensures;
    }
