-- `go_through` meets its contract: a row that is passed over is not live, and its end is sound or a younger one is over the quote; any other is compared.
use mathlib.Core.Path.{◌∙◌}
use Prim.Native.Nat.{suc}
use native.Mathlib.Omega.{arith}
use Rattle.table_finding.proofs.Looping.{row_in, room_pushed}
use Rattle.table_finding.proofs.Passing.{compared_next}
use Rattle.table_finding.proofs.Going.{dead_row}
use Rattle.table_finding.proofs.ComparedRows.go_through.Goals as goal

pub returns-then-live-self : goal.returns-then-live-self
returns-then-live-self c =
    record {
      room_2 = record { least = omega (arith, c.requires.room.least); most = c.requires.room.most };
      by_index = λ b l. dead_row _ _ l (rw c.is_some.ensures at c.if-live-self.true);
    }

pub overflow_mul-place : goal.overflow_mul-place
overflow_mul-place c = omega (arith, c.requires.fits.columns, row_in c.args.place (suc c.args.place) c.args.self.d (omega arith), c.ranges)

pub compare_unrolled-c-requires : goal.compare_unrolled-c-requires
compare_unrolled-c-requires c =
    record {
      d_in_bounds = omega (arith, c.requires.fits.quoted);
      d_in_bounds_2 = omega (arith, c.requires.fits.columns, row_in c.args.place (suc c.args.place) c.args.self.d (omega arith));
    }

pub returns : goal.returns
returns c =
    record {
      room_2 = room_pushed _ c.requires.room _ c.push-at.ensures.lower_bound c.push-at.auto.places;
      by_index = (λ b l w v. rw c.push-at.ensures.places_after (compared_next _ l c.requires.room v _ c.compare_unrolled-c.ensures _ (c.push-at.ensures.value ∙ rw c.over_older.ensures) c.is_none.result c.is_none.ensures (rw c.under_older.ensures at c.chosen.ensures)));
    }
