-- `go_down_block` meets its contract: where no row is live and one over the quote is found, or none is comparable, there is no more to find.
use mathlib.Core.Path.{sym, ◌∙◌}
use native.Mathlib.Omega.{arith}
use Rattle.table_finding.proofs.Blocks.{dull_apart}
use Rattle.table_finding.proofs.Looping.{block_below, fits_at}
use Rattle.table_finding.proofs.Going.{dead_block, apart_block}
use Rattle.table_finding.proofs.ComparedRows.go_down_block.Goals as goal

pub taken_live-live-requires : goal.taken_live-live-requires
taken_live-live-requires c = c.requires.fits.uppers

pub returns-then-live-self : goal.returns-then-live-self
returns-then-live-self c =
    let both = dead_block _ c.requires.from_le_to.0 c.requires.room _ c.requires.from_le_to.1 c.taken_live-live.ensures (rw c.is_some.ensures at c.if-live-self.true) in
    record {
      room_2 = both.0;
      by_index = both.1;
    }

pub overflow_sub-to : goal.overflow_sub-to
overflow_sub-to c = block_below _ _ _ c.taken_live-live.ensures c.if-live-gt32.true

pub dull_columns-requires : goal.dull_columns-requires
dull_columns-requires c = fits_at _ (block_below _ _ _ c.taken_live-live.ensures c.if-live-gt32.true) c.requires.fits

pub returns-then-dull_columns : goal.returns-then-dull_columns
returns-then-dull_columns c =
    let h = block_below _ _ _ c.taken_live-live.ensures c.if-live-gt32.true in
    let d = sym c.dull_columns.ensures ∙ c.if-dull_columns.true in
    let both = apart_block _ c.requires.from_le_to.0 c.requires.room (λ q u l. dull_apart _ _ 64 d q (omega (arith, c.requires.from_le_to.1)) (omega arith)) in
    record {
      room_2 = both.0;
      by_index = both.1;
    }

pub go_down_any-requires : goal.go_down_any-requires
go_down_any-requires c =
    record {
      from_le_to = c.requires.from_le_to.0;
      fits = c.requires.fits;
      room = c.requires.room;
    }

pub go_down-requires : goal.go_down-requires
go_down-requires c =
    record {
      from_le_to = c.requires.from_le_to.0;
      fits = c.requires.fits;
      room = c.requires.room;
    }
