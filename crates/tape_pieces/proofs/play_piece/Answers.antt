-- `play_piece` meets its contract: step by step, each on what the one before left.
use mathlib.Core.Path.{◌∙◌}
use native.Mathlib.Omega.{arith}
use Rattle.tape_pieces.proofs.Playing.{start, fits, inside, reached, lines_room, finish, less, more}
use Rattle.table_starts.proofs.Rewinding.{long_same}
use Rattle.tape_pieces.proofs.play_piece.Goals as goal

pub loop-columns-init : goal.loop-columns-init
loop-columns-init c = start _ _ _ _ _ c.requires.used_in_bounds c.requires.long c.requires.within c.requires.reached

pub plays-requires : goal.plays-requires
plays-requires c = fits c.loop-columns.invariant

pub play_next-now-requires : goal.play_next-now-requires
play_next-now-requires c =
    let room = lines_room c.plays.ensures c.loop-columns-test.true in
    record {
      step_bytes_in_bounds = (omega (arith, room, fits c.loop-columns.invariant), inside c.loop-columns.invariant);
      long = c.loop-columns.invariant.tables_long;
      within = c.loop-columns.invariant.starts;
      reached = reached c.loop-columns.invariant;
    }

pub rewind_rows-now-requires : goal.rewind_rows-now-requires
rewind_rows-now-requires c =
    record {
      long = long_same c.play_next-now.auto.columns c.play_next-now.auto.positions c.play_next-now.auto.lower_ends c.play_next-now.auto.upper_ends c.loop-columns.invariant.tables_long;
      within = (c.play_next-now.ensures.starts, c.play_next-now.ensures.opened);
    }

pub loop-columns-smaller : goal.loop-columns-smaller
loop-columns-smaller c = less c.loop-columns.invariant c.plays.ensures c.loop-columns-test.true c.play_next-now.ensures

pub loop-columns-preserved : goal.loop-columns-preserved
loop-columns-preserved c =
    more c.loop-columns.invariant c.plays.ensures c.loop-columns-test.true c.play_next-now.ensures c.play_next-now.auto.text (c.rewind_rows-now.auto.columns ∙ c.play_next-now.auto.columns)
    (c.rewind_rows-now.auto.positions ∙ c.play_next-now.auto.positions) (c.rewind_rows-now.auto.lower_ends ∙ c.play_next-now.auto.lower_ends) (c.rewind_rows-now.auto.upper_ends ∙ c.play_next-now.auto.upper_ends) c.rewind_rows-now.ensures.within_2 c.rewind_rows-now.ensures.moved

pub shape_of-columns : goal.shape_of-columns
shape_of-columns c = c.loop-columns.invariant.columns

pub shape_of-positions : goal.shape_of-positions
shape_of-positions c = c.loop-columns.invariant.positions

pub shape_of-lower_ends : goal.shape_of-lower_ends
shape_of-lower_ends c = c.loop-columns.invariant.lower_ends

pub shape_of-upper_ends : goal.shape_of-upper_ends
shape_of-upper_ends c = c.loop-columns.invariant.upper_ends

pub shape_of-text : goal.shape_of-text
shape_of-text c = c.loop-columns.invariant.text_long

pub returns : goal.returns
returns c = finish c.loop-columns.invariant c.plays.ensures c.loop-columns-test.false
