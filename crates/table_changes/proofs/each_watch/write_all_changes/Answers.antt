-- `write_all_changes` meets its contract: at each turn the frames of the watch records before it stand at the front of the output.
use native.Mathlib.Omega.{arith}
use borrow.Author.Rules.{rules}
use Rattle.table_changes.proofs.Records.{watch_at}
use Rattle.table_changes.proofs.Watching.{written_start, written_fits, written_rest, written_more, written_all}
use Rattle.table_changes.proofs.each_watch.write_all_changes.Goals as goal

pub loop-watch-init : goal.loop-watch-init
loop-watch-init c = written_start _ _ _ _ _ _ (search rules) c.requires.watches_in_bounds

pub slice_bounds-write_watch-count : goal.slice_bounds-write_watch-count
slice_bounds-write_watch-count c = omega (arith, written_fits c.loop-watch.invariant c.loop-watch-test.true)

pub slice_bounds-write_watch-start : goal.slice_bounds-write_watch-start
slice_bounds-write_watch-start c = omega (arith, written_fits c.loop-watch.invariant c.loop-watch-test.true)

pub write_watch-at-requires : goal.write_watch-at-requires
write_watch-at-requires c =
    record {
      sized = watch_at _ _ c.loop-watch.watch-index c.requires.watches_value c.loop-watch-test.true;
      watch_in_bounds = written_rest c.loop-watch.invariant c.loop-watch-test.true;
    }

pub overflow_add-at : goal.overflow_add-at
overflow_add-at c =
    omega (arith, written_fits c.loop-watch.invariant c.loop-watch-test.true, c.write_watch-at.ensures.value, c.loop-watch.invariant.laying.front.long, c.well_formed)

pub loop-watch-preserved : goal.loop-watch-preserved
loop-watch-preserved c = written_more c.loop-watch.invariant c.loop-watch-test.true c.write_watch-at.ensures.value c.write_watch-at.ensures.out_after

pub returns : goal.returns
returns c =
    let both = written_all c.loop-watch.invariant c.loop-watch-test.false (search rules) in
    record { value = both.0; out_after = both.1 }
