-- `write_all_changes` meets its contract: at each turn the frames of the watch records before it stand at the front of the output.
use Rattle.table_changes.specs.Frames.{rows_by}
use Rattle.table_changes.proofs.Watching.{Written}
use Rattle.table_changes.proofs.each_watch.write_all_changes.Given as goal

abbrev pub invariant-loop-watch : goal.invariant-loop-watch
invariant-loop-watch l =
    Written l.before.head l.before.tables.lower_ends.now (rows_by l.before) l.before.lower l.fn.watches l.initial.out l.out l.at l.watch-index
