-- `write_watch` meets its contract: the changes of a watch, or nothing for an empty record; where its window is still, leaves alone.
use mathlib.Core.Path.{◌≡◌, sym, ◌∙◌}
use Rattle.lists.specs.Lists.{laid}
use Rattle.table_changes.specs.Frames.{rows_by, frames_of, dropped_frames}
use Rattle.table_changes.proofs.Known.{still_frames}
use Rattle.table_changes.proofs.Watching.{watch_none}
use Rattle.table_changes.proofs.each_watch.write_watch.Goals as goal
use Rattle.table_changes.proofs.each_watch.write_watch.Goals.{Then-still}

pub returns-then-watch-eq0 : goal.returns-then-watch-eq0
unfolding laid
returns-then-watch-eq0 c =
    let e = watch_none c.args.before.now.head c.args.before.now.tables.lower_ends.now (rows_by c.args.before.now) c.args.before.now.lower c.args.watch c.if-watch-eq0.true in
    record { value = rw e; out_after = rw e }

-- where the window is still, the leaves of rows that the quote retires
leaves : (c : Then-still) → frames_of c.args.before.now c.args.watch ≡ dropped_frames c.watched-watched.result
leaves c = sym c.watched-watched.ensures ∙ still_frames c.watched-watched.result (sym c.still.ensures ∙ c.if-still.true)

pub write_dropped-requires : goal.write_dropped-requires
write_dropped-requires c = rw (leaves (goal.at.write_dropped-requires c).Then-still) at c.requires.watch_in_bounds

pub returns-then-still : goal.returns-then-still
returns-then-still c =
    let e = leaves (goal.at.returns-then-still c).Then-still in
    record { value = rw e c.write_dropped.ensures.value; out_after = rw e c.write_dropped.ensures.out_after }

pub write_changes-requires : goal.write_changes-requires
write_changes-requires c = rw c.watched-watched.ensures c.requires.watch_in_bounds

pub returns : goal.returns
returns c =
    record {
      value = rw (← c.watched-watched.ensures) c.write_changes.ensures.value;
      out_after = rw (← c.watched-watched.ensures) c.write_changes.ensures.out_after;
    }
