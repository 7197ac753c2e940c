-- The frames of a quote's changes, by what is known of the quote and of each watch.
use Rattle.std.specs.Prelude.{ℕ, ◌-◌, true, List, ◌++◌, map}
use Rattle.frames.specs.declared.Message.TheVariants.{Change}
use Rattle.model.specs.Changes.{frames}
use Rattle.table_finding.specs.Found.{Rows, rows}
use Rattle.table_changes.specs.declared.before.Before.{Before}
use Rattle.table_changes.specs.declared.watched.Watched.{Watched}
use Rattle.table_changes.specs.Held.{Held, held, fallen, dropped, moving, changed}
use Rattle.table_changes.specs.Watches.{watch_frames, all_frames}

-- the rows and the quote
abbrev pub rows_by : Before → Rows
rows_by b = rows b.head.dimensions b.head.directions b.tables.columns.now b.tables.upper_ends.now b.quote.now

-- the rows held before the quote
abbrev pub held_by : Before → Held
held_by b = held b.first b.head.held b.tables.lower_ends.now (rows_by b)

-- the frames of a watch record, and those of several, each behind the one before
abbrev pub frames_of : Before → ℕ → List ℕ
frames_of b watch = watch_frames b.head b.tables.lower_ends.now (rows_by b) b.lower watch

abbrev pub frames_by : Before → List ℕ → List ℕ
frames_by b watches = all_frames b.head b.tables.lower_ends.now (rows_by b) b.lower watches

-- the place of the row at the window's old start
abbrev pub start_place : Watched → ℕ
start_place w = w.shift.before - w.before.now.first

-- the leave of the row at the window's old start
abbrev pub fallen_frames : Watched → List ℕ
fallen_frames w =
    frames (map (Change w.kinds.leave w.n) (fallen (start_place w) w.before.now.tables.lower_ends.now w.before.now.tables.upper_ends.now w.shift))

-- the leaves of the rows that the quote retires
abbrev pub dropped_frames : Watched → List ℕ
dropped_frames w = frames (map (Change w.kinds.leave w.n) (dropped w.before.now.first w.before.now.tables.lower_ends.now w.shift w.before.now.retired.now))

-- all leaves
abbrev pub leave_frames : Watched → List ℕ
leave_frames w =
    frames
    (map (Change w.kinds.leave w.n)
    (fallen (start_place w) w.before.now.tables.lower_ends.now w.before.now.tables.upper_ends.now w.shift
    ++ dropped w.before.now.first w.before.now.tables.lower_ends.now w.shift w.before.now.retired.now))

-- the joins of the rows held before
abbrev pub join_frames : Watched → List ℕ
join_frames w = frames (map (Change w.kinds.join w.n) (moving (held_by w.before.now) w.shift true))

-- all changes
abbrev pub change_frames : Watched → List ℕ
change_frames w = frames (changed (held_by w.before.now) w.shift w.before.now.lower w.kinds w.n)
