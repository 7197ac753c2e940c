-- What is known of a watch at a quote: the places of the rows that the quote retires, and the rows that lower ends name.
use mathlib.Core.Path.{◌≡◌, refl, sym}
use Prim.Native.Nat.{ℕ, ◌+◌, ◌-◌, ◌≤◌, ◌<◌}
use native.Mathlib.Omega.{arith}
use mathlib.Core.Bool.{true}
use mathlib.Core.List.{List}
use lib.ListN.{length}
use Rattle.skyline.specs.Skyline.{window_start}
use Rattle.head.specs.declared.Head.{Head}
use Rattle.table_finding.specs.Found.{Rows}
use Rattle.table_cells.specs.Marked.{Below}
use Rattle.table_changes.specs.declared.before.Before.{Before}
use Rattle.table_changes.specs.declared.watched.Watched.{Watched}
use Rattle.model.specs.Changes.{frames}
use Rattle.head.specs.Desks.{size_in}
use Rattle.table_changes.specs.Held.{still, changed, Ready, Retired, LiveNamed}
use Rattle.table_changes.specs.declared.Shift.{Shift}
use Rattle.table_changes.specs.declared.kinds.Kinds.{Kinds}
use Rattle.table_changes.specs.Kinds.{kinds_of}
use Rattle.table_changes.specs.Watches.{shift_of, outdone, Outdone}
use Rattle.table_changes.specs.Frames.{held_by, frames_of, start_place, dropped_frames, change_frames}
use Rattle.table_changes.proofs.Leaving.{retired_below}
use Rattle.table_changes.proofs.Still.{still_changed}
use Rattle.table_changes.proofs.Watching.{ready_of, watch_some}

-- the places that are listed as those of the rows that the quote retires are those places
pub outdone_listed : {h : Head} {lowers : List ℕ} {rows : Rows} {places : List ℕ} → Outdone h lowers rows places → places ≡ outdone h rows
unfolding outdone
outdone_listed {h} o =
    let stays = o.stays in
    let e : window_start (h.newest + 1) h.capacity - window_start h.newest h.capacity ≡ o.from = omega arith in
    rw e o.listed

window_rises : (newest n : ℕ) → window_start newest n ≤ window_start (newest + 1) n
unfolding window_start
window_rises newest n = omega arith

-- the first position of the rows held
first_is : (b : Before) → b.first ≡ window_start b.head.newest b.head.capacity
first_is b = b.first_value

-- the lower ends of live rows name live rows, where that is known
pub named_by : (b : Before) → b.sound ≡ true → LiveNamed (held_by b)
named_by b = rw (first_is b) b.named

-- these are the places of the rows that the quote retires
pub retired_by : (w : Watched) → Retired (held_by w.before.now) w.shift w.before.now.retired.now
unfolding outdone
retired_by w =
    let first = w.before.now.first_value in
    let rises = window_rises w.before.now.head.newest w.before.now.head.capacity in
    let stays = w.stays in
    let ends = w.ready.ends in
    record {
      from = window_start (w.before.now.head.newest + 1) w.before.now.head.capacity - window_start w.before.now.head.newest w.before.now.head.capacity;
      within = omega arith;
      stays = omega arith;
      listed = w.before.now.listed;
    }

-- they stand in the tables
pub places_below : (w : Watched) → Below w.before.now.retired.now (length w.before.now.tables.lower_ends.now)
places_below w = retired_below (held_by w.before.now) w.shift w.ready (retired_by w)

-- the window of a watch lies within the rows
pub ready_by : (b : Before) (n : ℕ) → 0 < n → n ≤ b.head.capacity → {w : Shift} → w ≡ shift_of b.head.newest n → Ready (held_by b) w
ready_by b n some low q = rw (first_is b) (ready_of b.full n some low q)

-- it begins after the quote behind the rows that do not stay
pub stays_by : (b : Before) (n : ℕ) → n ≤ b.head.capacity → {w : Shift} → w ≡ shift_of b.head.newest n → window_start (b.head.newest + 1) b.head.capacity ≤ w.after
unfolding shift_of window_start
stays_by b n low q = rw q (omega arith)

-- the frames of a record, by what is known of its watch
pub frames_are : (b : Before) (watch : ℕ) → 0 < watch → {n : ℕ} {w : Shift} {kinds : Kinds} → n ≡ size_in watch → w ≡ shift_of b.head.newest n → kinds ≡ kinds_of watch
    → frames (changed (held_by b) w b.lower kinds n) ≡ frames_of b watch
frames_are b watch some e f q = rw (first_is b) (sym (watch_some b.head b.tables.lower_ends.now _ b.lower watch (λ z. omega arith) e f q))

-- where the window is still, they are the leaves of rows that the quote retires
pub still_frames : (w : Watched) → still (start_place w) w.before.now.tables.upper_ends.now w.shift w.before.now.lower w.before.now.sound ≡ true → change_frames w ≡ dropped_frames w
still_frames w e =
    still_changed (held_by w.before.now) w.shift w.ready w.before.now.lower w.kinds w.n w.before.now.sound (named_by w.before.now) w.before.now.retired.now (retired_by w) w.before.now.first refl e
