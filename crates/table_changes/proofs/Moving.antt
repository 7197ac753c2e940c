-- The frames of the rows that leave or join a list at a quote.
use mathlib.Core.Path.{◌≡◌, sym, ◌∙◌}
use Prim.Native.Nat.{ℕ, ◌+◌, ◌≤◌, ◌<◌}
use native.Mathlib.Omega.{arith}
use mathlib.Core.Bool.{true, false}
use mathlib.Core.List.{List, [], ◌++◌, map, append_assoc, append-nil}
use lib.Dec.{ltb}
use lib.ListN.{length, length-append}
use borrow.Author.Tests.{lt-ltb, le-ltb}
use Rattle.lists.specs.Lists.{keep, flat}
use Rattle.lists.proofs.Filters.{map-append}
use Rattle.frames.specs.declared.Message.TheVariants.{Change}
use Rattle.frames.specs.Frames.{frame}
use Rattle.model.specs.Changes.{frames}
use Rattle.model.proofs.ChangeFrames.{frames_append}
use Rattle.table_changes.specs.declared.Shift.{Shift}
use Rattle.table_changes.specs.declared.kinds.Kinds.{Kinds}
use Rattle.table_changes.specs.Held.{Held, moving, joining, changed}

module _ (s : Held) (w : Shift) (lower : ℕ) (kinds : Kinds) (n : ℕ) where
  -- the frames of the rows that leave, and of those that join
  abbrev pub leave_frames : List ℕ
  leave_frames = frames (map (Change kinds.leave n) (moving s w false))

  abbrev pub join_frames : List ℕ
  join_frames = frames (map (Change kinds.join n) (moving s w true))

  -- the new row's join
  abbrev pub new_frame : List ℕ
  new_frame = frame (Change kinds.join n (s.first + s.count)) []

  -- the frames of the changes: the rows' leaves and joins, then the new row's join, if it is listed
  changed_frames : frames (changed s w lower kinds n) ≡ (leave_frames ++ join_frames) ++ frames (map (Change kinds.join n) (keep (ltb lower w.after) (s.first + s.count) []))
  unfolding changed joining
  changed_frames = rw (frames_append, map-append, frames_append) (sym (append_assoc leave_frames join_frames (frames (map (Change kinds.join n) (keep (ltb lower w.after) (s.first + s.count) [])))))

  pub changed_listed : lower < w.after → frames (changed s w lower kinds n) ≡ (leave_frames ++ join_frames) ++ new_frame
  unfolding frames flat
  changed_listed h = changed_frames ∙ rw (lt-ltb lower w.after h, append-nil)

  pub changed_unlisted : w.after ≤ lower → frames (changed s w lower kinds n) ≡ leave_frames ++ join_frames
  unfolding frames flat
  changed_unlisted h = changed_frames ∙ rw (le-ltb lower w.after h) (append-nil (leave_frames ++ join_frames))

  -- there is room for the rows' leaves and joins where there is room for all
  pub rows_fit : (room : ℕ) → length (frames (changed s w lower kinds n)) ≤ room → length (leave_frames ++ join_frames) ≤ room
  rows_fit room h = omega (arith, rw (changed_frames, length-append) at h)
