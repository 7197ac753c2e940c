-- The bytes of a quote's changes, what is asked before they are written, and what an accepted quote hands back.
use Rattle.std.specs.Prelude.{◌≡◌, ℕ, ◌≤◌, ◌<◌, Bool, true, false, List, ◌++◌, length}
use Rattle.skyline.specs.Skyline.{window_start}
use Rattle.head.specs.declared.Head.{Head}
use Rattle.head.specs.declared.replies.Reply.{Reply}
use Rattle.head.specs.Heads.{after_quote}
use Rattle.head.specs.Replies.{accepting}
use Rattle.model.specs.Book.{torn_watches}
use Rattle.table_finding.specs.Found.{Rows}
use Rattle.table_changes.specs.Held.{LiveNamed}
use Rattle.table_changes.specs.Watches.{held_in, Full, Outdone, all_frames}
use Rattle.table_pair_changes.specs.Pairs.{Sound, pair_frames, Paired}

-- the changes at a quote whose row has this lower end: those of the watches, and behind them those of the pair
unfoldable pub change_bytes : Head → ℕ → List ℕ → Rows → List ℕ → List ℕ
change_bytes h lower lowers rows ws = all_frames h lowers rows lower ws ++ pair_frames h lowers rows.uppers

-- they may be written, by the places of the rows that are retired: the rows stand in their tables, and the changes find room
pub record Writable (h : Head) (lower : ℕ) (retired lowers : List ℕ) (rows : Rows) (ws : List ℕ) (room : ℕ) : Type 0 where
  pub bounded : h.capacity < 65536
  pub untorn : torn_watches h.capacity ws ≡ false
  pub full : Full h lowers rows
  pub outdone : Outdone h lowers rows retired
  pub paired : Paired h lowers rows.uppers
  pub fits : length (change_bytes h lower lowers rows ws) ≤ room

-- if sound, the rows' ends are as calls leave them: lower ends of live rows name live rows, and both ends fit one another
pub record SoundIf (sound : Bool) (h : Head) (lowers : List ℕ) (rows : Rows) : Type 0 where
  pub named : sound ≡ true → LiveNamed (held_in h lowers rows)
  pub ends : sound ≡ true → Sound (window_start h.newest h.capacity) h.held lowers rows.uppers

-- what an accepted quote hands back: so many rows are live and held after it, and so many bytes are written
abbrev pub accepted_reply : Head → ℕ → ℕ → ℕ → Reply
accepted_reply h live held count = accepting (after_quote h live held) count
