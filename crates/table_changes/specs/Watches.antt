-- The changes that a quote makes to the lists of all watches, as frames.
use Rattle.std.specs.Prelude.{◌≡◌, ℕ, ◌+◌, ◌-◌, ◌≤◌, ◌<◌, cond, List, [], map, eqb, length}
use Rattle.lists.specs.Lists.{flat}
use Rattle.skyline.specs.Skyline.{window_start}
use Rattle.head.specs.declared.Head.{Head}
use Rattle.head.specs.Heads.{last_position}
use Rattle.head.specs.Desks.{size_in}
use Rattle.model.specs.Changes.{frames}
use Rattle.table_finding.specs.Found.{Rows, retired, Fits}
use Rattle.table_changes.specs.declared.Shift.{Shift}
use Rattle.table_changes.specs.Kinds.{kinds_of}
use Rattle.table_changes.specs.Held.{Held, changed}

-- how the window of n moves at the quote behind the newest
unfoldable pub shift_of : ℕ → ℕ → Shift
shift_of newest n = record { before = window_start newest n; after = window_start (newest + 1) n }

-- a watch record is empty, or its n is from 1 to N
pub record Sized (N watch : ℕ) : Type 0 where
  pub least : 0 < watch → 0 < size_in watch
  pub most : size_in watch ≤ N

-- the places of the rows that the quote retires, of those that stay
unfoldable pub outdone : Head → Rows → List ℕ
outdone h rows = retired rows (window_start (h.newest + 1) h.capacity - window_start h.newest h.capacity) h.held

module _ (h : Head) (lowers : List ℕ) (rows : Rows) where
  -- the rows of the book
  abbrev pub held_in : Held
  held_in = record { first = window_start h.newest h.capacity; count = h.held; lowers = lowers; rows = rows }

  -- the rows stand in their tables and fill the window of N, and the tape has space for a quote
  pub record Full : Type 0 where
    pub fits : Fits rows h.held
    pub lower_room : h.held ≤ length lowers
    pub filled : h.newest + 1 ≡ window_start h.newest h.capacity + h.held
    pub space : h.newest < last_position

  -- these are the places of the rows that the quote retires, of those that stay
  pub record Outdone (places : List ℕ) : Type 0 where
    pub from : ℕ
    pub stays : window_start h.newest h.capacity + from ≡ window_start (h.newest + 1) h.capacity
    pub listed : places ≡ retired rows from h.held

  -- lower: the new row's lower end
  module _ (lower : ℕ) where
    -- the frames of a watch record; 0 is an empty one
    unfoldable pub watch_frames : ℕ → List ℕ
    watch_frames watch = cond (eqb watch 0) [] (frames (changed held_in (shift_of h.newest (size_in watch)) lower (kinds_of watch) (size_in watch)))

    -- the frames of these watch records, each behind the one before
    unfoldable pub all_frames : List ℕ → List ℕ
    all_frames watches = flat (map watch_frames watches)
