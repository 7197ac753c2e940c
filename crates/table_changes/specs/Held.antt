-- What a quote does to the list of a window, told by the rows held before it.
use Rattle.std.specs.Prelude.{◌≡◌, ℕ, ◌+◌, ◌-◌, ◌≤◌, ◌<◌, Bool, true, false, ◌&&◌, ◌||◌, not, List, [], ◌++◌, map, ltb, leb, length, get_or}
use Rattle.lists.specs.Lists.{keep, filter}
use Rattle.skyline.specs.Skyline.{stabbed}
use Rattle.head.specs.Heads.{last_position}
use Rattle.frames.specs.declared.Message.{Message}
use Rattle.frames.specs.declared.Message.TheVariants.{Change}
use Rattle.table_finding.specs.Found.{live, Rows, over, retired, Fits}
use Rattle.table_listing.specs.Picked.{picked}
use Rattle.table_changes.specs.declared.Shift.{Shift}
use Rattle.table_changes.specs.declared.kinds.Kinds.{Kinds}

-- the row at place i is live and the quote is not over it
unfoldable pub stands : Rows → ℕ → Bool
stands r i = live r.uppers i && not (over r i)

-- the rows held before a quote: the row at place i below count has position first + i; their lower ends, their upper ends and columns,
-- and the quote
pub record Held : Type 0 where
  pub first : ℕ
  pub count : ℕ
  pub lowers : List ℕ
  pub rows : Rows

abbrev pub held : ℕ → ℕ → List ℕ → Rows → Held
held first count lowers rows = record { first = first; count = count; lowers = lowers; rows = rows }

-- the position of the row at this place, that of the window's old start, if the window moves past it and it was listed
unfoldable pub fallen : ℕ → List ℕ → List ℕ → Shift → List ℕ
fallen place lowers uppers w = keep (ltb w.before w.after && (live uppers place && ltb (get_or lowers place 0) w.before)) w.before []

-- of the rows at these places, the positions of those in the window after whose lower end is before the window's old start
unfoldable pub dropped : ℕ → List ℕ → Shift → List ℕ → List ℕ
dropped first lowers w places = map (λ i. first + i) (filter (λ i. ltb (get_or lowers i 0) w.before && leb w.after (first + i)) places)

-- rows may join: the window moves past the row at its old start, at this place, and that is live where that is known to matter
unfoldable pub may_gain : ℕ → List ℕ → Shift → Bool → Bool
may_gain place uppers w sound = ltb w.before w.after && (not sound || live uppers place)

-- no row joins, and only rows that the quote retires may leave: the new row, with this lower end, is not listed, and the window does not move or,
-- where lower ends of live rows are known to name live rows, moves past a row that is not live, at this place
unfoldable pub still : ℕ → List ℕ → Shift → ℕ → Bool → Bool
still place uppers w lower sound = leb w.after lower && (leb w.after w.before || (sound && not (live uppers place)))

-- w says how the window moves at the quote
module _ (s : Held) (w : Shift) where
  -- the row at place i is on the list before
  unfoldable pub was_listed : ℕ → Bool
  was_listed i = live s.rows.uppers i && stabbed w.before (get_or s.lowers i 0) (s.first + i)

  -- the row at place i is on the list after
  unfoldable pub now_listed : ℕ → Bool
  now_listed i = stands s.rows i && stabbed w.after (get_or s.lowers i 0) (s.first + i)

  -- the row at place i joins the list (true) or leaves it (false)
  unfoldable pub moves : Bool → ℕ → Bool
  moves true i = now_listed i && not (was_listed i)
  moves false i = was_listed i && not (now_listed i)

  -- the positions of the rows that join (true) or leave (false), rising
  unfoldable pub moving : Bool → List ℕ
  moving joins = picked (moves joins) s.first s.count

  -- the positions that join the list, rising, the new row's last; it has this lower end
  unfoldable pub joining : ℕ → List ℕ
  joining lower = moving true ++ keep (ltb lower w.after) (s.first + s.count) []

  -- the changes of a watch of n with these kinds, where the new row has this lower end: the leaves, then the joins
  unfoldable pub changed : ℕ → Kinds → ℕ → List Message
  changed lower kinds n = map (Change kinds.leave n) (moving false) ++ map (Change kinds.join n) (joining lower)

  -- the rows stand in their tables; the window lies within them and moves by one position or not at all
  pub record Ready : Type 0 where
    pub fits : Fits s.rows s.count
    pub lower_room : s.count ≤ length s.lowers
    pub cell : s.first + s.count ≤ last_position
    pub starts : s.first ≤ w.before
    pub forth : w.before ≤ w.after
    pub by_one : w.after ≤ w.before + 1
    pub ends : w.after ≤ s.first + s.count

  -- these are the places of the rows that the quote retires; rows before the window after may be left out
  pub record Retired (places : List ℕ) : Type 0 where
    pub from : ℕ
    pub within : from ≤ s.count
    pub stays : s.first + from ≤ w.after
    pub listed : places ≡ retired s.rows from s.count

-- the lower end of a live row, if it is held, is that of a live row
pub record LiveNamed (s : Held) : Type 0 where
  pub names : (i : ℕ) → i < s.count → live s.rows.uppers i ≡ true → s.first ≤ get_or s.lowers i 0
      → live s.rows.uppers (get_or s.lowers i 0 - s.first) ≡ true
