-- What a quote does to the past list of the pair, told by the ends of the rows held before it.
use Rattle.std.specs.Prelude.{◌≡◌, ◌⊎◌, ℕ, suc, ◌+◌, ◌-◌, ◌≤◌, ◌<◌, Bool, false, ◌&&◌, ◌||◌, not, cond, List, [], ◌++◌, map, ltb, leb, eqb, length, get_or}
use Rattle.lists.specs.Lists.{keep, filter, run}
use Rattle.skyline.specs.Skyline.{window_start}
use Rattle.head.specs.declared.Head.{Head}
use Rattle.head.specs.Heads.{last_position, torn_pair}
use Rattle.frames.specs.declared.Message.{Message}
use Rattle.model.specs.Changes.{pair_leave, pair_join, frames}
use Rattle.table_changes.specs.declared.Shift.{Shift}
use Rattle.table_changes.specs.Watches.{shift_of}

-- an upper end that does not lie in a window up to b
abbrev pub lasts : ℕ → ℕ → Bool
lasts b upper = eqb upper 0 || ltb b upper

-- of k places from s on, the positions of those whose key is x and that pass the rest of the test; place 0 has position first
unfoldable pub sought : ℕ → List ℕ → ℕ → (ℕ → Bool) → ℕ → ℕ → List ℕ
sought first keys x rest s k = map (λ i. first + i) (filter (λ i. eqb (get_or keys i 0) x && rest i) (run s k))

-- in what follows the row at place 0 has position first, and the pair's window has this start and end, before and after the quote

-- the row at the old start leaves: the window moves past it, and it was listed
unfoldable pub falls : ℕ → List ℕ → Shift → Shift → Bool
falls first uppers start end = ltb start.before start.after && lasts end.before (get_or uppers (start.before - first) 0)

-- the row at the new end joins: the window takes it in, and no row of it is over that row
unfoldable pub enters : ℕ → List ℕ → Shift → Shift → Bool
enters first lowers start end = ltb end.before end.after && ltb (get_or lowers (end.after - first) 0) start.after

-- the place from which on rows may leave by their upper end: on a sound book behind the lower end of the row at the new end
unfoldable pub dropped_from : ℕ → List ℕ → Shift → Shift → Bool → ℕ
dropped_from first lowers start end sound =
    let lower = get_or lowers (end.after - first) 0 in
    cond (sound && leb start.after lower) (lower + 1 - first) (start.after - first)

module _ (first : ℕ) (lowers uppers : List ℕ) (start end : Shift) where
  -- the rows that leave since the new end is over them
  unfoldable pub dropped : List ℕ
  dropped = sought first uppers end.after (λ i. ltb (get_or lowers i 0) start.before) (start.after - first) (suc end.before - start.after)

  -- the rows that join since the window moves past the old start, which is over them
  unfoldable pub gained : List ℕ
  gained =
      cond (ltb start.before start.after)
      (sought first lowers start.before (λ i. lasts end.after (get_or uppers i 0)) (start.after - first) (suc end.before - start.after)) []

  -- the positions that leave, rising
  unfoldable pub leaving : List ℕ
  leaving = keep (falls first uppers start end) start.before [] ++ dropped

  -- the positions that join, rising
  unfoldable pub joining : List ℕ
  joining = gained ++ keep (enters first lowers start end) end.after []

  -- the changes: the leaves, then the joins
  unfoldable pub moved : List Message
  moved = map pair_leave leaving ++ map pair_join joining

  -- the window lies within the rows of these tables and takes in one more, whose lower end is before it
  pub record Ready : Type 0 where
    pub starts : first ≤ start.before
    pub forth : start.before ≤ start.after
    pub near : start.after ≤ end.after
    pub by_one : end.after ≡ end.before + 1
    pub low : get_or lowers (end.after - first) 0 < end.after
    pub lower_room : end.after < first + length lowers
    pub upper_room : end.after < first + length uppers
    pub cell : end.after ≤ last_position

-- what the ends of count rows say of one another where calls left them: the row that a lower end names lasts on every list on which the
-- row below it does, and a row lies behind the lower end of the row that its upper end names
pub record Sound (first count : ℕ) (lowers uppers : List ℕ) : Type 0 where
  pub lasting : (i b : ℕ) → i < count → first ≤ get_or lowers i 0 → first + i ≤ b → (get_or uppers i 0 ≡ 0) ⊎ (b < get_or uppers i 0)
      → (get_or uppers (get_or lowers i 0 - first) 0 ≡ 0) ⊎ (b < get_or uppers (get_or lowers i 0 - first) 0)
  pub behind : (i j : ℕ) → i < count → j < count → get_or uppers i 0 ≡ first + j → get_or lowers j 0 < first + i

-- how the end of the pair's window moves at the quote behind the newest
unfoldable pub end_shift : Head → Shift
end_shift h = record { before = h.newest + 1 - h.n1; after = h.newest + 1 + 1 - h.n1 }

-- a pair stands, and the next quote brings its window a position
unfoldable pub begun : Head → Bool
begun h = not (eqb h.n1 0) && leb h.n1 (h.newest + 1)

module _ (h : Head) (lowers uppers : List ℕ) where
  -- the frames of the pair's changes; none before its window has begun
  unfoldable pub pair_frames : List ℕ
  pair_frames = cond (begun h) (frames (moved (window_start h.newest h.capacity) lowers uppers (shift_of h.newest h.n2) (end_shift h))) []

  -- the rows stand in their tables and fill the window of N, their lower ends are below their positions, and the tape has space for a quote
  pub record Paired : Type 0 where
    pub untorn_pair : torn_pair h ≡ false
    pub filled : h.newest + 1 ≡ window_start h.newest h.capacity + h.held
    pub space : h.newest < last_position
    pub lower_room : h.held ≤ length lowers
    pub upper_room : h.held ≤ length uppers
    pub low : (i : ℕ) → i < h.held → get_or lowers i 0 < window_start h.newest h.capacity + i
