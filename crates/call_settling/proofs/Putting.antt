-- Laws of tables that a row is put into: their sizes, and what was renamed or stored before.
use mathlib.Core.Path.{◌≡◌, refl, sym, ap, ap₂, ◌∙◌}
use Prim.Native.Nat.{ℕ, suc, ◌+◌, ◌-◌, ◌*◌, ◌≤◌, ◌<◌}
use native.Mathlib.Nat.{le_refl, mul-one, mul-le-mul, mul-le-mul_right, suc-mul, mul-sub, mul_comm, zero-add}
use native.Mathlib.Decide.{dec_lt}
use native.Mathlib.Omega.{arith}
use mathlib.Core.Bool.{Bool, true, false}
use mathlib.Core.List.{List, [], ◌∷◌, ◌++◌, map}
use lib.ListN.{length, get_or, set, take, drop, length-map, get_or-append}
use lib.Seq.{paste, length_front, length-take-le, drop-set-lt}
use Rattle.lists.specs.Lists.{run, padded}
use Rattle.lists.proofs.Cells.{map_run, cells_part}
use Rattle.lists.proofs.Filters.{map_map}
use Rattle.lists.proofs.Places.{map_places}
use Rattle.lists.proofs.Runs.{get_or_run}
use Rattle.lists.proofs.Storing.{drop_beyond, drop_later, get_d_beyond}
use Rattle.lists.proofs.Writing.{beyond_only}
use Rattle.head.specs.declared.Head.{Head}
use Rattle.model.specs.Rows.{renamed}
use Rattle.table_cells.specs.Marked.{marked, Below}
use Rattle.call_settling.specs.Settled.{rows_put, lowers_put, uppers_put, rows_behind, rows_settled, lowers_settled, uppers_settled, Ready, Unnamed}

-- the rows behind the first ones
pub rows_less : (m n w : ℕ) → m * w - n * w ≡ (m - n) * w
rows_less m n w = sym (mul_comm (m - n) w ∙ mul-sub w m n ∙ ap₂ (λ (a b : ℕ). a - b) (mul_comm w m) (mul_comm w n))

module _ {h : Head} {k : Bool} {w by : ℕ} {cells : List ℕ} (v : Ready h k w by cells) where
  -- the sizes in cells
  pub sizes : (by * w ≤ h.held * w) × (h.held * w ≤ h.capacity * w) × (h.capacity * w ≤ 6144)
  sizes = (mul-le-mul_right w v.by_held, mul-le-mul_right w v.held_fit, mul-le-mul v.bounded v.narrow)

  -- there is room for the row
  pub row_fits : {n : ℕ} → n ≡ w → h.held * w - by * w + n ≤ h.capacity * w
  row_fits e = rw (rows_less h.held by w) (omega (arith, suc-mul (h.held - by) w, mul-le-mul_right w v.room))

  -- and behind all rows held, in a reachable book
  pub behind_fits : k ≡ true → h.held * w + w ≤ length cells
  behind_fits e = omega (arith, sizes, v.spare e)

  -- other cells, as many
  pub ready_same : {cells' : List ℕ} → length cells' ≡ length cells → Ready h k w by cells'
  ready_same n = record {
    narrow = v.narrow;
    bounded = v.bounded;
    by_held = v.by_held;
    room = v.room;
    held_fit = v.held_fit;
    long = rw n v.long;
    spare = λ e. rw n (v.spare e);
  }

-- a table of one cell a row
pub put_one : (h : Head) (by : ℕ) (row cells : List ℕ) → rows_put h 1 by row cells ≡ padded h.capacity (take (h.held - by) (drop by cells) ++ row) cells
unfolding rows_put
put_one h by row cells = rw (mul-one h.capacity, mul-one h.held, mul-one by)

-- ---- lower ends

-- each lower end may name position gone
pub any_unnamed : (gone n : ℕ) (lowers : List ℕ) → Unnamed gone n n lowers
any_unnamed gone n lowers = record { within = le_refl n; same = λ i u w. absurd (omega arith) }

module _ {h : Head} {k : Bool} {by gone named : ℕ} {lowers after : List ℕ} (v : Ready h k 1 by lowers) (u : Unnamed gone named h.held lowers)
    (e : after ≡ map (renamed gone) (take named lowers) ++ drop named lowers) where
  abbrev front : List ℕ
  front = map (renamed gone) (take named lowers)

  lowers_long : h.held ≤ length lowers
  lowers_long = omega (arith, v.held_fit, v.long, mul-one h.capacity)

  pub named_within : named ≤ length lowers
  named_within = omega (arith, lowers_long, u.within)

  front# : length front ≡ named
  front# = length-map (take named lowers) (renamed gone) ∙ length-take-le named lowers named_within

  drop_same : (n : ℕ) → named ≤ n → drop n after ≡ drop n lowers
  drop_same n k = rw e (drop_beyond front lowers named n front# k)

  -- behind the rows nothing is renamed
  pub lowers_behind : drop h.held after ≡ drop h.held lowers
  lowers_behind = drop_same h.held u.within

  -- each lower end that is left is renamed
  renamed_at : (i : ℕ) → i < h.held → get_or after i 0 ≡ renamed gone (get_or lowers i 0)
  renamed_at i k = go (dec_lt i named)
    where
      go : Dec (i < named) → get_or after i 0 ≡ renamed gone (get_or lowers i 0)
      go (yes l) =
          ap (λ (r : List ℕ). get_or r i 0) e ∙ get_or-append front (drop named lowers) 0 i (omega (arith, front#))
          ∙ ap (λ (r : List ℕ). get_or (map (renamed gone) r) i 0) (sym (map_places 0 named lowers named_within))
          ∙ rw map_map (get_or_run (λ j. renamed gone (get_or lowers j 0)) 0 0 named i l ∙ rw zero-add)
      go (no n) = get_d_beyond 0 after lowers named i (omega arith) (drop_same named (omega arith)) ∙ sym (u.same i (omega arith) k)

  pub lowers_put_lem : (lower : ℕ) {end : List ℕ} → length after ≡ length lowers → end ≡ rows_put h 1 by (lower ∷ []) after → end ≡ lowers_put h by gone lower lowers
  unfolding lowers_put
  lowers_put_lem lower n f =
      let k = h.held - by in
      let room : by + k ≤ length lowers = omega (arith, lowers_long, v.by_held) in
      let left : take k (drop by after) ≡ map (renamed gone) (take k (drop by lowers)) =
      sym (cells_part 0 after by k (omega arith))
      ∙ map_run (λ i. get_or after i 0) (λ i. renamed gone (get_or lowers i 0)) by k (λ i a b. renamed_at i (omega (arith, v.by_held)))
      ∙ sym (map_map (renamed gone) (λ i. get_or lowers i 0) (run by k))
      ∙ ap (map (renamed gone)) (cells_part 0 lowers by k room) in
      f ∙ put_one h by (lower ∷ []) after
      ∙ ap (λ (l : List ℕ). padded h.capacity (l ++ (lower ∷ [])) after) left
      ∙ beyond_only h.capacity _ after lowers (drop_same h.capacity (omega (arith, u.within, v.held_fit)))

-- ---- upper ends

drop_marked : (ps : List ℕ) (x n : ℕ) (cells : List ℕ) → Below ps n → drop n (marked ps x cells) ≡ drop n cells
unfolding marked
drop_marked [] x n cells b = refl
drop_marked (p ∷ ps) x n cells b =
    drop_marked ps x n (set cells p x) (record { low = λ k l. b.low (suc k) (omega arith) }) ∙ drop-set-lt n cells p x (b.low 0 (omega arith))

module _ {h : Head} {k : Bool} {by : ℕ} {uppers : List ℕ} (v : Ready h k 1 by uppers) {places : List ℕ} (b : Below places h.held) where
  pub places_below : Below places (length uppers)
  places_below = record { low = λ k l. omega (arith, b.low k l, v.held_fit, v.long, mul-one h.capacity) }

  module _ {after : List ℕ} (e : after ≡ marked places (h.newest + 1) uppers) where
    pub marked_same : (n : ℕ) → h.held ≤ n → drop n after ≡ drop n uppers
    marked_same n k = rw e (drop_later _ uppers h.held n k (drop_marked places (h.newest + 1) h.held uppers b))

    pub uppers_put_lem : {end : List ℕ} → end ≡ rows_put h 1 by (0 ∷ []) after → end ≡ uppers_put h by places uppers
    unfolding uppers_put
    uppers_put_lem f =
        f ∙ put_one h by (0 ∷ []) after
        ∙ beyond_only h.capacity _ after uppers (marked_same h.capacity v.held_fit)
        ∙ ap (λ (l : List ℕ). padded h.capacity (take (h.held - by) (drop by l) ++ (0 ∷ [])) uppers) e

-- ---- a table as it is settled

-- in a reachable book the row is put behind the others
pub settled_behind : (h : Head) {k : Bool} (w by : ℕ) (row cells : List ℕ) {after : List ℕ} → k ≡ true → after ≡ paste cells (h.held * w) row (length row) → after ≡ rows_settled h k w by row cells
unfolding rows_settled rows_behind
settled_behind h w by row cells e f = rw e f

-- in any other they move to the front first
pub settled_put : (h : Head) {k : Bool} (w by : ℕ) (row cells : List ℕ) {after : List ℕ} → k ≡ false
    → after ≡ padded (h.capacity * w) (take (h.held * w - by * w) (drop (by * w) cells) ++ row) cells → after ≡ rows_settled h k w by row cells
unfolding rows_settled rows_put
settled_put h w by row cells e f = rw e f

-- what a table settled in any book holds
pub put_rows : (h : Head) {k : Bool} (w by : ℕ) (row cells : List ℕ) {after : List ℕ} → k ≡ false → after ≡ rows_settled h k w by row cells → after ≡ rows_put h w by row cells
unfolding rows_settled
put_rows h w by row cells e f = rw e at f

pub put_lowers : {h : Head} {k : Bool} {by : ℕ} {lowers : List ℕ} (gone named lower : ℕ) {after : List ℕ} → Ready h k 1 by lowers → k ≡ false → named ≡ h.held
    → after ≡ lowers_settled h k by gone named lower lowers → after ≡ lowers_put h by gone lower lowers
unfolding lowers_settled
put_lowers {h} {k} {by} {lowers} gone named lower v e n f =
    let front = map (renamed gone) (take named lowers) in
    let long : length (front ++ drop named lowers) ≡ length lowers = length_front lowers front named (length-map (take named lowers) (renamed gone)) in
    lowers_put_lem v (any_unnamed gone h.held lowers) (rw n) lower long (put_rows h 1 by (lower ∷ []) (front ++ drop named lowers) e f)

pub put_uppers : {h : Head} {k : Bool} {by : ℕ} {uppers : List ℕ} (places : List ℕ) {after : List ℕ} → Ready h k 1 by uppers → Below places h.held → k ≡ false
    → after ≡ uppers_settled h k by places uppers → after ≡ uppers_put h by places uppers
unfolding uppers_settled
put_uppers {h} {k} {by} {uppers} places v b e f = uppers_put_lem v b refl (put_rows h 1 by (0 ∷ []) (marked places (h.newest + 1) uppers) e f)
