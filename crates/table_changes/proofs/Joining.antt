-- A loop that writes the joins of rows, from one lower end at the window's old start to the next: its invariant and its turns.
use mathlib.Core.Path.{◌≡◌, sym, ◌∙◌}
use Rattle.std.specs.Prelude.{Option, Some, None}
use Prim.Native.Nat.{ℕ, ◌+◌, ◌-◌, ◌≤◌, ◌<◌}
use native.Mathlib.Omega.{arith}
use mathlib.Core.Bool.{Bool, true, false, ◌||◌, not}
use mathlib.Core.List.{List, [], map}
use lib.Dec.{ltb}
use lib.ListN.{length, get_or}
use borrow.Author.Tests.{ltb-true}
use borrow.Rule.Slice.PartMut.{mid_of, put_mid}
use Rattle.lists.specs.Lists.{flat, laid}
use Rattle.lists.proofs.Booleans.{refute, and_left}
use Rattle.frames.specs.declared.Message.TheVariants.{Change}
use Rattle.frames.specs.Frames.{frame}
use Rattle.frames.proofs.RoundTrips.{change_length_lem}
use Rattle.model.specs.Changes.{frames}
use Rattle.table_finding.specs.Found.{live}
use Rattle.table_listing.proofs.Picking.{picked_skip}
use Rattle.table_listing.proofs.Writing.{Writing, writing_start, writing_pass, writing_skip, writing_all}
use Rattle.table_listing.proofs.Framing.{framing, frames_cells, frame_fits, frame_laid}
use Rattle.table_changes.specs.declared.Shift.{Shift}
use Rattle.table_changes.specs.declared.watched.Watched.{Watched}
use Rattle.table_changes.specs.Sought.{Next, place_or, Found}
use Rattle.table_changes.specs.Held.{Held, stands, moves, moving, may_gain, Ready}
use Rattle.table_changes.specs.Frames.{rows_by, held_by, start_place, join_frames}
use Rattle.table_changes.proofs.Stepping.{joins_at, joins_by, joins_none}
use Rattle.table_changes.proofs.Known.{named_by}

-- the joins of the rows below place i stand at the front of the output, and the row there, if there is one, has the old start as its
-- lower end
pub record Joining (kind n : ℕ) (s : Held) (w : Shift) (entry out : List ℕ) (at i : ℕ) : Type 0 where
  pub moved : w.before < w.after
  pub behind : w.after ≤ s.first + i
  pub found : i < s.count → get_or s.lowers i 0 ≡ w.before
  pub writing : Writing (framing (Change kind n)) (moves s w true) s.first s.count entry out at i

-- where rows may join, the window moves
pub gain_moves : (place : ℕ) (uppers : List ℕ) (w : Shift) (sound : Bool) → may_gain place uppers w sound ≡ true → w.before < w.after
unfolding may_gain
gain_moves place uppers w sound e = ltb-true w.before w.after (and_left (ltb w.before w.after) (not sound || live uppers place) e)

module _ {kind n : ℕ} {s : Held} {w : Shift} (v : Ready s w) where
  -- on to the next lower end that is the window's old start
  onward : {entry out : List ℕ} {at i j : ℕ} → w.before < w.after → w.after ≤ s.first + i → Writing (framing (Change kind n)) (moves s w true) s.first s.count entry out at i
      → Next s.lowers w.before i s.count j → Joining kind n s w entry out at j
  onward {i = i} {j} m b u e = record {
    moved = m;
    behind = let l = e.passed.low in omega arith;
    found = e.found;
    writing =
        writing_skip u j e.passed.high
        (picked_skip (moves s w true) s.first i j e.passed.low (λ q a l. refute (moves s w true q) (λ t. e.passed.none q a l (joins_at s w v q t).1)));
  }

  pub joining_start : (entry : List ℕ) {place i : ℕ} → length (frames (map (Change kind n) (moving s w true))) ≤ length entry → place ≡ w.before - s.first → w.before < w.after
      → Next s.lowers w.before (place + 1) s.count i → Joining kind n s w entry entry 0 i
  unfolding moving
  joining_start entry {place} {i} h p m e =
      let starts = v.starts in
      let near = v.by_one in
      let ends = v.ends in
      onward m (omega arith)
      (writing_skip (writing_start (framing (Change kind n)) (moves s w true) s.first s.count entry (rw (← frames_cells) h)) (place + 1) (omega arith)
      (picked_skip (moves s w true) s.first 0 (place + 1) (omega arith) (λ q _ l. refute (moves s w true q) (λ t. let a = joins_at s w v q t in omega (arith, a.3)))))
      e

  module _ {entry out : List ℕ} {at i j : ℕ} {b : Bool} (u : Joining kind n s w entry out at i) (h : i < s.count) (e : Next s.lowers w.before (i + 1) s.count j)
      (q : b ≡ stands s.rows i) where
    test : b ≡ moves s w true i
    test = q ∙ sym (joins_by s w v i (u.found h) u.moved u.behind)

    next : {out : List ℕ} {at : ℕ} → Writing (framing (Change kind n)) (moves s w true) s.first s.count entry out at (i + 1) → Joining kind n s w entry out at j
    next x = let b = u.behind in onward u.moved (omega arith) x e

    pub joining_fits : b ≡ true → at + 7 ≤ length out
    joining_fits t = frame_fits (Change kind n) (change_length_lem kind n) u.writing h test t

    pub joining_pass : b ≡ false → Joining kind n s w entry out at j
    joining_pass t = next (writing_pass u.writing h test t)

    pub joining_more : {last : List ℕ} → last ≡ laid (framing (Change kind n) (s.first + i)) (mid_of at (length out - at) out) → b ≡ true
        → Joining kind n s w entry (put_mid at (length out - at) out last) (at + 7) j
    joining_more l t = next (frame_laid (Change kind n) (change_length_lem kind n) u.writing h test l t)

  pub joining_all : {entry out : List ℕ} {at i : ℕ} → Joining kind n s w entry out at i → s.count ≤ i
      → (at ≡ length (frames (map (Change kind n) (moving s w true)))) × (out ≡ laid (frames (map (Change kind n) (moving s w true))) entry)
  unfolding moving
  joining_all u h = rw frames_cells (writing_all u.writing h)

-- so it is at the next place that was found, which is below the end
pub record JoiningAt (w : Watched) (entry out : List ℕ) (at : ℕ) (next : Option ℕ) : Type 0 where
  pub joining : Joining w.kinds.join w.n (held_by w.before.now) w.shift entry out at (place_or w.before.now.head.held next)
  pub below : (i : ℕ) → next ≡ Some i → i < w.before.now.head.held

-- where no rows may join, none does
pub none_join : (w : Watched) → may_gain (start_place w) w.before.now.tables.upper_ends.now w.shift w.before.now.sound ≡ false → join_frames w ≡ []
unfolding frames flat
none_join w e = rw (joins_none (held_by w.before.now) w.shift w.ready w.before.now.sound (named_by w.before.now) e)

-- the first place that was found
pub found_first : (w : Watched) (entry : List ℕ) {place : ℕ} {next : Option ℕ} → length (join_frames w) ≤ length entry → place ≡ start_place w
    → may_gain (start_place w) w.before.now.tables.upper_ends.now w.shift w.before.now.sound ≡ true
    → Found w.before.now.tables.lower_ends.now w.shift.before (place + 1) w.before.now.head.held next → JoiningAt w entry entry 0 next
found_first w entry h p g e =
    record { joining = joining_start w.ready entry h p (gain_moves (start_place w) w.before.now.tables.upper_ends.now w.shift w.before.now.sound g) e.next; below = e.below }

-- a turn at the place that was found
module _ {w : Watched} {entry out : List ℕ} {at i : ℕ} {now next : Option ℕ} {b : Bool} (u : JoiningAt w entry out at now) (is : now ≡ Some i)
    (e : Found w.before.now.tables.lower_ends.now w.shift.before (i + 1) w.before.now.head.held next) (q : b ≡ stands (rows_by w.before.now) i) where
  here : Joining w.kinds.join w.n (held_by w.before.now) w.shift entry out at i
  here = rw is at u.joining

  pub turn_fits : b ≡ true → at + 7 ≤ length out
  turn_fits t = joining_fits w.ready here (u.below i is) e.next q t

  pub turn_pass : b ≡ false → JoiningAt w entry out at next
  turn_pass t = record { joining = joining_pass w.ready here (u.below i is) e.next q t; below = e.below }

  pub turn_more : {last : List ℕ} → last ≡ laid (frame (Change w.kinds.join w.n (w.before.now.first + i)) []) (mid_of at (length out - at) out) → b ≡ true
      → JoiningAt w entry (put_mid at (length out - at) out last) (at + 7) next
  turn_more l t = record { joining = joining_more w.ready here (u.below i is) e.next q l t; below = e.below }

-- where no further place was found, all joins are written
pub all_found : {w : Watched} {entry out : List ℕ} {at : ℕ} {now : Option ℕ} → JoiningAt w entry out at now → now ≡ None
    → (at ≡ length (join_frames w)) × (out ≡ laid (join_frames w) entry)
all_found {w} u is = joining_all w.ready (rw is at u.joining) (omega arith)
