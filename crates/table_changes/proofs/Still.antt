-- Where a window is still, the changes are the leaves of rows that the quote retires.
use mathlib.Core.Path.{◌≡◌, ◌∙◌}
use Prim.Native.Nat.{ℕ, ◌-◌, ◌≤◌, ◌<◌}
use native.Mathlib.Omega.{arith}
use native.Mathlib.Decide.{dec_lt}
use mathlib.Core.Bool.{Bool, true, false, ◌&&◌, ◌||◌, not}
use mathlib.Core.List.{List, [], map, append-nil}
use lib.Dec.{leb}
use borrow.Author.Tests.{leb-true, lt-leb, lt-ltb, le-ltb, not-true}
use Rattle.lists.specs.Lists.{flat}
use Rattle.lists.proofs.Booleans.{and_left, and_right}
use Rattle.frames.specs.declared.Message.TheVariants.{Change}
use Rattle.model.specs.Changes.{frames}
use Rattle.table_finding.specs.Found.{live}
use Rattle.table_changes.specs.declared.Shift.{Shift}
use Rattle.table_changes.specs.declared.kinds.Kinds.{Kinds}
use Rattle.table_changes.specs.Held.{Held, fallen, dropped, may_gain, still, changed, Ready, Retired, LiveNamed}
use Rattle.table_changes.proofs.Stepping.{leaves_are, joins_none}
use Rattle.table_changes.proofs.Moving.{changed_unlisted}

module _ (place : ℕ) (lowers uppers : List ℕ) (w : Shift) (lower : ℕ) (sound : Bool) (e : still place uppers w lower sound ≡ true) where
  -- the new row is not listed
  unlisted : w.after ≤ lower
  unfolding still
  unlisted = leb-true w.after lower (and_left (leb w.after lower) (leb w.after w.before || (sound && not (live uppers place))) e)

  -- where the window moves, lower ends are sound and the row that it moves past is not live
  passed : w.before < w.after → sound && not (live uppers place) ≡ true
  unfolding still
  passed m = rw (lt-leb w.after w.before m) at (and_right (leb w.after lower) (leb w.after w.before || (sound && not (live uppers place))) e)

  -- no row falls out of the window
  none_falls : fallen place lowers uppers w ≡ []
  unfolding fallen
  none_falls = go (dec_lt w.before w.after)
    where
      go : Dec (w.before < w.after) → fallen place lowers uppers w ≡ []
      go (yes m) = rw (not-true (live uppers place) (and_right sound (not (live uppers place)) (passed m)), lt-ltb w.before w.after m)
      go (no m) = rw (le-ltb w.before w.after (omega arith))

  -- none may join
  none_gained : may_gain place uppers w sound ≡ false
  unfolding may_gain
  none_gained = go (dec_lt w.before w.after)
    where
      go : Dec (w.before < w.after) → may_gain place uppers w sound ≡ false
      go (yes m) =
          let p = passed m in
          let dead = not-true (live uppers place) (and_right sound (not (live uppers place)) p) in
          rw (dead, and_left sound (not (live uppers place)) p, lt-ltb w.before w.after m)
      go (no m) = rw (le-ltb w.before w.after (omega arith))

-- the frames of the changes
module _ (s : Held) (w : Shift) (v : Ready s w) (lower : ℕ) (kinds : Kinds) (n : ℕ) (sound : Bool)
    (named : sound ≡ true → LiveNamed s) (places : List ℕ) (r : Retired s w places) where
  by_place : still (w.before - s.first) s.rows.uppers w lower sound ≡ true
      → frames (changed s w lower kinds n) ≡ frames (map (Change kinds.leave n) (dropped s.first s.lowers w places))
  unfolding frames flat
  by_place e =
      let p = w.before - s.first in
      let joins = joins_none s w v sound named (none_gained p s.lowers s.rows.uppers w lower sound e) in
      changed_unlisted s w lower kinds n (unlisted p s.lowers s.rows.uppers w lower sound e)
      ∙ rw (leaves_are s w v places r, none_falls p s.lowers s.rows.uppers w lower sound e, joins)
      (append-nil (frames (map (Change kinds.leave n) (dropped s.first s.lowers w places))))

  -- the same where the first position is given
  pub still_changed : (first : ℕ) → first ≡ s.first → still (w.before - first) s.rows.uppers w lower sound ≡ true
      → frames (changed s w lower kinds n) ≡ frames (map (Change kinds.leave n) (dropped first s.lowers w places))
  still_changed first q e = rw q (by_place (rw q at e))
