-- A loop that writes the leaves of rows at given places: its invariant and its turns; and the leave of the row at the window's old start.
use mathlib.Core.Path.{◌≡◌, refl, sym, ap, ◌∙◌}
use Prim.Native.Nat.{ℕ, zero, suc, ◌+◌, ◌-◌, ◌≤◌, ◌<◌}
use native.Mathlib.Numerals.{add-one}
use native.Mathlib.Omega.{arith}
use mathlib.Core.Bool.{Bool, true, false, ◌&&◌}
use mathlib.Core.List.{List, [], ◌∷◌, ◌++◌, map, append-nil, Memᴰ}
use lib.Dec.{ltb, leb, eqb}
use lib.ListN.{length, get_or, take, drop}
use lib.Seq.{take_all, take-add, take-suc}
use borrow.Author.Tests.{lt-ltb, le-ltb}
use borrow.Rule.Slice.PartMut.{mid_of, put_mid}
use Rattle.lists.specs.Lists.{keep, filter, flat, laid, run}
use Rattle.lists.proofs.Filters.{filter_append, map-append}
use Rattle.lists.proofs.Laying.{grows, Laying, laying_start, laying_pass, laying_room, laying_more, laying_all}
use Rattle.lists.proofs.Members.{of_filter}
use Rattle.lists.proofs.Runs.{of_run}
use Rattle.frames.specs.declared.Message.TheVariants.{Change}
use Rattle.frames.specs.Frames.{frame}
use Rattle.frames.proofs.RoundTrips.{change_length_lem}
use Rattle.model.specs.Changes.{frames}
use Rattle.table_finding.specs.Found.{live, retires, retired}
use Rattle.table_cells.specs.Marked.{Below}
use Rattle.model.proofs.ChangeFrames.{frames_append}
use Rattle.table_changes.specs.declared.Shift.{Shift}
use Rattle.table_changes.specs.Held.{Held, fallen, dropped, Ready, Retired}

get_or_mem : (l : List ℕ) (k : ℕ) → k < length l → Memᴰ (get_or l k 0) l
get_or_mem [] k h = absurd (omega arith)
get_or_mem (x ∷ l) zero h = Memᴰ.head refl
get_or_mem (x ∷ l) (suc k) h = Memᴰ.tail (get_or_mem l k (omega arith))

-- the rows that the quote retires stand in the tables
pub retired_below : (s : Held) (w : Shift) → Ready s w → {places : List ℕ} → Retired s w places → Below places (length s.lowers)
unfolding retired
retired_below s w v {places} r = record { low = λ k l. go (get_or places k 0) (get_or_mem places k l) }
  where
    go : (i : ℕ) → Memᴰ i places → i < length s.lowers
    go i m =
        let in-run = (of_filter (retires s.rows) i (run r.from (s.count - r.from)) (rw r.listed at m)).0 in
        let b = of_run r.from (s.count - r.from) i in-run in
        let within = r.within in
        let room = v.lower_room in
        omega arith

module _ (kind n first : ℕ) (lowers : List ℕ) (w : Shift) where
  -- the leaves of the rows at these places
  abbrev pub leaves_of : List ℕ → List ℕ
  leaves_of places = frames (map (Change kind n) (dropped first lowers w places))

  leaves_append : (ps qs : List ℕ) → leaves_of (ps ++ qs) ≡ leaves_of ps ++ leaves_of qs
  unfolding dropped
  leaves_append ps qs = rw (filter_append, map-append, map-append, frames_append)

  -- the row at a place is in the window after, and its lower end is before the window's old start
  abbrev pub drops_at : ℕ → Bool
  drops_at i = ltb (get_or lowers i 0) w.before && leb w.after (first + i)

  leaves_one : (i : ℕ) (b : Bool) → b ≡ drops_at i → leaves_of (i ∷ []) ≡ frames (map (Change kind n) (keep b (first + i) []))
  unfolding dropped filter
  leaves_one i b e = rw (← e) (go b)
    where
      go : (b : Bool) → frames (map (Change kind n) (map (λ k. first + k) (keep b i []))) ≡ frames (map (Change kind n) (keep b (first + i) []))
      go true = refl
      go false = refl

  -- the leaves of the rows at the first k of these places stand at the front of the output
  pub record Leaving (places entry out : List ℕ) (at k : ℕ) : Type 0 where
    pub laying : Laying (λ j. leaves_of (take j places)) (length places) entry out at k

  pub leaving_start : (places entry : List ℕ) → length (leaves_of places) ≤ length entry → Leaving places entry entry 0 0
  unfolding dropped filter frames flat
  leaving_start places entry h =
      record { laying = laying_start (λ j. leaves_of (take j places)) (length places) entry (rw (take_all (length places) places (omega arith)) h) refl }

  module _ {places entry out : List ℕ} {at k : ℕ} (v : Leaving places entry out at k) (h : k < length places) {b : Bool} (e : b ≡ drops_at (get_or places k 0)) where
    abbrev p : ℕ
    p = first + get_or places k 0

    more : leaves_of (take (k + 1) places) ≡ leaves_of (take k places) ++ frames (map (Change kind n) (keep b p []))
    more =
        ap leaves_of (rw add-one (take-suc places k 0 h))
        ∙ leaves_append (take k places) (get_or places k 0 ∷ [])
        ∙ ap (λ (l : List ℕ). leaves_of (take k places) ++ l) (leaves_one (get_or places k 0) b e)

    grown : length (leaves_of (take (k + 1) places)) ≤ length (leaves_of (take (length places) places))
    grown =
        grows (λ j. leaves_of (take j places)) (λ j. leaves_of (take 1 (drop j places)))
        (λ j. ap leaves_of (take-add j 1 places) ∙ leaves_append (take j places) (take 1 (drop j places))) (k + 1) (length places) (omega arith)

    -- such a row's leave is the frame that the turn lays
    took : b ≡ true → leaves_of (take (k + 1) places) ≡ leaves_of (take k places) ++ frame (Change kind n p) []
    unfolding frames flat
    took t = more ∙ rw (t, append-nil)

    pub leaving_fits : b ≡ true → at + 7 ≤ length out
    leaving_fits t = rw change_length_lem at (laying_room v.laying h (frame (Change kind n p) []) (took t) grown)

    pub leaving_pass : b ≡ false → Leaving places entry out at (k + 1)
    unfolding frames flat
    leaving_pass t = record { laying = laying_pass v.laying h (more ∙ rw (t, append-nil)) }

    pub leaving_more : {last : List ℕ} → last ≡ laid (frame (Change kind n p) []) (mid_of at (length out - at) out) → b ≡ true
        → Leaving places entry (put_mid at (length out - at) out last) (at + 7) (k + 1)
    leaving_more l t = record { laying = laying_more v.laying h (frame (Change kind n p) []) (took t) grown (sym (change_length_lem kind n p)) l }

  pub leaving_all : {places entry out : List ℕ} {at k : ℕ} → Leaving places entry out at k → length places ≤ k
      → (at ≡ length (leaves_of places)) × (out ≡ laid (leaves_of places) entry)
  leaving_all {places} v h = rw (take_all (length places) places (omega arith)) at (laying_all v.laying h)

-- the leave of the row at the window's old start
module _ (kind n p : ℕ) {fell : List ℕ} {b : Bool} (e : fell ≡ keep b p []) where
  pub fallen_frame : b ≡ true → frames (map (Change kind n) fell) ≡ frame (Change kind n p) []
  unfolding frames flat
  fallen_frame t = rw (e, t, append-nil)

  pub fallen_nothing : b ≡ false → frames (map (Change kind n) fell) ≡ []
  unfolding frames flat
  fallen_nothing t = rw (e, t)

module _ (place : ℕ) (lowers uppers : List ℕ) (w : Shift) where
  -- where the window does not move, no row falls out of it
  pub fallen_none : w.after ≤ w.before → fallen place lowers uppers w ≡ []
  unfolding fallen
  fallen_none h = rw (le-ltb w.before w.after h)

  -- else the row at its old start, if it was listed
  pub fallen_is : w.before < w.after → fallen place lowers uppers w ≡ keep (eqb (get_or uppers place 0) 0 && ltb (get_or lowers place 0) w.before) w.before []
  unfolding fallen live
  fallen_is h = rw (lt-ltb w.before w.after h)
