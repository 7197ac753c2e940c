-- A loop that writes a frame for each row that is sought by a key, from one such key to the next: its invariant and its turns.
use Rattle.std.specs.Prelude.{Option, Some, None}
use mathlib.Core.Path.{◌≡◌, sym, ap, ◌∙◌}
use Prim.Native.Nat.{ℕ, ◌+◌, ◌-◌, ◌≤◌, ◌<◌}
use native.Mathlib.Nat.{zero-add}
use native.Mathlib.Omega.{arith}
use mathlib.Core.Bool.{Bool, true, false, ◌&&◌}
use mathlib.Core.List.{List, map}
use lib.Dec.{leb, eqb}
use lib.ListN.{length, get_or}
use borrow.Author.Tests.{leb-true, le-leb, eqb-true, eq-eqb}
use borrow.Rule.Slice.PartMut.{mid_of, put_mid}
use Rattle.lists.specs.Lists.{filter, run, laid}
use Rattle.lists.proofs.Booleans.{refute, and_left, and_right}
use Rattle.lists.proofs.Runs.{filter_same, filter_from}
use Rattle.frames.specs.declared.Message.{Message}
use Rattle.model.specs.Changes.{frames}
use Rattle.table_listing.specs.Picked.{picked}
use Rattle.table_listing.proofs.Picking.{picked_skip}
use Rattle.table_listing.proofs.Writing.{Writing, writing_start, writing_fits, writing_pass, writing_more, writing_skip, writing_all}
use Rattle.table_listing.proofs.Framing.{framing, frames_cells}
use Rattle.table_changes.specs.Sought.{Unequal, Next, place_or, Found}
use Rattle.table_pair_changes.specs.Pairs.{sought}

module _ (keys : List ℕ) (x : ℕ) (rest : ℕ → Bool) (s : ℕ) where
  -- the row at a place is sought
  abbrev pub seeks : ℕ → Bool
  seeks i = leb s i && (eqb (get_or keys i 0) x && rest i)

  seeks_low : (i : ℕ) → seeks i ≡ true → s ≤ i
  seeks_low i t = leb-true s i (and_left (leb s i) (eqb (get_or keys i 0) x && rest i) t)

  seeks_key : (i : ℕ) → seeks i ≡ true → get_or keys i 0 ≡ x
  seeks_key i t =
      eqb-true (get_or keys i 0) x (and_left (eqb (get_or keys i 0) x) (rest i) (and_right (leb s i) (eqb (get_or keys i 0) x && rest i) t))

  -- a row with the key is sought by the rest of the test
  seeks_at : (i : ℕ) → s ≤ i → get_or keys i 0 ≡ x → rest i ≡ seeks i
  seeks_at i h e = rw (le-leb s i h, eq-eqb (get_or keys i 0) x e)

  -- the rows that are sought, as positions picked from place 0 on
  pub sought_picked : (first k : ℕ) → sought first keys x rest s k ≡ picked seeks first (s + k)
  unfolding sought picked
  sought_picked first k =
      ap (map (λ i. first + i))
      (filter_same (λ i. eqb (get_or keys i 0) x && rest i) seeks s k (λ q u v. rw (le-leb s q u))
      ∙ sym (filter_from seeks 0 s k (λ q u v. refute (seeks q) (λ t. omega (arith, seeks_low q t))) ∙ ap (λ (a : ℕ). filter seeks (run a k)) (zero-add s)))

-- the frames of the rows sought below place i stand at the front of the output, and the row there, if there is one, has the key
pub record Seeking (m : ℕ → Message) (keys : List ℕ) (x : ℕ) (rest : ℕ → Bool) (first s to : ℕ) (entry out : List ℕ) (at i : ℕ) : Type 0 where
  pub behind : s ≤ i
  pub found : i < to → get_or keys i 0 ≡ x
  pub writing : Writing (framing m) (seeks keys x rest s) first to entry out at i

module _ {m : ℕ → Message} {keys : List ℕ} {x : ℕ} {rest : ℕ → Bool} {first s to : ℕ} where
  -- on to the next key
  onward : {entry out : List ℕ} {at i j : ℕ} → s ≤ i → Writing (framing m) (seeks keys x rest s) first to entry out at i → Next keys x i to j
      → Seeking m keys x rest first s to entry out at j
  onward {i = i} {j} b u e = record {
    behind = let l = e.passed.low in omega arith;
    found = e.found;
    writing =
        writing_skip u j e.passed.high
        (picked_skip (seeks keys x rest s) first i j e.passed.low
        (λ q a l. refute (seeks keys x rest s q) (λ t. e.passed.none q a l (seeks_key keys x rest s q t))));
  }

  -- the search begins at a place before which no row has the key
  pub seeking_start : (entry : List ℕ) (k : ℕ) {from i : ℕ} → s + k ≡ to → length (frames (map m (sought first keys x rest s k))) ≤ length entry → Unequal keys x s to from
      → Next keys x from to i → Seeking m keys x rest first s to entry entry 0 i
  seeking_start entry k {from} {i} e h u n =
      onward u.low
      (writing_skip (writing_start (framing m) (seeks keys x rest s) first to entry (rw (sought_picked keys x rest s first k, e, frames_cells m) at h)) from u.high
      (picked_skip (seeks keys x rest s) first 0 from (omega arith)
      (λ q _ l. refute (seeks keys x rest s q) (λ t. u.none q (seeks_low keys x rest s q t) l (seeks_key keys x rest s q t)))))
      n

  module _ (size : (p : ℕ) → length (framing m p) ≡ 5) {entry out : List ℕ} {at i j : ℕ} {b : Bool} (u : Seeking m keys x rest first s to entry out at i) (h : i < to)
      (e : Next keys x (i + 1) to j) (q : b ≡ rest i) where
    test : b ≡ seeks keys x rest s i
    test = q ∙ seeks_at keys x rest s i u.behind (u.found h)

    next : {out : List ℕ} {at : ℕ} → Writing (framing m) (seeks keys x rest s) first to entry out at (i + 1) → Seeking m keys x rest first s to entry out at j
    next w = let b = u.behind in onward (omega arith) w e

    pub seeking_fits : b ≡ true → at + 5 ≤ length out
    seeking_fits t = rw size at (writing_fits u.writing h test t)

    pub seeking_pass : b ≡ false → Seeking m keys x rest first s to entry out at j
    seeking_pass t = next (writing_pass u.writing h test t)

    pub seeking_more : {last : List ℕ} → last ≡ laid (framing m (first + i)) (mid_of at (length out - at) out) → b ≡ true
        → Seeking m keys x rest first s to entry (put_mid at (length out - at) out last) (at + 5) j
    seeking_more l t = next (writing_more u.writing h test (sym (size (first + i))) l t)

  pub seeking_all : (k : ℕ) → s + k ≡ to → {entry out : List ℕ} {at i : ℕ} → Seeking m keys x rest first s to entry out at i → to ≤ i
      → (at ≡ length (frames (map m (sought first keys x rest s k)))) × (out ≡ laid (frames (map m (sought first keys x rest s k))) entry)
  seeking_all k e u h = rw (sought_picked keys x rest s first k, e, frames_cells m) (writing_all u.writing h)

-- so it is at the next place that was found, which is below the end
pub record SeekingAt (m : ℕ → Message) (keys : List ℕ) (x : ℕ) (rest : ℕ → Bool) (first s to : ℕ) (entry out : List ℕ) (at : ℕ) (next : Option ℕ) : Type 0 where
  pub seeking : Seeking m keys x rest first s to entry out at (place_or to next)
  pub below : (i : ℕ) → next ≡ Some i → i < to

module _ {m : ℕ → Message} {keys : List ℕ} {x : ℕ} {rest : ℕ → Bool} {first s to : ℕ} where
  pub found_first : (entry : List ℕ) (k : ℕ) {from : ℕ} {next : Option ℕ} → s + k ≡ to → length (frames (map m (sought first keys x rest s k))) ≤ length entry
      → Unequal keys x s to from → Found keys x from to next → SeekingAt m keys x rest first s to entry entry 0 next
  found_first entry k e h u f = record { seeking = seeking_start entry k e h u f.next; below = f.below }

  module _ (size : (p : ℕ) → length (framing m p) ≡ 5) {entry out : List ℕ} {at i : ℕ} {now next : Option ℕ} {b : Bool}
      (u : SeekingAt m keys x rest first s to entry out at now) (is : now ≡ Some i) (e : Found keys x (i + 1) to next) (q : b ≡ rest i) where
    here : Seeking m keys x rest first s to entry out at i
    here = rw is at u.seeking

    pub turn_fits : b ≡ true → at + 5 ≤ length out
    turn_fits t = seeking_fits size here (u.below i is) e.next q t

    pub turn_pass : b ≡ false → SeekingAt m keys x rest first s to entry out at next
    turn_pass t = record { seeking = seeking_pass size here (u.below i is) e.next q t; below = e.below }

    pub turn_more : {last : List ℕ} → last ≡ laid (framing m (first + i)) (mid_of at (length out - at) out) → b ≡ true
        → SeekingAt m keys x rest first s to entry (put_mid at (length out - at) out last) (at + 5) next
    turn_more l t = record { seeking = seeking_more size here (u.below i is) e.next q l t; below = e.below }

  pub all_found : (k : ℕ) → s + k ≡ to → {entry out : List ℕ} {at : ℕ} {now : Option ℕ} → SeekingAt m keys x rest first s to entry out at now → now ≡ None
      → (at ≡ length (frames (map m (sought first keys x rest s k)))) × (out ≡ laid (frames (map m (sought first keys x rest s k))) entry)
  all_found k e u is = seeking_all k e (rw is at u.seeking) (omega arith)
