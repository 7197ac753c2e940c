-- Laws of the frames of watch records: how their windows move, none for an empty record, and the frames of several one behind the other.
use mathlib.Core.Path.{◌≡◌, refl, ap}
use Prim.Native.Nat.{ℕ, zero, suc, ◌+◌, ◌-◌, ◌≤◌, ◌<◌}
use native.Mathlib.Nat.{suc-add}
use native.Mathlib.Decide.{dec_lt}
use native.Mathlib.Omega.{arith}
use mathlib.Core.List.{List, [], ◌∷◌, ◌++◌, append_assoc, append-nil}
use lib.Dec.{leb}
use lib.ListN.{length, get_or, take}
use lib.Seq.{take-nil, take_all}
use mir.Val.{bool_byte}
use borrow.Author.Tests.{eq-eqb, ne_eqb, le-leb, lt-leb}
use borrow.Rule.Slice.PartMut.{mid_of, put_mid}
use Rattle.lists.specs.Lists.{flat, laid}
use Rattle.lists.proofs.Laying.{grows, Laying, laying_start, laying_room, laying_rest, laying_more, laying_all}
use Rattle.skyline.specs.Skyline.{window_start}
use Rattle.head.specs.declared.Head.{Head}
use Rattle.head.specs.Desks.{size_in}
use Rattle.model.specs.Changes.{frames}
use Rattle.table_finding.specs.Found.{Rows}
use Rattle.table_changes.specs.declared.Shift.{Shift}
use Rattle.table_changes.specs.declared.kinds.Kinds.{Kinds}
use Rattle.table_changes.specs.Kinds.{kinds_of}
use Rattle.table_changes.specs.Held.{changed, Ready, Retired}
use Rattle.table_changes.specs.Watches.{shift_of, held_in, Full, Outdone, watch_frames, all_frames}

-- the window of n moves by one position exactly if n is not above the newest
pub shift_is : (newest n : ℕ) {before : ℕ} → before ≡ window_start newest n → record { before = before; after = before + bool_byte (leb n newest) } ≡ shift_of newest n
unfolding shift_of window_start
shift_is newest n {before} e = rw e (ap (λ (k : ℕ). record { before = window_start newest n; after = k }) (go (dec_lt newest n)))
  where
    go : Dec (newest < n) → window_start newest n + bool_byte (leb n newest) ≡ window_start (newest + 1) n
    go (yes k) = rw (lt-leb n newest k) (omega arith)
    go (no k) = rw (le-leb n newest (omega arith)) (omega arith)

module _ {h : Head} {lowers : List ℕ} {rows : Rows} (f : Full h lowers rows) (n : ℕ) (some : 0 < n) (low : n ≤ h.capacity) {w : Shift} (q : w ≡ shift_of h.newest n) where
  -- the window of n lies within the rows
  pub ready_of : Ready (held_in h lowers rows) w
  unfolding shift_of window_start
  ready_of =
      let filled = f.filled in
      let space = f.space in
      rw q record {
        fits = f.fits;
        lower_room = f.lower_room;
        cell = omega arith;
        starts = omega arith;
        forth = omega arith;
        by_one = omega arith;
        ends = omega arith;
      }

  -- rows that do not stay are before the window after
  pub retired_of : (places : List ℕ) → Outdone h lowers rows places → Retired (held_in h lowers rows) w places
  unfolding shift_of window_start
  retired_of places o =
      let filled = f.filled in
      let stays = o.stays in
      rw q record { from = o.from; within = omega arith; stays = omega arith; listed = o.listed }

module _ (h : Head) (lowers : List ℕ) (rows : Rows) (lower watch : ℕ) where
  pub watch_none : watch ≡ 0 → watch_frames h lowers rows lower watch ≡ []
  unfolding watch_frames
  watch_none e = rw (eq-eqb watch 0 e)

  pub watch_some : (watch ≡ 0 → ⊥) → {n : ℕ} {w : Shift} {kinds : Kinds} → n ≡ size_in watch → w ≡ shift_of h.newest n → kinds ≡ kinds_of watch
      → watch_frames h lowers rows lower watch ≡ frames (changed (held_in h lowers rows) w lower kinds n)
  unfolding watch_frames
  watch_some e f q k = rw (ne_eqb watch 0 e, q, k, f)

module _ (h : Head) (lowers : List ℕ) (rows : Rows) (lower : ℕ) where
  pub all_none : all_frames h lowers rows lower [] ≡ []
  unfolding all_frames flat
  all_none = refl

  -- the frames of one more watch record
  pub all_more : (ws : List ℕ) (i : ℕ) → all_frames h lowers rows lower (take (i + 1) ws) ≡ all_frames h lowers rows lower (take i ws) ++ watch_frames h lowers rows lower (get_or ws i 0)
  unfolding all_frames flat
  all_more [] i = rw (take-nil (i + 1), take-nil i, watch_none h lowers rows lower 0 refl)
  all_more (w ∷ ws) zero = append-nil (watch_frames h lowers rows lower w)
  all_more (w ∷ ws) (suc i) = rw (suc-add, all_more ws i, append_assoc)

-- the frames of the first i of eight watch records stand at the front of the output
pub record Written (h : Head) (lowers : List ℕ) (rows : Rows) (lower : ℕ) (ws entry out : List ℕ) (at i : ℕ) : Type 0 where
  pub laying : Laying (λ k. all_frames h lowers rows lower (take k ws)) 8 entry out at i

pub written_start : (h : Head) (lowers : List ℕ) (rows : Rows) (lower : ℕ) (ws entry : List ℕ) → length ws ≡ 8 → length (all_frames h lowers rows lower ws) ≤ length entry → Written h lowers rows lower ws entry entry 0 0
written_start h lowers rows lower ws entry n r =
    record { laying = laying_start (λ k. all_frames h lowers rows lower (take k ws)) 8 entry (rw (take_all 8 ws (omega arith)) r) (all_none h lowers rows lower) }

module _ {h : Head} {lowers : List ℕ} {rows : Rows} {lower : ℕ} {ws entry out : List ℕ} {at i : ℕ} (v : Written h lowers rows lower ws entry out at i) (k : i < 8) where
  abbrev next : List ℕ
  next = watch_frames h lowers rows lower (get_or ws i 0)

  grown : length (all_frames h lowers rows lower (take (i + 1) ws)) ≤ length (all_frames h lowers rows lower (take 8 ws))
  grown = grows (λ k. all_frames h lowers rows lower (take k ws)) (λ k. watch_frames h lowers rows lower (get_or ws k 0)) (all_more h lowers rows lower ws) (i + 1) 8 (omega arith)

  -- there is room for the frames of the next record
  pub written_fits : at + length next ≤ length out
  written_fits = laying_room v.laying k next (all_more h lowers rows lower ws i) grown

  pub written_rest : length next ≤ length (mid_of at (length out - at) out)
  written_rest = laying_rest v.laying k next (all_more h lowers rows lower ws i) grown

  -- a turn that lays them into the rest of the output
  pub written_more : {last : List ℕ} {used : ℕ} → used ≡ length next → last ≡ laid next (mid_of at (length out - at) out)
      → Written h lowers rows lower ws entry (put_mid at (length out - at) out last) (at + used) (i + 1)
  written_more u l = record { laying = laying_more v.laying k next (all_more h lowers rows lower ws i) grown u l }

pub written_all : {h : Head} {lowers : List ℕ} {rows : Rows} {lower : ℕ} {ws entry out : List ℕ} {at i : ℕ} → Written h lowers rows lower ws entry out at i → 8 ≤ i → length ws ≡ 8
    → (at ≡ length (all_frames h lowers rows lower ws)) × (out ≡ laid (all_frames h lowers rows lower ws) entry)
written_all {ws = ws} v l n = rw (take_all 8 ws (omega arith)) at (laying_all v.laying l)
