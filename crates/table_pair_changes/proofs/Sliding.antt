-- The window of the pair as it moves at a quote: that it lies within the rows, what is known of a sound book, and the parts of the changes.
use mathlib.Core.Path.{◌≡◌, refl, sym, ap, ◌∙◌}
use mathlib.Core.Logic.{◌⊎◌, inl, inr}
use Prim.Native.Nat.{ℕ, suc, ◌+◌, ◌-◌, ◌≤◌, ◌<◌}
use native.Mathlib.Omega.{arith}
use mathlib.Core.Bool.{Bool, true, false, ◌&&◌, ◌||◌, not, cond}
use mathlib.Core.List.{List, [], ◌++◌, map, append-nil}
use lib.Dec.{ltb, leb, eqb}
use lib.ListN.{get_or}
use borrow.Author.Tests.{ltb-true, leb-true, leb-false, eqb-true, lt-ltb, le-ltb, eq-eqb, not-true, not-false}
use Rattle.lists.specs.Lists.{keep, filter, flat, run}
use Rattle.lists.proofs.Booleans.{clash, refute, and_left, and_right, or_cases, or_left, or_right, none_left, none_right}
use Rattle.lists.proofs.Filters.{map-append}
use Rattle.lists.proofs.Runs.{filter_none}
use Rattle.skyline.specs.Skyline.{window_start}
use Rattle.head.specs.declared.Head.{Head}
use Rattle.frames.specs.declared.Message.TheVariants.{Position}
use Rattle.frames.specs.Frames.{frame}
use Rattle.model.specs.Changes.{pair_leave, pair_join, frames}
use Rattle.model.specs.Book.{pair_stands}
use Rattle.model.proofs.ChangeFrames.{frames_append}
use Rattle.model.proofs.Torn.{PairWithin, pair_within}
use Rattle.table_changes.specs.declared.Shift.{Shift}
use Rattle.table_changes.specs.Sought.{Unequal}
use Rattle.table_changes.specs.Watches.{shift_of}
use Rattle.table_changes.proofs.Passing.{unequal_none}
use Rattle.table_pair_changes.specs.Pairs.{lasts, sought, falls, enters, dropped_from, dropped, gained, leaving, joining, moved, Ready, Sound, end_shift, begun, pair_frames, Paired}

-- ---- the frame of one position

module _ (kind p : ℕ) {asked : Bool} where
  pub one_frame : asked ≡ true → frames (map (Position kind) (keep asked p [])) ≡ frame (Position kind p) []
  unfolding frames flat
  one_frame e = rw (e, append-nil)

  pub no_frame : asked ≡ false → frames (map (Position kind) (keep asked p [])) ≡ []
  unfolding frames flat
  no_frame e = rw e

-- ---- the window lies within the rows

-- a pair that stands and whose window has begun
begun_within : {h : Head} {lowers uppers : List ℕ} → Paired h lowers uppers → begun h ≡ true → PairWithin h.n1 h.n2 h.capacity × (h.n1 ≤ h.newest + 1)
unfolding begun pair_stands
begun_within {h} v b =
    (pair_within h v.untorn_pair (and_left (not (eqb h.n1 0)) (leb h.n1 (h.newest + 1)) b), leb-true h.n1 (h.newest + 1) (and_right (not (eqb h.n1 0)) (leb h.n1 (h.newest + 1)) b))

pub begun_low : {h : Head} {lowers uppers : List ℕ} → Paired h lowers uppers → begun h ≡ true → h.n1 ≤ h.newest + 1
begun_low v b = (begun_within v b).1

-- the end moves by one position
pub end_is : (h : Head) → h.n1 ≤ h.newest + 1 → record { before = h.newest + 1 - h.n1; after = h.newest + 1 - h.n1 + 1 } ≡ end_shift h
unfolding end_shift
end_is h l = ap (λ (k : ℕ). record { before = h.newest + 1 - h.n1; after = k }) (omega arith)

-- the lower end of a row held, by its position
low_at : (first held p : ℕ) (lowers : List ℕ) → ((i : ℕ) → i < held → get_or lowers i 0 < first + i) → first ≤ p → p < first + held → get_or lowers (p - first) 0 < p
low_at first held p lowers low h k = let l = low (p - first) (omega arith) in omega arith

-- the numbers of the window
module _ (M N n1 n2 held : ℕ) (two : 2 ≤ n1) (order : n1 ≤ n2) (most : n2 ≤ N) (low : n1 ≤ M + 1) (full : M + 1 ≡ window_start M N + held) where
  starts_within : (window_start M N ≤ window_start M n2) × (window_start M n2 ≤ window_start (M + 1) n2) × (window_start (M + 1) n2 ≤ M + 1 + 1 - n1)
  unfolding window_start
  starts_within = (omega arith, omega arith, omega arith)

  ends_within : (M + 1 + 1 - n1 ≡ M + 1 - n1 + 1) × (M + 1 + 1 - n1 < window_start M N + held) × (window_start M N ≤ M + 1 + 1 - n1) × (M + 1 + 1 - n1 ≤ M)
  unfolding window_start
  ends_within = (omega arith, omega arith, omega arith, omega arith)

module _ {h : Head} {lowers uppers : List ℕ} (v : Paired h lowers uppers) (b : begun h ≡ true) {first : ℕ} (f : first ≡ window_start h.newest h.capacity)
    {start end : Shift} (s : start ≡ shift_of h.newest h.n2) (e : end ≡ end_shift h) where
  -- the row at the new end is held
  pub end_held : end.after < first + h.held
  unfolding end_shift
  end_held = let w = begun_within v b in rw (f, e) (ends_within h.newest h.capacity h.n1 h.n2 h.held w.0.two w.0.order w.0.most w.1 v.filled).1

  pub ready_of : Ready first lowers uppers start end
  unfolding shift_of end_shift
  ready_of =
      let w = begun_within v b in
      let i = starts_within h.newest h.capacity h.n1 h.n2 h.held w.0.two w.0.order w.0.most w.1 v.filled in
      let j = ends_within h.newest h.capacity h.n1 h.n2 h.held w.0.two w.0.order w.0.most w.1 v.filled in
      let space = v.space in
      let lower_room = v.lower_room in
      let upper_room = v.upper_room in
      rw (f, s, e) record {
        starts = i.0;
        forth = i.1;
        near = i.2;
        by_one = j.0;
        low = low_at (window_start h.newest h.capacity) h.held (h.newest + 1 + 1 - h.n1) lowers v.low j.2 j.1;
        lower_room = omega (arith, j.1);
        upper_room = omega (arith, j.1);
        cell = omega (arith, j.3);
      }

-- the same of another name of the first position
pub sound_at : {first other count : ℕ} {lowers uppers : List ℕ} → first ≡ other → Sound other count lowers uppers → Sound first count lowers uppers
sound_at e v = rw e v

-- ---- the parts of the changes

module _ (first : ℕ) (uppers : List ℕ) (start end : Shift) where
  -- where the window does not move on the row at its start stays
  pub falls_none : start.after ≤ start.before → false ≡ falls first uppers start end
  unfolding falls
  falls_none h = rw (le-ltb start.before start.after h)

  -- else it leaves if it was listed
  pub falls_is : start.before < start.after → lasts end.before (get_or uppers (start.before - first) 0) ≡ falls first uppers start end
  unfolding falls
  falls_is h = rw (lt-ltb start.before start.after h)

-- where the search for leaves begins
module _ (first : ℕ) (lowers : List ℕ) (start end : Shift) (sound : Bool) where
  abbrev late : Bool
  late = sound && leb start.after (get_or lowers (end.after - first) 0)

  pub late_low : late ≡ true → start.after ≤ get_or lowers (end.after - first) 0
  late_low e = leb-true start.after (get_or lowers (end.after - first) 0) (and_right sound (leb start.after (get_or lowers (end.after - first) 0)) e)

  pub from_late : late ≡ true → get_or lowers (end.after - first) 0 + 1 - first ≡ dropped_from first lowers start end sound
  unfolding dropped_from
  from_late e = rw e

  pub from_start : late ≡ false → start.after - first ≡ dropped_from first lowers start end sound
  unfolding dropped_from
  from_start e = rw e

module _ (first : ℕ) (lowers uppers : List ℕ) (start end : Shift) where
  pub leaving_frames : {fallen : Bool} → fallen ≡ falls first uppers start end
      → frames (map pair_leave (leaving first lowers uppers start end)) ≡ frames (map pair_leave (keep fallen start.before [])) ++ frames (map pair_leave (dropped first lowers uppers start end))
  unfolding leaving
  leaving_frames e = rw (e, map-append, frames_append)

  pub moved_frames : frames (moved first lowers uppers start end)
      ≡ frames (map pair_leave (leaving first lowers uppers start end)) ++ frames (map pair_join (joining first lowers uppers start end))
  unfolding moved
  moved_frames = rw frames_append

  -- where the window does not move on nothing is gained
  gained_none : start.after ≤ start.before → gained first lowers uppers start end ≡ []
  unfolding gained
  gained_none h = rw (le-ltb start.before start.after h)

  -- and where it does, the rows that the old start was over are sought
  gained_is : start.before < start.after
      → gained first lowers uppers start end ≡ sought first lowers start.before (λ i. lasts end.after (get_or uppers i 0)) (start.after - first) (suc end.before - start.after)
  unfolding gained
  gained_is h = rw (lt-ltb start.before start.after h)

  -- where rows may not be gained, or the window does not move on, none is
  pub nothing_gained : (gains : Bool) → (gains ≡ false → gained first lowers uppers start end ≡ []) → not gains || leb start.after start.before ≡ true
      → gained first lowers uppers start end ≡ []
  nothing_gained gains none t = go (or_cases (not gains) (leb start.after start.before) t)
    where
      go : (not gains ≡ true) ⊎ (leb start.after start.before ≡ true) → gained first lowers uppers start end ≡ []
      go (inl e) = none (not-true gains e)
      go (inr e) = gained_none (leb-true start.after start.before e)

  -- else the rows that the old start was over
  pub gained_are : (gains : Bool) → not gains || leb start.after start.before ≡ false
      → gained first lowers uppers start end ≡ sought first lowers start.before (λ i. lasts end.after (get_or uppers i 0)) (start.after - first) (suc end.before - start.after)
  gained_are gains e = gained_is (leb-false start.after start.before (none_right (not gains) (leb start.after start.before) e))

  module _ (v : Ready first lowers uppers start end) where
    -- the places of the window but its new end
    pub places_are : (start.after - first) + (suc end.before - start.after) ≡ end.after - first
    places_are = let s = v.starts in let f = v.forth in let n = v.near in let o = v.by_one in omega arith

    pub enters_is : ltb (get_or lowers (end.after - first) 0) start.after ≡ enters first lowers start end
    unfolding enters
    enters_is = let o = v.by_one in rw (lt-ltb end.before end.after (omega arith))

    pub joining_frames : {enter : Bool} → enter ≡ ltb (get_or lowers (end.after - first) 0) start.after
        → frames (map pair_join (joining first lowers uppers start end)) ≡ frames (map pair_join (gained first lowers uppers start end)) ++ frames (map pair_join (keep enter end.after []))
    unfolding joining
    joining_frames e = rw (e, enters_is, map-append, frames_append)

    -- ---- on a sound book

    module _ {sound : Bool} {count : ℕ} (known : sound ≡ true → Sound first count lowers uppers) (held : end.after < first + count) where
      -- no row before that place has the new end as its upper end
      pub from_unequal : Unequal uppers end.after (start.after - first) (end.after - first) (dropped_from first lowers start end sound)
      unfolding dropped_from
      from_unequal = go (sound && leb start.after lower) refl
        where
          lower : ℕ
          lower = get_or lowers (end.after - first) 0

          go : (b : Bool) → sound && leb start.after lower ≡ b
              → Unequal uppers end.after (start.after - first) (end.after - first) (cond b (lower + 1 - first) (start.after - first))
          go true e =
              let late = leb-true start.after lower (and_right sound (leb start.after lower) e) in
              let below = v.low in
              let s = v.starts in
              let f = v.forth in
              let n = v.near in
              record {
                low = omega arith;
                high = omega arith;
                none = λ q u w z.
                    let same : first + (end.after - first) ≡ end.after = omega arith in
                    let back = (known (and_left sound (leb start.after lower) e)).behind q (end.after - first) (omega arith) (omega arith) (z ∙ sym same) in
                    omega arith;
              }
          go false e = let s = v.starts in let f = v.forth in let n = v.near in unequal_none uppers end.after (start.after - first) (end.after - first) (omega arith)

      -- where the row at the old start was not listed, or the window does not move past it, no row is gained
      pub gains_none : {fallen : Bool} → fallen ≡ falls first uppers start end → fallen || not sound ≡ false → gained first lowers uppers start end ≡ []
      unfolding gained falls sought
      gains_none {fallen} e g = go (ltb start.before start.after) refl
        where
          a : ℕ
          a = start.before

          not_fallen : ltb a start.after && lasts end.before (get_or uppers (a - first) 0) ≡ false
          not_fallen = sym e ∙ none_left fallen (not sound) g

          book : Sound first count lowers uppers
          book = known (not-false sound (none_right fallen (not sound) g))

          lasting : (u : ℕ) → lasts end.after u ≡ true → (u ≡ 0) ⊎ (end.before < u)
          lasting u t = pick (or_cases (eqb u 0) (ltb end.after u) t)
            where
              pick : (eqb u 0 ≡ true) ⊎ (ltb end.after u ≡ true) → (u ≡ 0) ⊎ (end.before < u)
              pick (inl z) = inl (eqb-true u 0 z)
              pick (inr z) = let o = v.by_one in inr (omega (arith, ltb-true end.after u z))

          lasted : (u : ℕ) → (u ≡ 0) ⊎ (end.before < u) → lasts end.before u ≡ true
          lasted u (inl z) = or_left (eqb u 0) (ltb end.before u) (eq-eqb u 0 z)
          lasted u (inr z) = or_right (eqb u 0) (ltb end.before u) (lt-ltb end.before u z)

          go : (m : Bool) → ltb a start.after ≡ m
              → cond m (map (λ i. first + i) (filter (λ i. eqb (get_or lowers i 0) a && lasts end.after (get_or uppers i 0)) (run (start.after - first) (suc end.before - start.after)))) [] ≡ []
          go false m = refl
          go true m = ap (map (λ i. first + i)) (filter_none (λ i. eqb (get_or lowers i 0) a && lasts end.after (get_or uppers i 0)) (start.after - first) (suc end.before - start.after) none)
            where
              none : (q : ℕ) → start.after - first ≤ q → q < (start.after - first) + (suc end.before - start.after) → eqb (get_or lowers q 0) a && lasts end.after (get_or uppers q 0) ≡ false
              none q u w =
                  refute (eqb (get_or lowers q 0) a && lasts end.after (get_or uppers q 0)) (λ t.
                  let named = eqb-true (get_or lowers q 0) a (and_left (eqb (get_or lowers q 0) a) (lasts end.after (get_or uppers q 0)) t) in
                  let above = lasting (get_or uppers q 0) (and_right (eqb (get_or lowers q 0) a) (lasts end.after (get_or uppers q 0)) t) in
                  let s = v.starts in
                  let places = places_are in
                  let o = v.by_one in
                  let l = book.lasting q end.before (omega arith) (omega arith) (omega arith) above in
                  clash (lasts end.before (get_or uppers (a - first) 0)) (lasted (get_or uppers (a - first) 0) (rw named at l)) (rw m at not_fallen))

-- ---- all changes

-- none before the window has begun
pub pair_none : (h : Head) (lowers uppers : List ℕ) → begun h ≡ false → pair_frames h lowers uppers ≡ []
unfolding pair_frames
pair_none h lowers uppers e = rw e

-- else those of the window
pub pair_some : (h : Head) (lowers uppers : List ℕ) → begun h ≡ true → {first : ℕ} {start end : Shift} → first ≡ window_start h.newest h.capacity → start ≡ shift_of h.newest h.n2 → end ≡ end_shift h
    → pair_frames h lowers uppers ≡ frames (moved first lowers uppers start end)
unfolding pair_frames
pair_some h lowers uppers b f s e = rw (b, f, s, e)
