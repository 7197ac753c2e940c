-- Two halves' sheets put together in one array, and the sheet of a day by halves.
use mathlib.Core.Path.{◌≡◌, refl, sym, ◌∙◌}
use mathlib.Core.Logic.{inl, inr}
use Prim.Native.Nat.{ℕ, suc, ◌+◌, ◌-◌, ◌≤◌, ◌<◌}
use native.Mathlib.Nat.{zero-add, sub-zero, le_refl}
use native.Mathlib.Omega.{arith}
use mathlib.Core.Bool.{Bool, true, false, not}
use mathlib.Core.List.{List, [], ◌∷◌, ◌++◌, append_assoc}
use lib.ListN.{length, take, drop, set, length-append, length-take, length-drop}
use lib.Seq.{take_at}
use Rattle.lists.specs.Lists.{filter, any, run, between, rising}
use Rattle.lists.proofs.Filters.{length_filter}
use Rattle.lists.proofs.Rising.{rising_filter}
use Rattle.skyline.specs.Skyline.{dominated_in, skyline}
use Rattle.skyline.proofs.Free.{skyline_rises}
use Rattle.skyline.specs.Halves.{dominated_by, thinned}
use Rattle.skyline.proofs.Halves.{skyline_in_turn}
use Rattle.day_skyline.specs.Finding.{cut, Apart, left, Thinned, Halved, merged, AtFront, Part, sheet_from}
use Rattle.day_skyline.proofs.Thinning.{cut_behind}

cut_first : (e : ℕ) (l : List ℕ) → cut 0 e l ≡ take e l
unfolding cut
cut_first e l = rw sub-zero

-- ---- one part thinned by the other in turn

pub older_apart : (count : ℕ) (cells : List ℕ) (h older newer : ℕ) → Halved count cells h older newer → Apart count cells 0 older h (h + newer) 0
older_apart count cells h older newer g =
    let o = g.older_fits in
    let n = g.newer_fits in
    record {
      behind = le_refl 0;
      order = omega arith;
      most = omega arith;
      others_order = omega arith;
      others_most = n;
      apart = inr o;
      these_rise = rw cut_first g.older_rises;
      others_rise = g.newer_rises;
    }

module _ (dom : ℕ → ℕ → Bool) (count : ℕ) (cells : List ℕ) (h older newer : ℕ) (g : Halved count cells h older newer) where
  abbrev A : List ℕ
  A = take older cells

  abbrev B : List ℕ
  B = cut h (h + newer) cells

  -- what is left of the older half
  abbrev A' : List ℕ
  A' = thinned dom A B

  few : length A' ≤ older
  unfolding thinned
  few = omega (arith, length_filter (λ p. not (dominated_by dom B p)) A, length-take older cells)

  module _ {kept : ℕ} {mid : List ℕ} (t : Thinned dom cells 0 older h (h + newer) 0 kept mid) where
    left_is : left dom cells 0 older h (h + newer) ≡ A'
    unfolding left
    left_is = rw cut_first

    kept_is : length A' ≡ kept
    kept_is = sym (t.ends ∙ rw (left_is, zero-add))

    mid_is : mid ≡ A' ++ drop kept cells
    mid_is = t.laid ∙ rw (left_is, zero-add, kept_is)

    mid_length : length mid ≡ length cells
    mid_length =
        let n = g.newer_fits in
        let o = g.older_fits in
        rw (mid_is, length-append, length-drop) (omega (arith, few, kept_is))

    front_is : take kept mid ≡ A'
    front_is = rw mid_is (take_at A' (drop kept cells) kept kept_is)

    newer_is : cut h (h + newer) mid ≡ B
    newer_is =
        let o = g.older_fits in
        rw mid_is (cut_behind h (h + newer) kept A' cells kept_is (omega (arith, few, kept_is)))

    pub newer_apart : Apart count mid h (h + newer) 0 kept kept
    unfolding thinned
    newer_apart =
        let o = g.older_fits in
        let n = g.newer_fits in
        record {
          behind = omega (arith, few, kept_is);
          order = omega arith;
          most = rw mid_length n;
          others_order = omega arith;
          others_most = omega (arith, few, kept_is, mid_length);
          apart = inl (le_refl kept);
          these_rise = rw newer_is g.newer_rises;
          others_rise = rw (cut_first, front_is) (rising_filter (λ p. not (dominated_by dom B p)) 1 count A g.older_rises);
        }

    module _ {end : ℕ} {after : List ℕ} (u : Thinned dom mid h (h + newer) 0 kept kept end after) where
      -- what is left of the newer half
      abbrev B' : List ℕ
      B' = thinned dom B A'

      newer_left : left dom mid h (h + newer) 0 kept ≡ B'
      unfolding left
      newer_left = rw (cut_first, front_is, newer_is)

      pub merged_front : AtFront (merged dom A B) end after
      unfolding merged
      merged_front =
          let ends : end ≡ kept + length B' = rw newer_left at u.ends in
          let counted : length (A' ++ B') ≡ end = length-append A' B' ∙ rw (kept_is, ends) in
          let laid : after ≡ A' ++ (B' ++ drop end mid) = rw (newer_left, front_is, ← ends) at u.laid in
          record { counted = sym counted; front = rw (laid, ← append_assoc) (take_at (A' ++ B') (drop end mid) end counted) }

-- ---- the sheet of a part of a day

module _ (dom : ℕ → ℕ → Bool) (count first n : ℕ) (p : Part count first n) where
  -- rises within the day
  pub part_rises : rising 1 count (sheet_from dom first n) ≡ true
  unfolding sheet_from
  part_rises =
      let l = p.low in
      let k = p.high in
      skyline_rises dom first (first + n - 1) 1 count l (omega arith)

  -- none of no position
  pub none_alone : n ≡ 0 → sheet_from dom first n ≡ []
  unfolding sheet_from skyline between run filter
  none_alone e =
      let l = p.low in
      let z : suc (first + n - 1) - first ≡ 0 = omega arith in
      rw z

  module _ (irreflexive : (q : ℕ) → dom q q ≡ false) where
    -- the one of one
    pub one_alone : n ≡ 1 → sheet_from dom first n ≡ first ∷ []
    unfolding sheet_from skyline between run filter dominated_in any
    one_alone e =
        let l = p.low in
        let z : suc (first + n - 1) - first ≡ 1 = omega arith in
        rw (z, irreflexive first)

    module _ (transitive : (q r s : ℕ) → dom q r ≡ true → dom r s ≡ true → dom q s ≡ true) where
      -- by halves
      pub part_by_halves : (h : ℕ) → h ≤ n → 1 ≤ n → merged dom (sheet_from dom first h) (sheet_from dom (first + h) (n - h)) ≡ sheet_from dom first n
      unfolding sheet_from merged
      part_by_halves h k m =
          let l = p.low in
          let e : suc (first + h - 1) ≡ first + h = omega arith in
          let f : first + h + (n - h) - 1 ≡ first + n - 1 = omega arith in
          let s = skyline_in_turn dom irreflexive transitive first (first + h - 1) (first + n - 1) (omega arith) (omega arith) in
          rw f (sym (rw e at s))

-- ---- the sheets of no position and of one, at the front of as many cells

module _ (dom : ℕ → ℕ → Bool) (count first : ℕ) (cells : List ℕ) (p : Part count first (length cells)) where
  pub none_front : length cells ≡ 0 → AtFront (sheet_from dom first (length cells)) 0 cells
  none_front e = record { counted = rw (none_alone dom count first (length cells) p e); front = rw (none_alone dom count first (length cells) p e) }

  pub one_front : ((q : ℕ) → dom q q ≡ false) → (length cells ≡ 0 → ⊥) → length cells < 2 → AtFront (sheet_from dom first (length cells)) 1 (set cells 0 first)
  one_front irreflexive some few =
      let one : length cells ≡ 1 = omega arith in
      let e = one_alone dom count first (length cells) p irreflexive one in
      record { counted = rw e; front = rw e (go cells one) }
    where
      go : (l : List ℕ) → length l ≡ 1 → take 1 (set l 0 first) ≡ first ∷ []
      go [] h = absurd (omega arith)
      go (x ∷ xs) h = refl
