-- The loop that thins one part of an array by another and lays down what is left.
use mathlib.Core.Path.{◌≡◌, sym, ap, ◌∙◌}
use mathlib.Core.Logic.{◌⊎◌, inl, inr}
use Prim.Native.Nat.{ℕ, suc, ◌+◌, ◌-◌, ◌≤◌, ◌<◌}
use native.Mathlib.Nat.{le_antisymm, add-zero}
use native.Mathlib.Omega.{arith}
use mathlib.Core.Bool.{Bool, true, false, not}
use mathlib.Core.List.{List, [], ◌∷◌, ◌++◌, append_assoc, append-nil}
use lib.ListN.{length, get_or, take, drop, set, length-append, length-drop, take-append-drop}
use lib.Seq.{length-take-le, drop-append-le, take-append-le, get_or-drop, get_or-take}
use Rattle.lists.specs.Lists.{keep, filter, rising}
use Rattle.lists.proofs.Growing.{length_prefix, filter_more}
use Rattle.lists.proofs.Storing.{store_next, drop_beyond, get_d_beyond}
use Rattle.skyline.specs.Halves.{dominated_by, thinned}
use Rattle.day_skyline.specs.Finding.{Inside, cut, Apart, left, Thinned}
use Rattle.day_skyline.proofs.Beaten.{inside_at}

-- what stands inside a front is what stands inside it alone
pub cut_front : (a e : ℕ) (l r : List ℕ) → a ≤ e → e ≤ length l → cut a e (l ++ r) ≡ cut a e l
unfolding cut
cut_front a e l r h k =
    let m : e - a ≤ length (drop a l) = simp length-drop (omega arith) in
    rw (drop-append-le a l r (omega arith), take-append-le (e - a) (drop a l) r m)

-- what stands behind a front is what stood there
pub cut_behind : (a e w : ℕ) (front before : List ℕ) → length front ≡ w → w ≤ a → cut a e (front ++ drop w before) ≡ cut a e before
unfolding cut
cut_behind a e w front before h k = rw (drop_beyond front before w a h k)

pub length_cut : (a e : ℕ) (l : List ℕ) → e ≤ length l → length (cut a e l) ≡ e - a
unfolding cut
length_cut a e l h = length-take-le (e - a) (drop a l) (simp length-drop (omega arith))

module _ (dom : ℕ → ℕ → Bool) (count : ℕ) (entry : List ℕ) (from to low high at : ℕ) where
  -- what is left of those up to place i
  abbrev kept : ℕ → List ℕ
  kept i = left dom entry from i low high

  -- those up to place i are thinned
  pub record Thinning (cells : List ℕ) (end i : ℕ) : Type 0 where
    pub given : Apart count entry from to low high at
    pub begun : from ≤ i
    pub within : i ≤ to
    pub ends : end ≡ at + length (kept i)
    pub laid : cells ≡ (take at entry ++ kept i) ++ drop end entry

  few : (i : ℕ) → length (kept i) ≤ i - from
  unfolding left thinned cut
  few i = length_prefix (λ p. not (dominated_by dom (cut low high entry) p)) (drop from entry) (i - from)

  pub thinning_start : Apart count entry from to low high at → Thinning entry at from
  unfolding left thinned cut filter
  thinning_start g =
      let z : from - from ≡ 0 = omega arith in
      record {
        given = g;
        begun = omega arith;
        within = g.order;
        ends = rw (z, add-zero);
        laid = rw (z, append-nil, take-append-drop);
      }

  module _ {cells : List ℕ} {end i : ℕ} (t : Thinning cells end i) where
    front_length : length (take at entry ++ kept i) ≡ end
    front_length =
        let b = t.given.behind in
        let o = t.given.order in
        let m = t.given.most in
        length-append (take at entry) (kept i) ∙ omega (arith, length-take-le at entry (omega arith), t.ends)

    pub end_behind : end ≤ i
    end_behind =
        let b = t.given.behind in
        let s = t.begun in
        omega (arith, t.ends, few i)

    pub cells_length : length cells ≡ length entry
    cells_length =
        let m = t.given.most in
        let w = t.within in
        rw (t.laid, length-append, front_length, length-drop) (omega (arith, end_behind))

    -- the next position is as it was
    pub next_is : get_or cells i 0 ≡ get_or entry i 0
    next_is =
        get_d_beyond 0 cells entry end i end_behind
        (rw t.laid (drop_beyond (take at entry ++ kept i) entry end end front_length (omega arith)))

    -- and so are the others
    pub others_are : cut low high cells ≡ cut low high entry
    others_are = rw t.laid (go t.given.apart)
      where
        go : (high ≤ at) ⊎ (to ≤ low) → cut low high ((take at entry ++ kept i) ++ drop end entry) ≡ cut low high entry
        go (inl h) =
            let b = t.given.behind in
            let o = t.given.order in
            let m = t.given.most in
            let fits : high ≤ length (take at entry) = rw (length-take-le at entry (omega arith)) h in
            rw (append_assoc) (cut_front low high (take at entry) (kept i ++ drop end entry) t.given.others_order fits
            ∙ sym (cut_front low high (take at entry) (drop at entry) t.given.others_order fits)
            ∙ ap (cut low high) (take-append-drop at entry))
        go (inr h) =
            let w = t.within in
            cut_behind low high end (take at entry ++ kept i) entry front_length (omega (arith, end_behind))

    pub others_rise : rising 1 count (take (high - low) (drop low cells)) ≡ true
    unfolding cut
    others_rise = rw others_are t.given.others_rise

    module _ (more : i < to) where
      pub next_inside : Inside count (get_or cells i 0)
      unfolding cut
      next_inside =
          let b = t.begun in
          let m = t.given.most in
          let j : i - from < length (cut from to entry) = rw (length_cut from to entry m) (omega arith) in
          let e : from + (i - from) ≡ i = omega arith in
          rw (next_is) (rw (get_or-take (to - from) (drop from entry) (i - from) 0 (omega arith), get_or-drop, e)
          at (inside_at count (cut from to entry) (i - from) t.given.these_rise j))

      kept_more : kept (i + 1) ≡ kept i ++ keep (not (dominated_by dom (cut low high entry) (get_or entry i 0))) (get_or entry i 0) []
      unfolding left thinned cut
      kept_more =
          let b = t.begun in
          let m = t.given.most in
          let s : i + 1 - from ≡ suc (i - from) = omega arith in
          let e : from + (i - from) ≡ i = omega arith in
          let j : i - from < length (drop from entry) = simp length-drop (omega arith) in
          rw (s) (filter_more (λ p. not (dominated_by dom (cut low high entry) p)) (drop from entry) (i - from) 0 j ∙ rw (get_or-drop, e))

      module _ {p : ℕ} {beaten : Bool} (read : p ≡ get_or cells i 0) (asked : beaten ≡ dominated_by dom (take (high - low) (drop low cells)) p) where
        verdict : dominated_by dom (cut low high entry) (get_or entry i 0) ≡ beaten
        unfolding cut
        verdict = sym (asked ∙ rw (others_are, read, next_is))

        -- a position that one of the others is over is passed
        pub thinning_pass : beaten ≡ true → Thinning cells end (i + 1)
        thinning_pass e =
            let b = t.begun in
            let same : kept (i + 1) ≡ kept i = kept_more ∙ rw (verdict, e) (append-nil (kept i)) in
            record { given = t.given; begun = omega arith; within = omega arith; ends = rw same t.ends; laid = rw same t.laid }

        -- another is laid down
        pub thinning_keep : beaten ≡ false → Thinning (set cells end p) (end + 1) (i + 1)
        thinning_keep e =
            let b = t.begun in
            let m = t.given.most in
            let same : kept (i + 1) ≡ kept i ++ (p ∷ []) = kept_more ∙ rw (verdict, e, read, next_is) in
            record {
              given = t.given;
              begun = omega arith;
              within = omega arith;
              ends = rw (same, length-append) (omega (arith, t.ends));
              laid =
                  rw t.laid (store_next 0 (take at entry ++ kept i) entry end p front_length (omega (arith, end_behind))
                  ∙ rw same (simp append_assoc));
            }

    pub thinning_end : to ≤ i → Thinned dom entry from to low high at end cells
    thinning_end h =
        let e : i ≡ to = le_antisymm t.within h in
        record { ends = rw (← e) t.ends; laid = rw (← e, ← t.ends) (t.laid ∙ rw append_assoc) }
