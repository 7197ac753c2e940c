-- What a quote finds, one row further back, and past rows that need not be gone through.
use mathlib.Core.Path.{◌≡◌, refl, sym, ◌∙◌}
use mathlib.Core.Logic.{◌⊎◌, inl, inr}
use Prim.Native.Nat.{ℕ, suc, ◌+◌, ◌-◌, ◌*◌, ◌≤◌, ◌<◌}
use native.Mathlib.Nat.{le_refl}
use native.Mathlib.Decide.{dec_le}
use native.Mathlib.Omega.{arith}
use mathlib.Core.Bool.{Bool, true, false, ◌&&◌, ◌||◌, not, cond}
use mathlib.Core.List.{List}
use Rattle.std.proofs.Common.{Option, Some, None}
use Rattle.std.specs.Option.{is_some}
use lib.Dec.{eqb}
use lib.ListN.{length, get_or, set, drop, length-set}
use lib.Seq.{drop-set-lt, drop-cons, get_or-set_same}
use Rattle.lists.specs.Lists.{filter, run}
use Rattle.lists.proofs.Booleans.{clash}
use Rattle.lists.proofs.Runs.{filter_from}
use Rattle.dominance.specs.declared.Comparison.{Comparison}
use Rattle.dominance.specs.Compared.{compared}
use Rattle.table_finding.specs.Found.{live, Rows, under, retires, retired, youngest, Room, Sound, Finds, last_number}
use Rattle.table_finding.specs.declared.Found.{Found}
use Rattle.table_finding.proofs.Comparisons.{over_by, under_by, retired_cons}
use Rattle.table_finding.proofs.Youngest.{Clear, youngest_none, youngest_at, none_youngest, youngest_same, none_under, none_retired}

-- a row that was found has a number above 0, and where none was the number is 0
some_above : (o : Option ℕ) → is_some o ≡ true → 0 < last_number o
some_above None e = absurd (clash false e refl)
some_above (Some i) e = omega arith

none_zero : (o : Option ℕ) → is_some o ≡ false → last_number o ≡ 0
none_zero None e = refl
none_zero (Some i) e = absurd (clash true refl e)

module _ (s : Rows) where
  -- ---- one row, or a few, further back

  -- rows that are not retired, and of which none is over the quote or a younger row is, say no more
  pub passed : {from to b : ℕ} {places : List ℕ} {f : Found} → from ≤ to → to ≤ b → ((q : ℕ) → from ≤ q → q < to → retires s q ≡ false)
      → Clear s from to ⊎ (is_some f.last ≡ true) → Finds s to b places f → Finds s from b places f
  unfolding retired
  passed {from} {to} {b} {places} {f} h l g k v = record {
    listed =
        let e : b - from ≡ to - from + (b - to) = omega arith in
        let w : from + (to - from) ≡ to = omega arith in
        let same : filter (retires s) (run from (to - from + (b - to))) ≡ filter (retires s) (run (from + (to - from)) (b - to)) =
        filter_from (retires s) from (to - from) (b - to) (λ q u m. g q u (omega arith)) in
        v.listed ∙ sym (rw (← e, w) at same);
    last = v.last ∙ sym (go k);
    most = v.most;
  }
    where
      at_end_lem : Clear s b b
      at_end_lem q u m = absurd (omega arith)

      some : 0 < youngest s to b → youngest s from b ≡ youngest s to b
      some z = youngest_same s from to b b h l (le_refl b) at_end_lem z

      go : Clear s from to ⊎ (is_some f.last ≡ true) → youngest s from b ≡ youngest s to b
      go (inr z) = some (omega (arith, v.last, some_above f.last z))
      go (inl c) = which (dec_le 1 (youngest s to b))
        where
          which : Dec (1 ≤ youngest s to b) → youngest s from b ≡ youngest s to b
          which (yes z) = some z
          which (no z) =
              let n : youngest s to b ≡ 0 = omega arith in
              rw n (youngest_none s from b (λ q u m. part q u m (dec_le to q)))
            where
              part : (q : ℕ) → from ≤ q → q < b → Dec (to ≤ q) → under s q ≡ false
              part q u m (yes o) = none_youngest s to b (omega arith) q o m
              part q u m (no o) = c q u (omega arith)

  -- ---- where the rows' ends are sound, or a row over the quote is found

  -- rows of which none is live say no more where their ends are sound or a row over the quote is found
  pub dead_rows : (sound : Bool) {from to b : ℕ} {places : List ℕ} {f : Found} → from ≤ to → to ≤ b → ((q : ℕ) → from ≤ q → q < to → live s.uppers q ≡ false)
      → sound || is_some f.last ≡ true → (sound ≡ true → Sound s from b) → Finds s to b places f → Finds s from b places f
  unfolding retires
  dead_rows sound {from} {to} {b} {places} {f} h l dead t w v = passed h l (λ q u m. rw (dead q u m)) (go (is_some f.last) refl sound refl t) v
    where
      clear : Sound s from b → is_some f.last ≡ false → Clear s from b
      clear k z =
          none_under s k (λ j u m live. which j m live (dec_le to j) u)
        where
          which : (j : ℕ) → j < b → live s.uppers j ≡ true → Dec (to ≤ j) → from ≤ j → under s j ≡ false
          which j m e (yes o) u = none_youngest s to b (omega (arith, v.last, none_zero f.last z)) j o m
          which j m e (no o) u = absurd (clash (live s.uppers j) e (dead j u (omega arith)))

      go : (x : Bool) → is_some f.last ≡ x → (y : Bool) → sound ≡ y → y || x ≡ true → Clear s from to ⊎ (is_some f.last ≡ true)
      go true e y i t = inr e
      go false e true i t = inl (λ q u m. clear (w i) e q u (omega arith))
      go false e false i t = absurd (clash false t refl)

  -- where a row over the quote is found and the ends are sound, no row before it says more
  pub sound_stops : {from i b : ℕ} {places : List ℕ} {f : Found} → Sound s from b → from ≤ i → i ≤ b → is_some f.last ≡ true → Finds s i b places f → Finds s from b places f
  sound_stops {f = f} w h l z v = passed h l (λ q u m. none_retired s w _ h (omega (arith, v.last, some_above f.last z)) q u m (omega arith)) (inr z) v

  -- the row at place i was compared
  module _ {i b : ℕ} {places : List ℕ} {f : Found} (h : i < b) (m : Room s (suc i) places f.at) (v : Finds s (suc i) b places f)
      (c : Comparison) (e : c ≡ compared s.d s.directions s.quote (drop (i * s.d) s.columns)) where
    -- its place is listed if the quote retires it
    listed_next : (t : Bool) → retires s i ≡ t → drop (cond t (f.at - 1) f.at) (set places (f.at - 1) i) ≡ retired s i b
    listed_next true k =
        let n = m.least in
        let o = m.most in
        let z : suc (f.at - 1) ≡ f.at = omega arith in
        drop-cons (set places (f.at - 1) i) (f.at - 1) 0 (rw length-set (omega arith))
        ∙ rw (get_or-set_same places (f.at - 1) i 0 (omega arith), z, drop-set-lt f.at places (f.at - 1) i (omega arith), v.listed)
        (sym (rw (retired_cons s i b h, k)))
    listed_next false k =
        let n = m.least in
        rw (drop-set-lt f.at places (f.at - 1) i (omega arith), v.listed) (sym (rw (retired_cons s i b h, k)))

    -- its place is found if no younger row over the quote is
    last_next : (t : Bool) → under s i ≡ t → (x : Bool) → is_some f.last ≡ not x → last_number (cond (x && t) (Some i) f.last) ≡ youngest s i b
    last_next t k false z =
        v.last ∙ sym (youngest_same s i (suc i) b b (omega arith) h (le_refl b) (λ q u l. absurd (omega arith)) (omega (arith, v.last, some_above f.last z)))
    last_next true k true z = sym (youngest_at s i b i (le_refl i) h k (none_youngest s (suc i) b (omega (arith, v.last, none_zero f.last z))))
    last_next false k true z = none_zero f.last z ∙ sym (youngest_none s i b (λ q u l. part q u l (dec_le (suc i) q)))
      where
        part : (q : ℕ) → i ≤ q → q < b → Dec (suc i ≤ q) → under s q ≡ false
        part q u l (yes o) = none_youngest s (suc i) b (omega (arith, v.last, none_zero f.last z)) q o l
        part q u l (no o) = let n : q ≡ i = omega arith in rw n k

    pub compared_next : (r : Found) → r.at ≡ cond (eqb (get_or s.uppers i 0) 0 && not c.worse) (f.at - 1) f.at
        → (x : Bool) → is_some f.last ≡ not x → r.last ≡ cond (x && (c.worse && not c.better)) (Some i) f.last → Finds s i b (set places (f.at - 1) i) r
    unfolding retires live
    compared_next r a x z l = record {
      listed = rw a (listed_next (live s.uppers i && not c.worse) (rw (over_by s i c e)));
      last = rw l (last_next (c.worse && not c.better) (under_by s i c e) x z);
      most = rw (a, length-set) (room (live s.uppers i && not c.worse));
    }
      where
        room : (t : Bool) → cond t (f.at - 1) f.at ≤ length places
        room true = omega (arith, m.most)
        room false = m.most
