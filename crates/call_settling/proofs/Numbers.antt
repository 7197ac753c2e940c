-- Laws of the numbers that a quote finds: the places that expire, the live rows there and behind, and where lower ends may name the
-- expired position.
use mathlib.Core.Path.{◌≡◌, refl, sym, ap, ◌∙◌}
use mathlib.Core.Logic.{◌⊎◌, inl, inr}
use mir.Val.{bool_byte}
use Prim.Native.Nat.{ℕ, suc, ◌+◌, ◌-◌, ◌≤◌, ◌<◌}
use native.Mathlib.Nat.{zero-add}
use native.Mathlib.Omega.{arith}
use mathlib.Core.Bool.{Bool, true, false, ◌&&◌, not, cond}
use mathlib.Core.List.{List, [], ◌∷◌}
use lib.ListN.{length, get_or, length-append, length-drop}
use lib.Dec.{eqb}
use borrow.Author.Tests.{eq-eqb, ne_eqb, eqb-false, not-true, not-false}
use Rattle.lists.specs.Lists.{keep, filter, last_or, run}
use Rattle.lists.proofs.Filters.{filter_append, length_filter}
use Rattle.lists.proofs.Runs.{length_run, run_append, Last, last_spec}
use Rattle.skyline.specs.Skyline.{window_start}
use Rattle.head.specs.declared.Head.{Head}
use Rattle.model.specs.Rows.{expiring}
use Rattle.table_finding.specs.declared.Found.{Found}
use Rattle.table_finding.specs.Found as finding
use Rattle.table_finding.specs.Found.{Rows, live, live_in, over, under, retires, retired, youngest, last_number}
use Rattle.call_settling.specs.declared.Finding.{Finding}
use Rattle.call_settling.specs.Findings.{expired_places, position_of, held_rows, Findable, Tellable, told, retired_places, Finds, Placed, named_before, named_if}

-- those that pass one test, with and without another
pub split_counted : {A : Type 0} (f g : A → Bool) (l : List A) → length (filter (λ a. f a && not (g a)) l) + length (filter (λ a. f a && g a) l) ≡ length (filter f l)
unfolding filter
split_counted f g [] = refl
split_counted {A} f g (a ∷ l) = go (f a) (g a) (filter (λ a. f a && not (g a)) l) (filter (λ a. f a && g a) l) (filter f l) (split_counted f g l)
  where
    go : (b c : Bool) (m n k : List A) → length m + length n ≡ length k → length (keep (b && not c) a m) + length (keep (b && c) a n) ≡ length (keep b a k)
    go true true m n k e = omega arith
    go true false m n k e = omega arith
    go false c m n k e = e

-- ---- live rows

-- at the front and behind
pub live_parts : (uppers : List ℕ) (e n : ℕ) → e ≤ n → live_in uppers 0 n ≡ live_in uppers 0 e + live_in uppers e (n - e)
unfolding live_in
live_parts uppers e n h =
    let z : e + (n - e) ≡ n = omega arith in
    ap (λ (k : ℕ). length (filter (live uppers) (run 0 k))) (sym z) ∙ rw (run_append, filter_append, length-append, zero-add)

-- none where no place expires
pub live_none : (uppers : List ℕ) {by : ℕ} → by ≡ 0 → 0 ≡ live_in uppers 0 by
unfolding live_in filter run
live_none uppers e = rw e

-- one or none where a place does, as the row there is live or not
pub live_first : (uppers : List ℕ) {by : ℕ} → by ≤ 1 → (by ≡ 0 → ⊥) → bool_byte (eqb (get_or uppers 0 0) 0) ≡ live_in uppers 0 by
unfolding live_in filter run live
live_first uppers {by} h n = let z : by ≡ 1 = omega arith in rw z (go (eqb (get_or uppers 0 0) 0))
  where
    go : (b : Bool) → bool_byte b ≡ length {A = ℕ} (keep b 0 [])
    go true = refl
    go false = refl

-- ---- the rows that are found

module _ (s : Rows) where
  -- retired rows were live
  pub retired_live : (a b : ℕ) → length (retired s a b) ≤ live_in s.uppers a (b - a)
  unfolding retired retires live_in
  retired_live a b = omega (arith, split_counted (live s.uppers) (over s) (run a (b - a)))

  -- the number of a row is that of one held
  youngest_most : (a b : ℕ) → a ≤ b → youngest s a b ≤ b
  unfolding youngest
  youngest_most a b h = go (last_spec (λ n. under s (n - 1)) 0 (suc a) (b - a))
    where
      y : ℕ
      y = last_or 0 (filter (λ n. under s (n - 1)) (run (suc a) (b - a)))

      go : ((y ≡ 0) × ((q : ℕ) → suc a ≤ q → q < suc a + (b - a) → under s (q - 1) ≡ false)) ⊎ Last (λ n. under s (n - 1)) (suc a) (b - a) y → y ≤ b
      go (inl t) = let z = t.0 in omega arith
      go (inr t) = let l = t.high in omega arith

module _ {h : Head} {x columns uppers before : List ℕ} (v : Findable h x columns uppers before) where
  -- the window is full, so at most one place expires, and a row is held there
  pub counts : (expired_places h ≤ 1) × (expired_places h ≤ h.held) × (h.held ≤ h.capacity) × (h.held ≤ h.newest)
  unfolding expired_places window_start
  counts = omega (arith, v.full, v.some)

  live_bounded : h.live ≤ h.held
  unfolding live_in
  live_bounded = omega (arith, v.counted, length_filter (live uppers) (run 0 h.held), length_run 0 h.held)

  -- what is found may be told
  module _ {places : List ℕ} {by : ℕ} {r : Found} (e : by ≡ expired_places h) (f : finding.Finds (held_rows h x columns uppers) by h.held places r) where
    -- so many are retired
    count_is : length places - r.at ≡ length (retired_places h x columns uppers)
    count_is = sym (length-drop r.at places) ∙ ap length f.listed ∙ rw e

    pub tellable : Tellable h uppers (last_number r.last) (length places - r.at)
    tellable =
        let c = counts in
        record {
          below = v.below;
          held_bounded = v.fits.bounded;
          held_fits = c.2;
          held_most = c.3;
          some = v.some;
          uppers_fit = v.fits.uppers;
          last_held = rw f.last (youngest_most (held_rows h x columns uppers) by h.held (omega arith));
          lost = omega (arith, count_is, v.counted, live_parts uppers (expired_places h) h.held c.1, retired_live (held_rows h x columns uppers) (expired_places h) h.held);
          live_bounded = live_bounded;
        }

    -- and is what is to be found
    pub tells : {g : Finding} {reachable : Bool} → g ≡ told h uppers reachable r.at (last_number r.last) (length places - r.at) → (g.reachable ≡ reachable) × Finds h x columns uppers places g
    tells {g} t =
        let at : g.at ≡ r.at = ap Finding.at t in
        let same = ap Finding.reachable t in (
          same,
          record {
            listed = rw at (f.listed ∙ rw e);
            most = rw at f.most;
            tells = t ∙ rw (same, at, count_is, f.last, e);
          },
        )

-- what is told
module _ {h : Head} {uppers : List ℕ} {last count by n : ℕ} (v : Tellable h uppers last count) (e : by ≡ expired_places h) (l : n ≡ live_in uppers 0 by) where
  -- the rows that are live no more are among those that were
  pub lost_within : n + count ≤ h.live
  lost_within = rw (l, e) v.lost

  pub told_is : (reachable : Bool) (at : ℕ) {gone lower named : ℕ} → gone ≡ expiring h.newest h.capacity → lower ≡ position_of h last → named ≡ named_if reachable h uppers
      → record { by = by; gone = gone; named = named; at = at; lower = lower; live = h.live - (n + count) + 1; held = h.held - by + 1; reachable = reachable }
      ≡ told h uppers reachable at last count
  told_is reachable at g p m = rw (l, e, g, p, m)

-- ---- where lower ends may name the expired position

module _ (h : Head) (uppers : List ℕ) {g : ℕ} (e : g ≡ expiring h.newest h.capacity) where
  pub before_none : g ≡ 0 → 0 ≡ named_before h uppers
  unfolding named_before
  before_none z = rw (← e, eq-eqb g 0 z)

  pub before_live : (g ≡ 0 → ⊥) → get_or uppers 0 0 ≡ 0 → h.held ≡ named_before h uppers
  unfolding named_before
  before_live n z = rw (← e, ne_eqb g 0 n, eq-eqb (get_or uppers 0 0) 0 z)

  pub before_upper : (g ≡ 0 → ⊥) → (get_or uppers 0 0 ≡ 0 → ⊥) → get_or uppers 0 0 - g ≡ named_before h uppers
  unfolding named_before
  before_upper n z = rw (← e, ne_eqb g 0 n, ne_eqb (get_or uppers 0 0) 0 z)

  module _ (v : Placed h uppers) where
    pub first_held : (g ≡ 0 → ⊥) → 0 < length uppers
    unfolding window_start expiring
    first_held n = omega (arith, v.full, v.some, v.uppers_fit)

    pub upper_within : (g ≡ 0 → ⊥) → (get_or uppers 0 0 ≡ 0 → ⊥) → (g ≤ get_or uppers 0 0) × (get_or uppers 0 0 ≤ h.newest)
    upper_within m n = go (v.upper (omega (arith, e)))
      where
        go : (get_or uppers 0 0 ≡ 0) ⊎ ((expiring h.newest h.capacity ≤ get_or uppers 0 0) × (get_or uppers 0 0 ≤ h.newest))
            → (g ≤ get_or uppers 0 0) × (get_or uppers 0 0 ≤ h.newest)
        go (inl z) = absurd (n z)
        go (inr u) = (rw e u.0, u.1)

-- any held one may
pub named_any : (reachable : Bool) (h : Head) (uppers : List ℕ) → not reachable ≡ true → h.held ≡ named_if reachable h uppers
unfolding named_if
named_any reachable h uppers e = rw (not-true reachable e)

-- those before the upper end in a reachable book
pub named_some : (reachable : Bool) (h : Head) (uppers : List ℕ) {n : ℕ} → not reachable ≡ false → n ≡ named_before h uppers → n ≡ named_if reachable h uppers
unfolding named_if
named_some reachable h uppers e f = rw (not-false reachable e) f

-- they are places of rows held
pub named_most : (reachable : Bool) {h : Head} {uppers : List ℕ} → Placed h uppers → named_if reachable h uppers ≤ h.held
unfolding named_if named_before window_start expiring
named_most false v = omega arith
named_most true {h} {uppers} v = go (eqb g 0) refl (eqb (get_or uppers 0 0) 0) refl
  where
    g : ℕ
    g = h.newest + 1 - h.capacity

    go : (b : Bool) → eqb g 0 ≡ b → (c : Bool) → eqb (get_or uppers 0 0) 0 ≡ c → cond b 0 (cond c h.held (get_or uppers 0 0 - g)) ≤ h.held
    go true e c f = omega arith
    go false e true f = omega arith
    go false e false f = within (v.upper (omega (arith, eqb-false g 0 e)))
      where
        within : (get_or uppers 0 0 ≡ 0) ⊎ ((g ≤ get_or uppers 0 0) × (get_or uppers 0 0 ≤ h.newest)) → get_or uppers 0 0 - g ≤ h.held
        within (inl z) = omega (arith, z)
        within (inr z) = omega (arith, z.1, v.full)
