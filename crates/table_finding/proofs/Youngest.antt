-- The youngest row over a quote, and rows whose ends are sound: beyond the youngest live row over the quote there is nothing to find.
use mathlib.Core.Path.{◌≡◌}
use mathlib.Core.Logic.{◌⊎◌, inl, inr}
use Prim.Native.Nat.{ℕ, suc, ◌+◌, ◌-◌, ◌≤◌, ◌<◌}
use native.Mathlib.Decide.{dec_le}
use native.Mathlib.Omega.{arith}
use mathlib.Core.Bool.{true, false}
use Rattle.lists.specs.Lists.{filter, last_or, run}
use Rattle.lists.proofs.Booleans.{clash, refute}
use Rattle.lists.proofs.Runs.{Last, last_spec, last_none, last_at}
use Rattle.table_finding.specs.Found.{live, Rows, under, retires, youngest, Sound}

module _ (s : Rows) where
  -- no row from a on and below b is over the quote
  abbrev pub Clear : ℕ → ℕ → Type 0
  Clear a b = (q : ℕ) → a ≤ q → q < b → under s q ≡ false

  pub youngest_none : (a b : ℕ) → Clear a b → youngest s a b ≡ 0
  unfolding youngest
  youngest_none a b f = last_none (λ n. under s (n - 1)) 0 (suc a) (b - a) (λ q h l. f (q - 1) (omega arith) (omega arith))

  pub youngest_at : (a b j : ℕ) → a ≤ j → j < b → under s j ≡ true → Clear (suc j) b → youngest s a b ≡ suc j
  unfolding youngest
  youngest_at a b j h l t f =
      last_at (λ n. under s (n - 1)) 0 (suc a) (b - a) (suc j) (record {
        low = omega arith;
        high = omega arith;
        passes = let e : suc j - 1 ≡ j = omega arith in rw e t;
        after = λ q u n. f (q - 1) (omega arith) (omega arith);
      })

  -- where no number is found there is none, and a number that is found is that of a row over the quote
  pub none_youngest : (a b : ℕ) → youngest s a b ≤ 0 → Clear a b
  unfolding youngest
  none_youngest a b z = go (last_spec (λ n. under s (n - 1)) 0 (suc a) (b - a))
    where
      y : ℕ
      y = last_or 0 (filter (λ n. under s (n - 1)) (run (suc a) (b - a)))

      go : ((y ≡ 0) × ((q : ℕ) → suc a ≤ q → q < suc a + (b - a) → under s (q - 1) ≡ false)) ⊎ Last (λ n. under s (n - 1)) (suc a) (b - a) y → Clear a b
      go (inl t) q h l = let e : suc q - 1 ≡ q = omega arith in rw e at (t.1 (suc q) (omega arith) (omega arith))
      go (inr t) q h l = let k = t.low in absurd (omega arith)

  -- rows above that are not over the quote need not be asked
  pub youngest_same : (a c i b : ℕ) → a ≤ c → c ≤ i → i ≤ b → Clear i b → 0 < youngest s c i → youngest s a b ≡ youngest s c i
  unfolding youngest
  youngest_same a c i b h k l f z = go (last_spec (λ n. under s (n - 1)) 0 (suc c) (i - c))
    where
      y : ℕ
      y = last_or 0 (filter (λ n. under s (n - 1)) (run (suc c) (i - c)))

      go : ((y ≡ 0) × ((q : ℕ) → suc c ≤ q → q < suc c + (i - c) → under s (q - 1) ≡ false)) ⊎ Last (λ n. under s (n - 1)) (suc c) (i - c) y → youngest s a b ≡ y
      go (inl t) = absurd (omega (arith, t.0))
      go (inr t) =
          let low = t.low in
          let high = t.high in
          last_at (λ n. under s (n - 1)) 0 (suc a) (b - a) y (record {
            low = omega arith;
            high = omega arith;
            passes = t.passes;
            after = λ q u n. later q u n (dec_le (suc i) q);
          })
        where
          later : (q : ℕ) → y < q → q < suc a + (b - a) → Dec (suc i ≤ q) → under s (q - 1) ≡ false
          later q u n (yes m) = f (q - 1) (omega arith) (omega arith)
          later q u n (no m) = t.after q u (omega arith)

  -- the number that is found is that of a row over the quote
  pub youngest_under : (a b : ℕ) → 0 < youngest s a b → (a ≤ youngest s a b - 1) × (youngest s a b - 1 < b) × (under s (youngest s a b - 1) ≡ true)
  unfolding youngest
  youngest_under a b z = go (last_spec (λ n. under s (n - 1)) 0 (suc a) (b - a))
    where
      y : ℕ
      y = last_or 0 (filter (λ n. under s (n - 1)) (run (suc a) (b - a)))

      go : ((y ≡ 0) × ((q : ℕ) → suc a ≤ q → q < suc a + (b - a) → under s (q - 1) ≡ false)) ⊎ Last (λ n. under s (n - 1)) (suc a) (b - a) y
          → (a ≤ y - 1) × (y - 1 < b) × (under s (y - 1) ≡ true)
      go (inl t) = absurd (omega (arith, t.0))
      go (inr t) = let low = t.low in let high = t.high in (omega arith, omega arith, t.passes)

  -- ---- rows whose ends are sound

  module _ {a b : ℕ} (w : Sound s a b) where
    -- the rows from a later place on are sound too
    pub sound_later : (c : ℕ) → a ≤ c → Sound s c b
    sound_later c h = record {
      alive = λ i u l t f. w.alive i (omega arith) l t f;
      younger = λ i j u l t v m k. w.younger i j (omega arith) l t (omega arith) m k;
    }

    -- where no live row is over the quote none is
    pub none_under : ((j : ℕ) → a ≤ j → j < b → live s.uppers j ≡ true → under s j ≡ false) → Clear a b
    none_under f j k l = go (last_spec (under s) 0 a (b - a))
      where
        y : ℕ
        y = last_or 0 (filter (under s) (run a (b - a)))

        go : ((y ≡ 0) × ((q : ℕ) → a ≤ q → q < a + (b - a) → under s q ≡ false)) ⊎ Last (under s) a (b - a) y → under s j ≡ false
        go (inl t) = t.1 j k (omega arith)
        go (inr t) =
            let low = t.low in
            let high = t.high in
            absurd (clash (under s y) t.passes (f y low (omega arith) (w.alive y low (omega arith) t.passes (λ q u m. t.after q u (omega arith)))))

    -- where a row from place i on is over the quote, no row before that place is retired
    pub none_retired : (i : ℕ) → a ≤ i → 0 < youngest s i b → (q : ℕ) → a ≤ q → q < i → q < b → retires s q ≡ false
    none_retired i h z q u m l =
        let y = youngest_under i b z in
        refute (retires s q) (λ e. let k = w.younger q (youngest s i b - 1) u l e (omega (arith, y.0)) y.1 y.2 in absurd (omega (arith, y.0)))
