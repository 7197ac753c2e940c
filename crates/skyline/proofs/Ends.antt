-- What the two ends of a position are, and how they move on as a quote comes and another expires.
use mathlib.Core.Path.{◌≡◌, refl, sym, ap, ◌∙◌}
use mathlib.Core.Logic.{◌⊎◌, inl, inr}
use Prim.Native.Nat.{ℕ, suc, ◌+◌, ◌-◌, ◌≤◌, ◌<◌}
use native.Mathlib.Omega.{arith}
use native.Mathlib.Decide.{dec_le, dec_lt}
use mathlib.Core.Bool.{Bool, true, false, ◌&&◌, cond}
use lib.Dec.{eqb}
use borrow.Author.Tests.{eqb-true, eqb-false}
use Rattle.lists.specs.Lists.{filter, head_or, last_or, run, between}
use Rattle.lists.proofs.Booleans.{clash}
use Rattle.lists.proofs.Runs.{order, filter_same, Last, last_spec, First, first_spec}
use Rattle.skyline.specs.Past.{lower_end, upper_end}
use Rattle.skyline.proofs.Free.{Free}

module _ (dom : ℕ → ℕ → Bool) where
  -- y is 0, or an older position from S on that dominates p
  abbrev pub NoneOrOlder : ℕ → ℕ → ℕ → Type 0
  NoneOrOlder S p y = (y ≡ 0) ⊎ ((S ≤ y) × (y < p) × (dom y p ≡ true))

  -- y is 0, or a younger position up to M that dominates p
  abbrev pub NoneOrYounger : ℕ → ℕ → ℕ → Type 0
  NoneOrYounger M p y = (y ≡ 0) ⊎ ((p < y) × (y ≤ M) × (dom y p ≡ true))

  -- what the lower end y of p is: 0 or an older position from S on that dominates p, and none between dominates p
  pub record Lower (S p y : ℕ) : Type 0 where
    pub named : NoneOrOlder S p y
    pub after : (q : ℕ) → S ≤ q → y < q → q < p → dom q p ≡ false

  -- what the upper end y of p is: 0 and none up to M dominates p, or a younger position up to M that does, and none
  -- between
  pub record Upper (M p y : ℕ) : Type 0 where
    pub named : NoneOrYounger M p y
    pub before : (q : ℕ) → p < q → q < y → dom q p ≡ false
    pub live : y ≡ 0 → Free dom (suc p) M p

  pub lower_spec : (S p : ℕ) → Lower S p (lower_end dom S p)
  unfolding lower_end between
  lower_spec S p = go (last_spec (λ q. dom q p) 0 S (suc (p - 1) - S))
    where
      y : ℕ
      y = last_or 0 (filter (λ q. dom q p) (run S (suc (p - 1) - S)))

      go : ((y ≡ 0) × ((q : ℕ) → S ≤ q → q < S + (suc (p - 1) - S) → dom q p ≡ false)) ⊎ Last (λ q. dom q p) S (suc (p - 1) - S) y
          → Lower S p y
      go (inl t) = record { named = inl t.0; after = λ q u v w. t.1 q u (omega arith) }
      go (inr l) = pick (dec_lt y p)
        where
          pick : Dec (y < p) → Lower S p y
          pick (yes h) = record { named = inr (l.low, h, l.passes); after = λ q u v w. l.after q v (omega arith) }
          pick (no n) = record { named = inl (omega arith); after = λ q u v w. l.after q v (omega arith) }

  pub upper_spec : (M p : ℕ) → Upper M p (upper_end dom M p)
  unfolding upper_end between
  upper_spec M p = go (first_spec (λ q. dom q p) 0 (suc p) (suc M - suc p))
    where
      y : ℕ
      y = head_or 0 (filter (λ q. dom q p) (run (suc p) (suc M - suc p)))

      go : ((y ≡ 0) × ((q : ℕ) → suc p ≤ q → q < suc p + (suc M - suc p) → dom q p ≡ false)) ⊎ First (λ q. dom q p) (suc p) (suc M - suc p) y
          → Upper M p y
      go (inl t) = record {
        named = inl t.0;
        before = λ q u v. absurd (let z = t.0 in omega arith);
        live = λ e q u v. t.1 q u (omega arith);
      }
      go (inr f) = record {
        named = inr (f.low, (let h = f.high in omega arith), f.passes);
        before = f.before;
        live = λ e. absurd (let h = f.low in omega arith);
      }

  -- a position has one lower end
  pub lower_one : (S p y z : ℕ) → Lower S p y → Lower S p z → y ≡ z
  lower_one S p y z l m = go (order y z) l.named m.named
    where
      go : (y < z) ⊎ ((y ≡ z) ⊎ (z < y)) → NoneOrOlder S p y → NoneOrOlder S p z → y ≡ z
      go (inl h) s (inl e) = absurd (omega arith)
      go (inl h) s (inr t) = absurd (clash (dom z p) t.2 (l.after z t.0 h t.1))
      go (inr (inl h)) s t = h
      go (inr (inr h)) (inl e) t = absurd (omega arith)
      go (inr (inr h)) (inr s) t = absurd (clash (dom y p) s.2 (m.after y s.0 h s.1))

  -- a position has one upper end
  pub upper_one : (M p y z : ℕ) → Upper M p y → Upper M p z → y ≡ z
  upper_one M p y z l m = go l.named m.named
    where
      go : NoneOrYounger M p y → NoneOrYounger M p z → y ≡ z
      go (inl e) (inl f) = e ∙ sym f
      go (inl e) (inr t) = absurd (clash (dom z p) t.2 (l.live e z t.0 t.1))
      go (inr s) (inl f) = absurd (clash (dom y p) s.2 (m.live f y s.0 s.1))
      go (inr s) (inr t) = cmp (order y z)
        where
          cmp : (y < z) ⊎ ((y ≡ z) ⊎ (z < y)) → y ≡ z
          cmp (inl h) = absurd (clash (dom y p) s.2 (m.before y s.0 h))
          cmp (inr (inl h)) = h
          cmp (inr (inr h)) = absurd (clash (dom z p) t.2 (l.before z t.0 h))

  pub lower_is : (S p y : ℕ) → Lower S p y → lower_end dom S p ≡ y
  lower_is S p y l = lower_one S p (lower_end dom S p) y (lower_spec S p) l

  pub upper_is : (M p y : ℕ) → Upper M p y → upper_end dom M p ≡ y
  upper_is M p y u = upper_one M p (upper_end dom M p) y (upper_spec M p) u

  -- a lower end lies below its position
  pub lower_below : (S p : ℕ) → 1 ≤ p → lower_end dom S p < p
  lower_below S p h = go (lower_spec S p).named
    where
      go : NoneOrOlder S p (lower_end dom S p) → lower_end dom S p < p
      go (inl e) = omega arith
      go (inr t) = t.1

  -- an upper end is 0, or lies above its position and not above M
  pub upper_within : (M p : ℕ) → (upper_end dom M p ≡ 0) ⊎ ((p < upper_end dom M p) × (upper_end dom M p ≤ M))
  upper_within M p = go (upper_spec M p).named
    where
      go : NoneOrYounger M p (upper_end dom M p)
          → (upper_end dom M p ≡ 0) ⊎ ((p < upper_end dom M p) × (upper_end dom M p ≤ M))
      go (inl e) = inl e
      go (inr t) = inr (t.0, t.1)

  -- no upper end lies above the newest position
  pub upper_most : (M p : ℕ) → upper_end dom M p ≤ M
  upper_most M p = go (upper_within M p)
    where
      go : (upper_end dom M p ≡ 0) ⊎ ((p < upper_end dom M p) × (upper_end dom M p ≤ M)) → upper_end dom M p ≤ M
      go (inl e) = omega arith
      go (inr t) = t.1

  -- a position that none up to M dominates is live
  pub live_of : (M p : ℕ) → Free dom (suc p) M p → upper_end dom M p ≡ 0
  live_of M p f = upper_is M p 0 record { named = inl refl; before = λ q u v. absurd (omega arith); live = λ e. f }

  -- ---- the step

  -- the newest position is live
  pub upper_new : (M p : ℕ) → M ≤ p → upper_end dom M p ≡ 0
  upper_new M p h = live_of M p (λ q u v. absurd (omega arith))

  -- the lower end of the next position is sought among all that are held
  pub lower_new : (S M : ℕ) → lower_end dom S (suc M) ≡ last_or 0 (filter (λ q. dom q (suc M)) (between S M))
  unfolding lower_end
  lower_new S M = let e : suc M - 1 ≡ M = omega arith in rw e

  -- once g has expired, a lower end that named it is 0, and the others stay
  pub lower_step : (S g p : ℕ) → g ≤ S → S ≤ suc g → g < p
      → lower_end dom (suc g) p ≡ cond (eqb (lower_end dom S p) g) 0 (lower_end dom S p)
  lower_step S g p u v h = lower_is (suc g) p (cond (eqb y g) 0 y) (age (eqb y g) refl l.named)
    where
      y : ℕ
      y = lower_end dom S p

      l : Lower S p y
      l = lower_spec S p

      age : (b : Bool) → eqb y g ≡ b → NoneOrOlder S p y → Lower (suc g) p (cond b 0 y)
      age true e s =
          let t = eqb-true y g e in
          record { named = inl refl; after = λ q i j k. l.after q (omega arith) (omega arith) k }
      age false e (inl t) = record { named = inl t; after = λ q i j k. l.after q (omega arith) j k }
      age false e (inr t) =
          let n = eqb-false y g e in
          record { named = inr (omega arith, t.1, t.2); after = λ q i j k. l.after q (omega arith) j k }

  -- once the next position is in, a live one that it dominates has it for an upper end, and the other upper ends stay
  pub upper_step : (M p : ℕ) → p ≤ M
      → upper_end dom (suc M) p ≡ cond (eqb (upper_end dom M p) 0 && dom (suc M) p) (suc M) (upper_end dom M p)
  upper_step M p h =
      upper_is (suc M) p (cond (eqb y 0 && dom (suc M) p) (suc M) y) (age (eqb y 0) refl (dom (suc M) p) refl u.named)
    where
      y : ℕ
      y = upper_end dom M p

      u : Upper M p y
      u = upper_spec M p

      last : (q : ℕ) → q ≤ suc M → dom (suc M) p ≡ false → (q ≤ M → dom q p ≡ false) → Dec (q ≤ M) → dom q p ≡ false
      last q j e f (yes w) = f w
      last q j e f (no n) = let z : q ≡ suc M = omega arith in rw z e

      age : (b : Bool) → eqb y 0 ≡ b → (c : Bool) → dom (suc M) p ≡ c → NoneOrYounger M p y
          → Upper (suc M) p (cond (b && c) (suc M) y)
      age true e true d s = record {
        named = inr (omega arith, omega arith, d);
        before = λ q i j. u.live (eqb-true y 0 e) q i (omega arith);
        live = λ z. absurd (omega arith);
      }
      age true e false d s =
          let t = eqb-true y 0 e in
          record { named = inl t; before = u.before; live = λ z q i j. last q j d (λ w. u.live t q i w) (dec_le q M) }
      age false e c d (inl t) = let n = eqb-false y 0 e in absurd (n t)
      age false e c d (inr t) = record {
        named = inr (t.0, omega arith, t.2);
        before = u.before;
        live = λ z. absurd (omega arith);
      }

-- ends look at dominance inside the window alone
module _ (d e : ℕ → ℕ → Bool) (S M : ℕ) (agree : (p q : ℕ) → S ≤ p → p ≤ M → S ≤ q → q ≤ M → d p q ≡ e p q) where
  pub lower_cong : (p : ℕ) → S ≤ p → p ≤ M → lower_end d S p ≡ lower_end e S p
  unfolding lower_end between
  lower_cong p u v =
      ap (last_or 0) (filter_same (λ q. d q p) (λ q. e q p) S (suc (p - 1) - S) (λ q a b. agree q p a (omega arith) u v))

  pub upper_cong : (p : ℕ) → S ≤ p → p ≤ M → upper_end d M p ≡ upper_end e M p
  unfolding upper_end between
  upper_cong p u v =
      ap (head_or 0)
      (filter_same (λ q. d q p) (λ q. e q p) (suc p) (suc M - suc p) (λ q a b. agree q p (omega arith) (omega arith) u v))
