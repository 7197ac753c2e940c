-- The place of a scan after one more byte, case by case.
use mathlib.Core.Path.{◌≡◌, refl}
use Prim.Native.Nat.{ℕ, ◌+◌, ◌-◌, ◌*◌, ◌≤◌, ◌<◌}
use native.Mathlib.Omega.{arith}
use mathlib.Core.Bool.{Bool, true, false, ◌&&◌, not, cond}
use lib.Dec.{eqb, ltb, leb}
use borrow.Author.Tests.{lt-ltb, le-ltb, le-leb, lt-leb, eq-eqb, ne_eqb, leb-false}
use Rattle.line_fields.specs.declared.Scan.{Scan}
use Rattle.line_fields.specs.Fields.{invalid, begun, grown, step}

module _ (s : Scan) where
  -- ---- a separator

  pub begun_empty : s.empty ≡ true → invalid s ≡ begun s
  unfolding begun
  begun_empty e = rw e

  pub begun_full : s.empty ≡ false → 6 ≤ s.count → invalid s ≡ begun s
  unfolding begun
  begun_full e h = rw (e, le-leb 6 s.count h)

  pub begun_next : s.empty ≡ false → s.count < 6 → record { valid = true; empty = true; count = s.count + 1; number = 0 } ≡ begun s
  unfolding begun
  begun_next e h = rw (e, lt-leb 6 s.count h)

  -- ---- a digit

  module _ (digit : ℕ) where
    pub grown_none : s.count < 1 → invalid s ≡ grown s digit
    unfolding grown
    grown_none h = rw (lt-ltb s.count 1 h)

    module _ (h : 1 ≤ s.count) where
      pub grown_zero : not s.empty && eqb s.number 0 ≡ true → invalid s ≡ grown s digit
      unfolding grown
      grown_zero z = rw (le-ltb s.count 1 h, z)

      module _ (z : not s.empty && eqb s.number 0 ≡ false) {value : ℕ} (e : value ≡ s.number * 10 + digit) where
        pub grown_large : 4294967295 < value → invalid s ≡ grown s digit
        unfolding grown
        grown_large v = rw (le-ltb s.count 1 h, z, ← e, lt-ltb 4294967295 value v)

        pub grown_next : value ≤ 4294967295 → record { valid = true; empty = false; count = s.count; number = value } ≡ grown s digit
        unfolding grown
        grown_next v = rw (le-ltb s.count 1 h, z, ← e, le-ltb 4294967295 value v)

  -- ---- any byte

  module _ (separator byte : ℕ) where
    pub step_invalid : s.valid ≡ false → invalid s ≡ step separator s byte
    unfolding step invalid
    step_invalid e = rw e

    module _ (e : s.valid ≡ true) where
      pub step_separator : byte ≡ separator → begun s ≡ step separator s byte
      unfolding step
      step_separator q = rw (e, eq-eqb byte separator q)

      module _ (q : byte ≡ separator → ⊥) where
        pub step_low : byte < 48 → invalid s ≡ step separator s byte
        unfolding step
        step_low h = rw (e, ne_eqb byte separator q, lt-ltb byte 48 h)

        pub step_high : 57 < byte → invalid s ≡ step separator s byte
        unfolding step
        step_high h = rw (e, ne_eqb byte separator q, le-ltb byte 48 (omega arith), lt-ltb 57 byte h)

        pub step_digit : 48 ≤ byte → byte ≤ 57 → grown s (byte - 48) ≡ step separator s byte
        unfolding step
        step_digit h k = rw (e, ne_eqb byte separator q, le-ltb byte 48 h, le-ltb 57 byte k)

-- no more than six fields are begun
module _ (s : Scan) (h : s.count ≤ 6) where
  begun_few : (begun s).count ≤ 6
  unfolding begun invalid
  begun_few = go s.empty (leb 6 s.count) (leb-false 6 s.count)
    where
      go : (a b : Bool) → (b ≡ false → s.count < 6)
          → (cond a (invalid s) (cond b (invalid s) (record { valid = true; empty = true; count = s.count + 1; number = 0 }))).count ≤ 6
      go true b k = h
      go false true k = h
      go false false k = omega (arith, k refl)

  grown_few : (digit : ℕ) → (grown s digit).count ≤ 6
  unfolding grown invalid
  grown_few digit = go (ltb s.count 1) (not s.empty && eqb s.number 0) (ltb 4294967295 (s.number * 10 + digit))
    where
      go : (a b c : Bool)
          → (cond a (invalid s) (cond b (invalid s) (cond c (invalid s) (record { valid = true; empty = false; count = s.count; number = s.number * 10 + digit })))).count ≤ 6
      go true b c = h
      go false true c = h
      go false false true = h
      go false false false = h

  pub step_few : (separator byte : ℕ) → (step separator s byte).count ≤ 6
  unfolding step invalid
  step_few separator byte = go (not s.valid) (eqb byte separator) (ltb byte 48) (ltb 57 byte)
    where
      go : (a b c d : Bool)
          → (cond a s (cond b (begun s) (cond c (invalid s) (cond d (invalid s) (grown s (byte - 48)))))).count ≤ 6
      go true b c d = h
      go false true c d = begun_few
      go false false true d = h
      go false false false true = h
      go false false false false = grown_few (byte - 48)
