-- What is invalid stays so, and a byte that is none of fields makes a line invalid.
use mathlib.Core.Path.{◌≡◌, refl, sym, ap, ◌∙◌}
use mathlib.Core.Logic.{◌⊎◌, inl, inr}
use Prim.Native.Nat.{ℕ, zero, suc, ◌+◌, ◌-◌, ◌≤◌, ◌<◌}
use native.Mathlib.Omega.{arith}
use mathlib.Core.Bool.{Bool, true, false, ◌&&◌, cond}
use mathlib.Core.List.{List, [], ◌∷◌}
use lib.Dec.{eqb, leb}
use lib.ListN.{length, get_or, set, drop, length-drop}
use borrow.Author.Tests.{leb-true, leb-false, eqb-false}
use Rattle.lists.proofs.Booleans.{either, none_left, none_right, and_false}
use Rattle.line_fields.specs.declared.Fields.{Fields}
use Rattle.line_fields.specs.declared.Scan.{Scan}
use Rattle.line_fields.specs.declared.Scanned.{Scanned}
use Rattle.line_fields.proofs.Steps.{step_low, step_high}
use Rattle.line_fields.specs.Fields.{no_field, scan_of, fields_by, invalid, step, after, fields_from, in_fields, field_bytes, fields_at}

-- a cell set to what it holds
set_own : (l : List ℕ) (i : ℕ) → set l i (get_or l i 0) ≡ l
set_own [] i = refl
set_own (x ∷ xs) zero = refl
set_own (x ∷ xs) (suc i) = ap (λ (l : List ℕ). x ∷ l) (set_own xs i)

-- the same fields, no longer valid
unfoldable pub broken : Fields → Fields
broken f = record { valid = false; empty = f.empty; count = f.count; numbers = f.numbers }

module _ (separator : ℕ) where
  after_invalid : (f : Fields) (byte : ℕ) → f.valid ≡ false → after separator f byte ≡ f
  unfolding after step scan_of fields_by
  after_invalid f byte e = rw (e, set_own, ← e)

  -- what is invalid stays so
  pub invalid_stays : (f : Fields) (bytes : List ℕ) → f.valid ≡ false → fields_from separator f bytes ≡ f
  unfolding fields_from
  invalid_stays f [] e = refl
  invalid_stays f (byte ∷ bytes) e = ap (λ (g : Fields). fields_from separator g bytes) (after_invalid f byte e) ∙ invalid_stays f bytes e

  -- a scan that stops here
  stopped : (f : Fields) (byte : ℕ) → step separator (scan_of f) byte ≡ invalid (scan_of f) → after separator f byte ≡ broken f
  unfolding after broken invalid scan_of fields_by
  stopped f byte e = ap (λ (s : Scan). fields_by s (set f.numbers (s.count - 1) s.number)) e ∙ rw set_own

  same_invalid : (f : Fields) → f.valid ≡ false → f ≡ broken f
  unfolding broken
  same_invalid f e = rw (← e)

  scan_valid : (f : Fields) → f.valid ≡ true → (scan_of f).valid ≡ true
  unfolding scan_of
  scan_valid f t = t

  -- a byte that is none of fields
  pub after_foreign : (f : Fields) (byte : ℕ) → in_fields separator byte ≡ false → after separator f byte ≡ broken f
  unfolding in_fields
  after_foreign f byte i = go (either f.valid)
    where
      apart : byte ≡ separator → ⊥
      apart = eqb-false byte separator (none_left (eqb byte separator) (leb 48 byte && leb byte 57) i)

      outside : leb 48 byte && leb byte 57 ≡ false
      outside = none_right (eqb byte separator) (leb 48 byte && leb byte 57) i

      by_size : f.valid ≡ true → (leb 48 byte ≡ true) ⊎ (leb 48 byte ≡ false) → after separator f byte ≡ broken f
      by_size t (inr l) = stopped f byte (sym (step_low (scan_of f) separator byte (scan_valid f t) apart (leb-false 48 byte l)))
      by_size t (inl l) =
          let high : leb byte 57 ≡ false = rw l at outside in
          stopped f byte (sym (step_high (scan_of f) separator byte (scan_valid f t) apart (leb-false byte 57 high)))

      go : (f.valid ≡ true) ⊎ (f.valid ≡ false) → after separator f byte ≡ broken f
      go (inl t) = by_size t (either (leb 48 byte))
      go (inr t) = after_invalid f byte t ∙ same_invalid f t

  -- all bytes are of fields, where there are no fewer of them
  all_bytes : (bytes : List ℕ) → length bytes ≤ length (field_bytes separator bytes) → field_bytes separator bytes ≡ bytes
  unfolding field_bytes
  all_bytes [] h = refl
  all_bytes (byte ∷ bytes) h = go (in_fields separator byte) h (all_bytes bytes)
    where
      go : (b : Bool) → suc (length bytes) ≤ length (cond b (byte ∷ field_bytes separator bytes) []) → (length bytes ≤ length (field_bytes separator bytes) → field_bytes separator bytes ≡ bytes)
          → cond b (byte ∷ field_bytes separator bytes) [] ≡ byte ∷ bytes
      go true h r = ap (λ (l : List ℕ). byte ∷ l) (r (omega arith))
      go false h r = absurd (omega arith)

  pub broken_invalid : (f : Fields) → (broken f).valid ≡ false
  unfolding broken
  broken_invalid f = refl

  -- a byte behind those of fields makes all of them invalid
  pub some_foreign : (f : Fields) (bytes : List ℕ) → length (field_bytes separator bytes) < length bytes
      → fields_from separator f bytes ≡ broken (fields_from separator f (field_bytes separator bytes))
  unfolding field_bytes fields_from
  some_foreign f [] h = absurd (omega arith)
  some_foreign f (byte ∷ bytes) h = go (either (in_fields separator byte)) h (some_foreign (after separator f byte) bytes)
    where
      go : (in_fields separator byte ≡ true) ⊎ (in_fields separator byte ≡ false) → length (cond (in_fields separator byte) (byte ∷ field_bytes separator bytes) []) < suc (length bytes)
          → (length (field_bytes separator bytes) < length bytes → fields_from separator (after separator f byte) bytes ≡ broken (fields_from separator (after separator f byte) (field_bytes separator bytes)))
          → fields_from separator (after separator f byte) bytes ≡ broken (fields_from separator f (cond (in_fields separator byte) (byte ∷ field_bytes separator bytes) []))
      go (inl t) h r = rw t (r (let k = rw t at h in omega arith))
      go (inr t) h r = rw t (ap (λ (g : Fields). fields_from separator g bytes) (after_foreign f byte t) ∙ invalid_stays (broken f) bytes (broken_invalid f))

  -- fields that are valid under a further test
  checked : Fields → Bool → Fields
  checked f b = record { valid = f.valid && b; empty = f.empty; count = f.count; numbers = f.numbers }

  checked_true : (f : Fields) → checked f true ≡ f
  unfolding checked
  checked_true f = go f.valid refl
    where
      go : (b : Bool) → f.valid ≡ b → record { valid = f.valid && true; empty = f.empty; count = f.count; numbers = f.numbers } ≡ f
      go true e = rw (e, ← e)
      go false e = rw (e, ← e)

  checked_false : (f : Fields) → checked f false ≡ broken f
  unfolding checked broken
  checked_false f = rw and_false

  -- the fields of a whole line, from those up to the first byte that is none of fields
  pub fields_whole : (line : List ℕ) (place : ℕ) {s : Scanned} → s ≡ fields_at separator false line place
      → record { valid = s.fields.valid && leb (length line) s.end; empty = s.fields.empty; count = s.fields.count; numbers = s.fields.numbers }
      ≡ fields_from separator no_field (drop place line)
  unfolding fields_at checked
  fields_whole line place e = rw e (go (either (leb (length line) (place + length front))))
    where
      bytes : List ℕ
      bytes = drop place line

      front : List ℕ
      front = field_bytes separator bytes

      go : (leb (length line) (place + length front) ≡ true) ⊎ (leb (length line) (place + length front) ≡ false)
          → checked (fields_from separator no_field front) (leb (length line) (place + length front)) ≡ fields_from separator no_field bytes
      go (inl t) =
          let h = leb-true (length line) (place + length front) t in
          rw t (checked_true (fields_from separator no_field front) ∙ ap (fields_from separator no_field) (all_bytes bytes (omega (arith, length-drop place line))))
      go (inr t) =
          let h = leb-false (length line) (place + length front) t in
          rw t (checked_false (fields_from separator no_field front) ∙ sym (some_foreign no_field bytes (omega (arith, length-drop place line))))
