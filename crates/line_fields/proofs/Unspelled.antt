-- Valid fields come from nothing else: the bytes of a line with valid fields are what is printed of their numbers.
use mathlib.Core.Path.{◌≡◌, refl, sym, ap, ◌∙◌}
use mathlib.Core.Logic.{◌⊎◌, inl, inr}
use Prim.Native.Nat.{ℕ, zero, suc, ◌+◌, ◌-◌, ◌*◌, ◌/◌, ◌%◌, ◌^◌, ◌≤◌, ◌<◌}
use native.Mathlib.Nat.{pow-suc}
use native.Mathlib.Omega.{arith}
use mathlib.Core.Bool.{true, false, cond}
use mathlib.Core.List.{List, [], ◌∷◌, ◌++◌, map, append_assoc, append-nil}
use lib.Dec.{ltb, leb, eqb}
use lib.ListN.{length, length-append}
use borrow.Author.Tests.{ltb-true, ltb-false, lt-ltb, le-ltb, leb-true, eqb-true, eqb-false}
use Rattle.lists.specs.Lists.{flat}
use Rattle.lists.proofs.Booleans.{either, clash, both, and_left, and_right}
use Rattle.lists.proofs.Filters.{flat_append, map-append}
use Rattle.text.specs.Text.{digits_up_to, digits}
use Rattle.line_fields.specs.declared.Fields.{Fields}
use Rattle.line_fields.specs.declared.Scan.{Scan}
use Rattle.line_fields.specs.Fields.{field_by, small, no_field, scan_of, fields_by, invalid, step, after, fields_from, in_fields}
use Rattle.line_fields.proofs.Steps.{begun_empty, begun_full, grown_none, grown_zero, grown_large, step_separator, step_digit}
use Rattle.line_fields.proofs.Invalid.{broken_invalid, invalid_stays, after_foreign}
use Rattle.line_fields.proofs.Spelled.{fields_with, fields_of, scan_with, scan_with_lem, separator_more, digit_more}

-- ---- digits

digits_one : (n : ℕ) → n < 10 → digits n ≡ (48 + n) ∷ []
unfolding digits digits_up_to
digits_one n h = rw (lt-ltb n 10 h)

-- no digit is added where there are enough
more_digits : (k n : ℕ) → n < 10 ^ suc k → digits_up_to (suc (suc k)) n ≡ digits_up_to (suc k) n
unfolding digits_up_to
more_digits zero n h = rw (lt-ltb n 10 h)
more_digits (suc k) n h = go (either (ltb n 10)) (more_digits k (n / 10))
  where
    go : (ltb n 10 ≡ true) ⊎ (ltb n 10 ≡ false) → (n / 10 < 10 ^ suc k → digits_up_to (suc (suc k)) (n / 10) ≡ digits_up_to (suc k) (n / 10))
        → cond (ltb n 10) ((48 + n) ∷ []) (digits_up_to (suc (suc k)) (n / 10) ++ ((48 + n % 10) ∷ []))
        ≡ cond (ltb n 10) ((48 + n) ∷ []) (digits_up_to (suc k) (n / 10) ++ ((48 + n % 10) ∷ []))
    go (inl t) r = rw t
    go (inr t) r =
        let c : n < 10 ^ suc k * 10 = rw (pow-suc 10 (suc k)) at h in
        rw t (ap (λ (l : List ℕ). l ++ ((48 + n % 10) ∷ [])) (r (omega arith)))

-- one more digit behind a number
digits_more : (n digit : ℕ) → 1 ≤ n → digit < 10 → n * 10 + digit < 4294967296 → digits (n * 10 + digit) ≡ digits n ++ ((48 + digit) ∷ [])
unfolding digits digits_up_to
digits_more n digit h d v =
    let m : ℕ = n * 10 + digit in
    let q : m / 10 ≡ n = omega arith in
    let r : m % 10 ≡ digit = omega arith in
    rw (le-ltb m 10 (omega arith), q, r) (ap (λ (l : List ℕ). l ++ ((48 + digit) ∷ [])) (sym (more_digits 8 n (omega arith))))

-- ---- small numbers

small_append : (ns : List ℕ) (n : ℕ) → small ns ≡ true → n < 4294967296 → small (ns ++ (n ∷ [])) ≡ true
unfolding small
small_append [] n s h = rw (lt-ltb n 4294967296 h)
small_append (m ∷ ns) n s h =
    both (ltb m 4294967296) (small (ns ++ (n ∷ []))) (and_left (ltb m 4294967296) (small ns) s) (small_append ns n (and_right (ltb m 4294967296) (small ns) s) h)

-- ---- what a byte is

data Byte (separator byte : ℕ) : Type 0 where
  divides : byte ≡ separator → Byte separator byte
  digit : (x : ℕ) → x < 10 → byte ≡ 48 + x → (byte ≡ separator → ⊥) → Byte separator byte
  foreign : in_fields separator byte ≡ false → Byte separator byte

byte_of : (separator byte : ℕ) → Byte separator byte
unfolding in_fields
byte_of separator byte = go (either (eqb byte separator)) (either (leb 48 byte)) (either (leb byte 57))
  where
    go : (eqb byte separator ≡ true) ⊎ (eqb byte separator ≡ false) → (leb 48 byte ≡ true) ⊎ (leb 48 byte ≡ false) → (leb byte 57 ≡ true) ⊎ (leb byte 57 ≡ false) → Byte separator byte
    go (inl t) a b = divides (eqb-true byte separator t)
    go (inr t) (inr a) b = foreign (rw (t, a))
    go (inr t) (inl a) (inr b) = foreign (rw (t, a, b))
    go (inr t) (inl a) (inl b) =
        let low = leb-true 48 byte a in
        let high = leb-true byte 57 b in
        digit (byte - 48) (omega arith) (omega arith) (eqb-false byte separator t)

-- ---- the bytes of valid fields

module _ (separator : ℕ) where
  -- a separator and a number in decimal for each
  abbrev printed : List ℕ → List ℕ
  printed ns = flat (map (field_by separator) ns)

  printed_more : (ns : List ℕ) (n : ℕ) → printed (ns ++ (n ∷ [])) ≡ printed ns ++ field_by separator n
  unfolding flat
  printed_more ns n = rw (map-append, flat_append, append-nil)

  -- the bytes read so far are what is printed of the numbers, and the last may go on
  data Reads (bytes : List ℕ) (f : Fields) : Type 0 where
    none : bytes ≡ [] → f ≡ no_field → Reads bytes f
    opened : (before behind : List ℕ) → small before ≡ true → length before + suc (length behind) ≡ 6
        → bytes ≡ printed before ++ (separator ∷ []) → f ≡ fields_with true before 0 behind → Reads bytes f
    grows : (before behind : List ℕ) (n : ℕ) → small before ≡ true → n < 4294967296 → length before + suc (length behind) ≡ 6
        → bytes ≡ printed before ++ field_by separator n → f ≡ fields_with false before n behind → Reads bytes f

  small_none : small [] ≡ true
  unfolding small
  small_none = refl

  none_whole : no_field ≡ fields_of [] no_field.numbers
  unfolding no_field fields_of
  none_whole = refl

  with_empty : (before behind : List ℕ) → (fields_with true before 0 behind).empty ≡ true
  unfolding fields_with
  with_empty before behind = refl

  grown_whole : (before : List ℕ) (n : ℕ) (behind : List ℕ) → fields_with false before n behind ≡ fields_of (before ++ (n ∷ [])) behind
  unfolding fields_with fields_of
  grown_whole before n behind = rw (length-append before (n ∷ []), append_assoc before (n ∷ []) behind)

  -- a scan that is no longer valid
  refuted : (f : Fields) (byte : ℕ) (s : Scan) → invalid s ≡ step separator (scan_of f) byte → (after separator f byte).valid ≡ true → ⊥
  unfolding after fields_by invalid
  refuted f byte s e v = clash (step separator (scan_of f) byte).valid v (rw (← e))

  foreign_refuted : (f : Fields) (byte : ℕ) → in_fields separator byte ≡ false → (after separator f byte).valid ≡ true → ⊥
  foreign_refuted f byte i v = clash (after separator f byte).valid v (rw (after_foreign separator f byte i) (broken_invalid separator f))

  module _ (apart : separator < 48) where
    -- one more byte before any field
    none_step : (byte : ℕ) → Byte separator byte → (after separator no_field byte).valid ≡ true → Reads (byte ∷ []) (after separator no_field byte)
    unfolding no_field scan_of fields_of flat small
    none_step byte (divides e) v =
        opened [] (0 ∷ 0 ∷ 0 ∷ 0 ∷ 0 ∷ []) refl refl (rw e) (ap (after separator no_field) e ∙ separator_more separator [] 0 (0 ∷ 0 ∷ 0 ∷ 0 ∷ 0 ∷ []) (omega arith))
    none_step byte (digit x d e q) v =
        absurd (refuted no_field byte (scan_of no_field)
        (grown_none (scan_of no_field) (byte - 48) (omega arith) ∙ step_digit (scan_of no_field) separator byte refl q (omega arith) (omega arith)) v)
    none_step byte (foreign i) v = absurd (foreign_refuted no_field byte i v)

    module _ (before behind : List ℕ) (s : small before ≡ true) (six : length before + suc (length behind) ≡ 6) where
      -- one more byte in a field without a digit
      opened_step : (byte : ℕ) → Byte separator byte → (after separator (fields_with true before 0 behind) byte).valid ≡ true
          → Reads ((printed before ++ (separator ∷ [])) ++ (byte ∷ [])) (after separator (fields_with true before 0 behind) byte)
      unfolding field_by
      opened_step byte (divides e) v =
          let f : Fields = fields_with true before 0 behind in
          let w : Scan = scan_with true before 0 in
          absurd (refuted f byte w
          (begun_empty w refl ∙ step_separator w separator byte refl e ∙ ap (λ (t : Scan). step separator t byte) (sym (scan_with_lem true before 0 behind))) v)
      opened_step byte (digit x d e q) v =
          let same : 0 * 10 + x ≡ x = omega arith in
          grows before behind x s (omega arith) six
          (append_assoc (printed before) (separator ∷ []) (byte ∷ []) ∙ rw (e, digits_one x d))
          (ap (after separator (fields_with true before 0 behind)) e ∙ digit_more separator apart before behind true 0 x refl d (omega arith)
          ∙ ap (λ (n : ℕ). fields_with false before n behind) same)
      opened_step byte (foreign i) v = absurd (foreign_refuted (fields_with true before 0 behind) byte i v)

      module _ (n : ℕ) (k : n < 4294967296) where
        abbrev f : Fields
        f = fields_with false before n behind

        abbrev w : Scan
        w = scan_with false before n

        abbrev bytes : List ℕ
        bytes = printed before ++ field_by separator n

        to_scan : (byte : ℕ) → step separator w byte ≡ step separator (scan_of f) byte
        to_scan byte = ap (λ (t : Scan). step separator t byte) (sym (scan_with_lem false before n behind))

        -- a separator behind a number
        grows_divides : (byte : ℕ) (rest : List ℕ) → rest ≡ behind → byte ≡ separator → (after separator f byte).valid ≡ true → Reads (bytes ++ (byte ∷ [])) (after separator f byte)
        unfolding fields_with fields_of
        grows_divides byte [] r e v =
            let long : length behind ≡ 0 = ap length (sym r) in
            absurd (refuted f byte w (begun_full w refl (omega arith) ∙ step_separator w separator byte refl e ∙ to_scan byte) v)
        grows_divides byte (z ∷ rest) r e v =
            let long : length behind ≡ suc (length rest) = ap length (sym r) in
            let next : List ℕ = before ++ (n ∷ []) in
            let count : length next ≡ length before + 1 = length-append before (n ∷ []) in
            let whole : f ≡ fields_of next (z ∷ rest) = rw (← r, count, append_assoc before (n ∷ []) (z ∷ rest)) in
            opened next rest (small_append before n s k) (omega (arith, count)) (rw (printed_more before n, e))
            (ap (after separator f) e ∙ ap (λ (g : Fields). after separator g separator) whole ∙ separator_more separator next z rest (omega (arith, count)))

        -- a digit behind a number
        grows_digit : (x : ℕ) → x < 10 → (48 + x ≡ separator → ⊥) → (after separator f (48 + x)).valid ≡ true
            → (eqb n 0 ≡ true) ⊎ (eqb n 0 ≡ false) → (ltb 4294967295 (n * 10 + x) ≡ true) ⊎ (ltb 4294967295 (n * 10 + x) ≡ false)
            → Reads (bytes ++ ((48 + x) ∷ [])) (after separator f (48 + x))
        unfolding field_by
        grows_digit x d q v (inl z) b =
            absurd (refuted f (48 + x) w
            (grown_zero w (48 + x - 48) (omega arith) z ∙ step_digit w separator (48 + x) refl q (omega arith) (omega arith) ∙ to_scan (48 + x)) v)
        grows_digit x d q v (inr z) (inl b) =
            let e : n * 10 + x ≡ n * 10 + (48 + x - 48) = omega arith in
            absurd (refuted f (48 + x) w
            (grown_large w (48 + x - 48) (omega arith) z e (ltb-true 4294967295 (n * 10 + x) b) ∙ step_digit w separator (48 + x) refl q (omega arith) (omega arith) ∙ to_scan (48 + x)) v)
        grows_digit x d q v (inr z) (inr b) =
            let bound = ltb-false 4294967295 (n * 10 + x) b in
            let some = eqb-false n 0 z in
            grows before behind (n * 10 + x) s (omega arith) six
            (append_assoc (printed before) (field_by separator n) ((48 + x) ∷ []) ∙ rw (digits_more n x (omega (arith, some)) d (omega arith)))
            (digit_more separator apart before behind false n x z d (omega arith))

        grows_step : (byte : ℕ) → Byte separator byte → (after separator f byte).valid ≡ true → Reads (bytes ++ (byte ∷ [])) (after separator f byte)
        grows_step byte (divides e) v = grows_divides byte behind refl e v
        grows_step byte (digit x d e q) v =
            rw e (grows_digit x d (λ p. q (e ∙ p)) (rw e at v) (either (eqb n 0)) (either (ltb 4294967295 (n * 10 + x))))
        grows_step byte (foreign i) v = absurd (foreign_refuted f byte i v)

    reads_step : (bytes : List ℕ) (f : Fields) (byte : ℕ) → Reads bytes f → (after separator f byte).valid ≡ true → Reads (bytes ++ (byte ∷ [])) (after separator f byte)
    reads_step bytes f byte (none b e) v = rw (b, e) (none_step byte (byte_of separator byte) (rw e at v))
    reads_step bytes f byte (opened before behind s six b e) v = rw (b, e) (opened_step before behind s six byte (byte_of separator byte) (rw e at v))
    reads_step bytes f byte (grows before behind n s k six b e) v = rw (b, e) (grows_step before behind s six n k byte (byte_of separator byte) (rw e at v))

    reads_all : (bytes : List ℕ) (f : Fields) (rest : List ℕ) → Reads bytes f → (fields_from separator f rest).valid ≡ true → Reads (bytes ++ rest) (fields_from separator f rest)
    unfolding fields_from
    reads_all bytes f [] r v = rw (append-nil bytes) r
    reads_all bytes f (byte ∷ rest) r v = go (either (after separator f byte).valid) (reads_all (bytes ++ (byte ∷ [])) (after separator f byte) rest)
      where
        go : ((after separator f byte).valid ≡ true) ⊎ ((after separator f byte).valid ≡ false)
            → (Reads (bytes ++ (byte ∷ [])) (after separator f byte) → (fields_from separator (after separator f byte) rest).valid ≡ true
            → Reads ((bytes ++ (byte ∷ [])) ++ rest) (fields_from separator (after separator f byte) rest))
            → Reads (bytes ++ (byte ∷ rest)) (fields_from separator (after separator f byte) rest)
        go (inl t) ih = rw append_assoc at (ih (reads_step bytes f byte r t) v)
        go (inr t) ih =
            absurd (clash (after separator f byte).valid
            (ap (λ (g : Fields). g.valid) (sym (invalid_stays separator (after separator f byte) rest t)) ∙ v) t)

  -- valid fields, none of them without a digit: their numbers, and the bytes that were read
  pub record Unspelled (bytes : List ℕ) (f : Fields) : Type 0 where
    pub numbers : List ℕ
    pub behind : List ℕ
    pub fit : small numbers ≡ true
    pub spelled : bytes ≡ flat (map (field_by separator) numbers)
    pub same : f ≡ fields_of numbers behind

  pub unspelled : separator < 48 → (bytes : List ℕ) → (fields_from separator no_field bytes).valid ≡ true → (fields_from separator no_field bytes).empty ≡ false
      → Unspelled bytes (fields_from separator no_field bytes)
  unfolding flat
  unspelled apart bytes v e = go (reads_all apart [] no_field bytes (none refl refl) v)
    where
      go : Reads bytes (fields_from separator no_field bytes) → Unspelled bytes (fields_from separator no_field bytes)
      go (none b q) = record { numbers = []; behind = no_field.numbers; fit = small_none; spelled = b; same = q ∙ none_whole }
      go (opened before behind s six b q) = absurd (clash true refl (sym (with_empty before behind) ∙ ap (λ (g : Fields). g.empty) (sym q) ∙ e))
      go (grows before behind n s k six b q) =
          record { numbers = before ++ (n ∷ []); behind = behind; fit = small_append before n s k; spelled = b ∙ sym (printed_more before n); same = q ∙ grown_whole before n behind }
