-- What is printed of numbers with a separator before each is read back: the fields of a line are its numbers.
use mathlib.Core.Path.{◌≡◌, refl, sym, ap, ◌∙◌}
use mathlib.Core.Logic.{◌⊎◌, inl, inr}
use Prim.Native.Nat.{ℕ, zero, suc, ◌+◌, ◌-◌, ◌*◌, ◌/◌, ◌%◌, ◌^◌, ◌≤◌, ◌<◌}
use native.Mathlib.Nat.{pow-suc}
use native.Mathlib.Omega.{arith}
use mathlib.Core.Bool.{Bool, true, false, ◌&&◌, not, cond}
use mathlib.Core.List.{List, [], ◌∷◌, ◌++◌, map, append_assoc, append-nil}
use lib.Dec.{ltb, eqb}
use lib.ListN.{length, set, replicate, length-append}
use lib.Seq.{get_or-append_seam, set_at}
use borrow.Author.Tests.{ltb-true, ltb-false, lt-ltb, ne_eqb}
use Rattle.lists.specs.Lists.{flat}
use Rattle.lists.proofs.Booleans.{either, and_left, and_right}
use Rattle.text.specs.Text.{digits_up_to, digits}
use Rattle.line_fields.specs.declared.Fields.{Fields}
use Rattle.line_fields.specs.declared.Scan.{Scan}
use Rattle.line_fields.specs.Fields.{field_by, small, no_field, scan_of, fields_by, grown, step, after, fields_from}
use Rattle.line_fields.proofs.Steps.{begun_next, grown_next, step_separator, step_digit}

-- the fields with numbers before the last, the last number and what stands behind it
unfoldable pub fields_with : Bool → List ℕ → ℕ → List ℕ → Fields
fields_with empty before number behind = record { valid = true; empty = empty; count = length before + 1; numbers = before ++ (number ∷ behind) }

-- the fields that are these numbers, and what stands behind them
unfoldable pub fields_of : List ℕ → List ℕ → Fields
fields_of numbers behind = record { valid = true; empty = false; count = length numbers; numbers = numbers ++ behind }

-- the place of a scan with numbers before the last, and the last number
abbrev pub scan_with : Bool → List ℕ → ℕ → Scan
scan_with empty before number = record { valid = true; empty = empty; count = length before + 1; number = number }

pub scan_with_lem : (empty : Bool) (before : List ℕ) (number : ℕ) (behind : List ℕ) → scan_of (fields_with empty before number behind) ≡ scan_with empty before number
unfolding scan_of fields_with
scan_with_lem empty before number behind =
    let last : length before + 1 - 1 ≡ length before = omega arith in
    rw (last, get_or-append_seam before number behind 0)

-- the place of the last number is set
seam_set : (before : List ℕ) (x : ℕ) (behind : List ℕ) (y : ℕ) → set (before ++ (x ∷ behind)) (length before + 1 - 1) y ≡ before ++ (y ∷ behind)
seam_set before x behind y =
    let last : length before + 1 - 1 ≡ length before = omega arith in
    ap (λ (i : ℕ). set (before ++ (x ∷ behind)) i y) last ∙ set_at before x behind y (length before) refl

module _ (separator : ℕ) where
  -- bytes behind bytes
  pub fields_append : (f : Fields) (xs ys : List ℕ) → fields_from separator f (xs ++ ys) ≡ fields_from separator (fields_from separator f xs) ys
  unfolding fields_from
  fields_append f [] ys = refl
  fields_append f (x ∷ xs) ys = fields_append (after separator f x) xs ys

  -- the fields by the place of a scan after one more byte
  after_by : (f : Fields) (byte : ℕ) {s : Scan} → s ≡ step separator (scan_of f) byte → after separator f byte ≡ fields_by s (set f.numbers (s.count - 1) s.number)
  unfolding after
  after_by f byte e = rw e

  -- a separator behind whole fields
  pub separator_more : (before : List ℕ) (z : ℕ) (behind : List ℕ) → length before < 6 → after separator (fields_of before (z ∷ behind)) separator ≡ fields_with true before 0 behind
  unfolding fields_of fields_with fields_by scan_of
  separator_more before z behind h =
      let f : Fields = fields_of before (z ∷ behind) in
      after_by f separator (begun_next (scan_of f) refl h ∙ step_separator (scan_of f) separator separator refl refl)
      ∙ ap (λ (l : List ℕ). record { valid = true; empty = true; count = length before + 1; numbers = l }) (seam_set before z behind 0)

  module _ (apart : separator < 48) where
    module _ (before behind : List ℕ) where
      -- a digit behind a number that goes on
      pub digit_more : (empty : Bool) (number digit : ℕ) → not empty && eqb number 0 ≡ false → digit < 10 → number * 10 + digit < 4294967296
          → after separator (fields_with empty before number behind) (48 + digit) ≡ fields_with false before (number * 10 + digit) behind
      unfolding fields_by fields_with
      digit_more empty number digit z d v =
          let f : Fields = fields_with empty before number behind in
          let s : Scan = scan_with empty before number in
          let e : 48 + digit - 48 ≡ digit = omega arith in
          let stepped : scan_with false before (number * 10 + digit) ≡ step separator (scan_of f) (48 + digit) =
          grown_next s digit (omega arith) z {value = number * 10 + digit} refl (omega arith)
          ∙ ap (grown s) (sym e)
          ∙ step_digit s separator (48 + digit) refl (λ q. omega arith) (omega arith) (omega arith)
          ∙ ap (λ (t : Scan). step separator t (48 + digit)) (sym (scan_with_lem empty before number behind)) in
          after_by f (48 + digit) stepped
          ∙ ap (λ (l : List ℕ). record { valid = true; empty = false; count = length before + 1; numbers = l }) (seam_set before number behind (number * 10 + digit))

      -- the digits of a number
      digits_read : (k n : ℕ) → n < 10 ^ suc k → n < 4294967296 → fields_from separator (fields_with true before 0 behind) (digits_up_to (suc k) n) ≡ fields_with false before n behind
      unfolding digits_up_to fields_from
      digits_read zero n b v = rw (lt-ltb n 10 b) (digit_more true 0 n refl b (omega arith) ∙ ap (λ (x : ℕ). fields_with false before x behind) (let e : 0 * 10 + n ≡ n = omega arith in e))
      digits_read (suc k) n b v = go (either (ltb n 10)) (digits_read k (n / 10))
        where
          D : List ℕ
          D = digits_up_to (suc k) (n / 10)

          go : (ltb n 10 ≡ true) ⊎ (ltb n 10 ≡ false)
              → (n / 10 < 10 ^ suc k → n / 10 < 4294967296 → fields_from separator (fields_with true before 0 behind) D ≡ fields_with false before (n / 10) behind)
              → fields_from separator (fields_with true before 0 behind) (cond (ltb n 10) ((48 + n) ∷ []) (D ++ ((48 + n % 10) ∷ []))) ≡ fields_with false before n behind
          go (inl t) r =
              rw t (digit_more true 0 n refl (ltb-true n 10 t) (omega arith) ∙ ap (λ (x : ℕ). fields_with false before x behind) (let e : 0 * 10 + n ≡ n = omega arith in e))
          go (inr t) r =
              let large : 10 ≤ n = ltb-false n 10 t in
              let c : n < 10 ^ suc k * 10 = rw (pow-suc 10 (suc k)) at b in
              let e : n / 10 * 10 + n % 10 ≡ n = omega arith in
              rw t
              (fields_append (fields_with true before 0 behind) D ((48 + n % 10) ∷ [])
              ∙ ap (λ (f : Fields). after separator f (48 + n % 10)) (r (omega arith) (omega arith))
              ∙ digit_more false (n / 10) (n % 10) (ne_eqb (n / 10) 0 (λ z. omega arith)) (omega arith) (omega arith)
              ∙ ap (λ (x : ℕ). fields_with false before x behind) e)

    -- one more field
    field_read : (before behind : List ℕ) (n : ℕ) → length before < 6 → n < 4294967296
        → fields_from separator (fields_of before (0 ∷ behind)) (field_by separator n) ≡ fields_of (before ++ (n ∷ [])) behind
    unfolding fields_of fields_with field_by digits fields_from
    field_read before behind n h v =
        ap (λ (g : Fields). fields_from separator g (digits_up_to 10 n)) (separator_more before 0 behind h)
        ∙ digits_read before behind 9 n (omega arith) v
        ∙ rw (length-append before (n ∷ []), append_assoc before (n ∷ []) behind)

    -- all fields of a line
    pub fields_read : (before ns behind : List ℕ) → length before + length ns ≤ 6 → small ns ≡ true
        → fields_from separator (fields_of before (replicate (length ns) 0 ++ behind)) (flat (map (field_by separator) ns)) ≡ fields_of (before ++ ns) behind
    unfolding fields_from flat small
    fields_read before [] behind h s = ap (λ (l : List ℕ). fields_of l behind) (sym (append-nil before))
    fields_read before (n ∷ ns) behind h s =
        let next : List ℕ = before ++ (n ∷ []) in
        let long : length next ≡ length before + 1 = length-append before (n ∷ []) in
        fields_append (fields_of before (0 ∷ (replicate (length ns) 0 ++ behind))) (field_by separator n) (flat (map (field_by separator) ns))
        ∙ ap (λ (f : Fields). fields_from separator f (flat (map (field_by separator) ns)))
        (field_read before (replicate (length ns) 0 ++ behind) n (omega arith) (ltb-true n 4294967296 (and_left (ltb n 4294967296) (small ns) s)))
        ∙ fields_read next ns behind (omega (arith, long)) (and_right (ltb n 4294967296) (small ns) s)
        ∙ ap (λ (l : List ℕ). fields_of l behind) (append_assoc before (n ∷ []) ns)

    -- the fields of a line are its numbers
    pub all_read : (ns behind : List ℕ) → replicate (length ns) 0 ++ behind ≡ no_field.numbers → length ns ≤ 6 → small ns ≡ true
        → fields_from separator no_field (flat (map (field_by separator) ns)) ≡ fields_of ns behind
    unfolding no_field fields_of
    all_read ns behind e h s =
        ap (λ (l : List ℕ). fields_from separator (fields_of [] l) (flat (map (field_by separator) ns))) (sym e) ∙ fields_read [] ns behind (omega arith) s
