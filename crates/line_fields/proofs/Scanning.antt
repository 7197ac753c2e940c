-- The turns of the loop over the bytes of fields, and of that over the bytes of a line.
use mathlib.Core.Path.{◌≡◌, refl, sym, ap, ◌∙◌}
use Prim.Native.Nat.{ℕ, suc, ◌+◌, ◌-◌, ◌≤◌, ◌<◌}
use native.Mathlib.Omega.{arith}
use native.Mathlib.Numerals.{add-one}
use mathlib.Core.Bool.{Bool, true, false, not, cond}
use mathlib.Core.List.{List, [], ◌∷◌}
use lib.Dec.{eqb}
use Rattle.std.specs.Prelude.{◌==◌, position}
use Rattle.std.specs.Option.{unwrap_or}
use Rattle.std.proofs.lemmas.Grind.{common_steps}
use Rattle.std.specs.List.{position_or_len}
use Rattle.std.proofs.lemmas.List.Sums.{prefix_len-le-length}
use Rattle.std.proofs.lemmas.List.Recursion.{is_position_or_len}
use lib.ListN.{length, get_or, set, drop, length-set, length-drop, drop_of_length-le}
use lib.Seq.{drop-cons, get_or-set_same}
use Rattle.line_fields.specs.declared.Fields.{Fields}
use Rattle.line_fields.specs.declared.Scan.{Scan}
use Rattle.line_fields.specs.declared.Scanned.{Scanned}
use Rattle.line_fields.specs.Fields.{no_field, one_field, scan_of, fields_by, step, after, fields_from, in_fields, field_bytes, fields_at, line_length}
use Rattle.line_fields.proofs.Steps.{step_few}

-- where the loop over the bytes of fields stands: the number of the scan is the last, and what is read of the bytes behind stays the same
pub record Scanning (separator : ℕ) (whole : Scanned) (text : List ℕ) (scan : Scan) (numbers : List ℕ) (at : ℕ) : Type 0 where
  pub few : scan.count ≤ 6
  pub six : length numbers ≡ 6
  pub last : get_or numbers (scan.count - 1) 0 ≡ scan.number
  pub fields : whole.fields ≡ fields_from separator (fields_by scan numbers) (field_bytes separator (drop at text))
  pub end : whole.end ≡ at + length (field_bytes separator (drop at text))

pub scanning_start : (separator : ℕ) (first : Bool) (text : List ℕ) (place : ℕ) {scan : Scan} → scan ≡ scan_of (cond first one_field no_field)
    → Scanning separator (fields_at separator first text place) text scan (0 ∷ 0 ∷ 0 ∷ 0 ∷ 0 ∷ 0 ∷ []) place
unfolding fields_at scan_of fields_by one_field no_field
scanning_start separator true text place e = rw e (record { few = omega arith; six = refl; last = refl; fields = refl; end = refl })
scanning_start separator false text place e = rw e (record { few = omega arith; six = refl; last = refl; fields = refl; end = refl })

ended : {w : Scanned} {f : Fields} {e : ℕ} → w.fields ≡ f → w.end ≡ e → w ≡ record { fields = f; end = e }
ended p q = rw (← p, ← q)

module _ {separator : ℕ} {whole : Scanned} {text : List ℕ} {scan : Scan} {numbers : List ℕ} {at : ℕ} (v : Scanning separator whole text scan numbers at) where
  -- the place of the scan is that of the fields read
  same_scan : scan_of (fields_by scan numbers) ≡ scan
  unfolding scan_of fields_by
  same_scan = rw v.last

  same_after : (byte : ℕ) → after separator (fields_by scan numbers) byte ≡ fields_by (step separator scan byte) (set numbers ((step separator scan byte).count - 1) (step separator scan byte).number)
  unfolding after fields_by
  same_after byte = ap (λ (s : Scan). let t = step separator s byte in fields_by t (set numbers (t.count - 1) t.number)) same_scan

  module _ (h : at < length text) where
    -- one more byte of fields
    pub scanning_more : {next : Scan} → next ≡ step separator scan (get_or text at 0) → in_fields separator (get_or text at 0) ≡ true
        → Scanning separator whole text next (set numbers (next.count - 1) next.number) (at + 1)
    unfolding fields_from field_bytes
    scanning_more {next} e i =
        let byte = get_or text at 0 in
        let few : next.count ≤ 6 = rw e (step_few scan v.few separator byte) in
        let bytes : field_bytes separator (drop at text) ≡ byte ∷ field_bytes separator (drop (suc at) text) = ap (field_bytes separator) (drop-cons text at 0 h) ∙ rw i in
        let place : next.count - 1 < length numbers = let s = v.six in omega arith in
        record {
          few = few;
          six = length-set numbers (next.count - 1) next.number ∙ v.six;
          last = get_or-set_same numbers (next.count - 1) next.number 0 place;
          fields =
              rw (add-one, e)
              (v.fields ∙ ap (fields_from separator (fields_by scan numbers)) bytes
              ∙ ap (λ (f : Fields). fields_from separator f (field_bytes separator (drop (suc at) text))) (same_after byte));
          end = rw add-one (v.end ∙ ap (λ (l : List ℕ). at + length l) bytes ∙ omega arith);
        }

    -- a byte that is none of fields
    pub scanning_stop : in_fields separator (get_or text at 0) ≡ false → record { fields = fields_by scan numbers; end = at } ≡ whole
    unfolding fields_from field_bytes
    scanning_stop i =
        let bytes : field_bytes separator (drop at text) ≡ [] = ap (field_bytes separator) (drop-cons text at 0 h) ∙ rw i in
        sym (ended (v.fields ∙ rw bytes) (v.end ∙ rw bytes (omega arith)))

  -- the end of the text
  pub scanning_end : length text ≤ at → record { fields = fields_by scan numbers; end = at } ≡ whole
  unfolding fields_from field_bytes
  scanning_end h =
      let bytes : field_bytes separator (drop at text) ≡ [] = ap (field_bytes separator) (drop_of_length-le text h) in
      sym (ended (v.fields ∙ rw bytes) (v.end ∙ rw bytes (omega arith)))

-- ---- the end of a line

-- a line ends at its first newline
line_position : (line : List ℕ) → line_length line ≡ position_or_len (λ (byte : ℕ). byte == 10) line
unfolding line_length
line_position line = is_position_or_len line_length (λ (byte : ℕ). byte == 10) refl one line
  where
    one : (byte : ℕ) (bytes : List ℕ) → line_length (byte ∷ bytes) ≡ cond (byte == 10) 0 (1 + line_length bytes)
    one byte bytes = ap (cond (byte == 10) 0) (let e : suc (line_length bytes) ≡ 1 + line_length bytes = omega arith in e)

-- the place of its first newline, or its length
pub line_found : (line : List ℕ) → line_length line ≡ unwrap_or (position (λ (byte : ℕ). byte == 10) line) (length line)
line_found line = line_position line ∙ grind (arith, common_steps, prefix_len-le-length (λ (byte : ℕ). not (byte == 10)) line)

-- no line begins behind the text
pub line_none : (text : List ℕ) (place : ℕ) → length text ≤ place → line_length (drop place text) ≡ 0
unfolding line_length
line_none text place h = ap line_length (drop_of_length-le text h)

-- a line ends within the text
pub line_inside : (text : List ℕ) → line_length text ≤ length text
unfolding line_length
line_inside [] = omega arith
line_inside (byte ∷ bytes) = go (eqb byte 10) (line_inside bytes)
  where
    go : (b : Bool) → line_length bytes ≤ length bytes → cond b 0 (suc (line_length bytes)) ≤ suc (length bytes)
    go true h = omega arith
    go false h = omega arith

pub end_inside : (text : List ℕ) (place : ℕ) → place ≤ length text → place + line_length (drop place text) ≤ length text
end_inside text place h = omega (arith, line_inside (drop place text), length-drop place text)
