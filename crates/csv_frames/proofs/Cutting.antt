-- How a file is cut: bytes of fields are part of their line, CR LF ends it.
use mathlib.Core.Path.{◌≡◌, refl, ap, ◌∙◌}
use mathlib.Core.Logic.{◌⊎◌, inl, inr}
use Prim.Native.Nat.{ℕ}
use native.Mathlib.Omega.{arith}
use mathlib.Core.Bool.{Bool, true, false, ◌&&◌, cond}
use mathlib.Core.List.{List, [], ◌∷◌, ◌++◌, append-nil}
use lib.Dec.{eqb, leb}
use borrow.Author.Tests.{ne_eqb, eqb-true, leb-true}
use Rattle.lists.proofs.Booleans.{either, clash, and_left, and_right, or_cases}
use Rattle.line_fields.specs.declared.Fields.{Fields}
use Rattle.line_fields.specs.Fields.{no_field, one_field, scan_of, fields_by, begun, step, after, fields_from, in_fields, field_bytes}
use Rattle.line_fields.proofs.Invalid.{broken, broken_invalid, after_foreign, invalid_stays}
use Rattle.line_fields.proofs.Spelled.{fields_append}
use Rattle.csv_frames.specs.Lines.{ahead, lines, line_fields, fits}

-- ---- bytes of fields

-- all bytes are of fields with commas
unfoldable pub plain : List ℕ → Bool
plain [] = true
plain (byte ∷ bytes) = in_fields 44 byte && plain bytes

-- such a byte is no CR
pub no_return : (byte : ℕ) → in_fields 44 byte ≡ true → eqb byte 13 ≡ false
unfolding in_fields
no_return byte i = ne_eqb byte 13 (λ e. go (or_cases (eqb byte 44) (leb 48 byte && leb byte 57) i) e)
  where
    go : (eqb byte 44 ≡ true) ⊎ (leb 48 byte && leb byte 57 ≡ true) → byte ≡ 13 → ⊥
    go (inl t) e = omega (arith, eqb-true byte 44 t)
    go (inr t) e = omega (arith, leb-true 48 byte (and_left (leb 48 byte) (leb byte 57) t))

pub front_plain : (bytes : List ℕ) → plain (field_bytes 44 bytes) ≡ true
unfolding plain field_bytes
front_plain [] = refl
front_plain (byte ∷ bytes) = go (either (in_fields 44 byte)) (front_plain bytes)
  where
    go : (in_fields 44 byte ≡ true) ⊎ (in_fields 44 byte ≡ false) → plain (field_bytes 44 bytes) ≡ true → plain (cond (in_fields 44 byte) (byte ∷ field_bytes 44 bytes) []) ≡ true
    go (inl t) r = rw (t, t) r
    go (inr t) r = rw t

-- what stands behind the bytes of fields: nothing, or a byte that is none of fields
pub data Stop (rest : List ℕ) : Type 0 where
  end : rest ≡ [] → Stop rest
  foreign : (byte : ℕ) (bytes : List ℕ) → rest ≡ byte ∷ bytes → in_fields 44 byte ≡ false → Stop rest

pub record Fronted (bytes : List ℕ) : Type 0 where
  pub rest : List ℕ
  pub split : bytes ≡ field_bytes 44 bytes ++ rest
  pub stop : Stop rest

pub fronted : (bytes : List ℕ) → Fronted bytes
unfolding field_bytes
fronted [] = record { rest = []; split = refl; stop = end refl }
fronted (byte ∷ bytes) = go (either (in_fields 44 byte)) (fronted bytes)
  where
    go : (in_fields 44 byte ≡ true) ⊎ (in_fields 44 byte ≡ false) → Fronted bytes → Fronted (byte ∷ bytes)
    go (inl t) r = record { rest = r.rest; split = rw t (ap (λ (l : List ℕ). byte ∷ l) r.split); stop = r.stop }
    go (inr t) r = record { rest = byte ∷ bytes; split = rw t; stop = foreign byte bytes refl t }

-- ---- lines

-- a byte other than CR is part of its line
lines_plain : (byte : ℕ) (bytes : List ℕ) → eqb byte 13 ≡ false → lines (byte ∷ bytes) ≡ ahead byte (lines bytes)
unfolding lines ahead
lines_plain byte [] e = refl
lines_plain byte (next ∷ bytes) e = rw e

-- bytes of fields stand at the front of the line behind them
pub lines_front : (front rest : List ℕ) {l : List ℕ} {ls : List (List ℕ)} → plain front ≡ true → lines rest ≡ l ∷ ls → lines (front ++ rest) ≡ (front ++ l) ∷ ls
unfolding plain ahead
lines_front [] rest p e = e
lines_front (byte ∷ front) rest p e =
    lines_plain byte (front ++ rest) (no_return byte (and_left (in_fields 44 byte) (plain front) p))
    ∙ ap (ahead byte) (lines_front front rest (and_right (in_fields 44 byte) (plain front) p) e)

-- and are a line where nothing stands behind them
pub lines_whole : (byte : ℕ) (front : List ℕ) → plain (byte ∷ front) ≡ true → lines (byte ∷ front) ≡ (byte ∷ front) ∷ []
unfolding plain ahead lines
lines_whole byte [] p = refl
lines_whole byte (next ∷ front) p =
    lines_plain byte (next ∷ front) (no_return byte (and_left (in_fields 44 byte) (plain (next ∷ front)) p))
    ∙ ap (ahead byte) (lines_whole next front (and_right (in_fields 44 byte) (plain (next ∷ front)) p))

-- CR LF ends a line
pub lines_ended : (front rest : List ℕ) → plain front ≡ true → lines (front ++ (13 ∷ 10 ∷ rest)) ≡ front ∷ lines rest
unfolding lines
lines_ended front rest p = lines_front front (13 ∷ 10 ∷ rest) p refl ∙ ap (λ (l : List ℕ). l ∷ lines rest) (append-nil front)

-- ---- fields of lines

-- a line is read from its first field on
pub line_fields_lem : (line : List ℕ) → line_fields line ≡ fields_from 44 one_field line
unfolding line_fields fields_from after step begun scan_of fields_by no_field one_field
line_fields_lem line = refl

-- an empty line does not fit
pub none_misfit : (d : ℕ) → fits d [] ≡ false
unfolding fits fields_from one_field
none_misfit d = rw (line_fields_lem [])

-- a line with a byte that is none of fields does not fit
pub foreign_misfit : (d : ℕ) (front : List ℕ) (byte : ℕ) (rest : List ℕ) → in_fields 44 byte ≡ false → fits d (front ++ (byte ∷ rest)) ≡ false
unfolding fits fields_from
foreign_misfit d front byte rest i =
    let line : List ℕ = front ++ (byte ∷ rest) in
    let wrong : (line_fields line).valid ≡ false =
    ap (λ (f : Fields). f.valid)
    (line_fields_lem line ∙ fields_append 44 one_field front (byte ∷ rest) ∙ behind (fields_from 44 one_field front)) ∙ broken_invalid 44 (fields_from 44 one_field front) in
    rw wrong
  where
    behind : (f : Fields) → fields_from 44 f (byte ∷ rest) ≡ broken f
    behind f = ap (λ (g : Fields). fields_from 44 g rest) (after_foreign 44 f byte i) ∙ invalid_stays 44 (broken f) rest (broken_invalid 44 f)

-- the first line, which begins with this byte, and the lines behind it
pub record Begun (byte : ℕ) (bytes : List ℕ) : Type 0 where
  pub line : List ℕ
  pub behind : List (List ℕ)
  pub same : lines bytes ≡ (byte ∷ line) ∷ behind

ahead_begun : (byte : ℕ) (bytes : List ℕ) (ls : List (List ℕ)) → lines bytes ≡ ahead byte ls → Begun byte bytes
unfolding ahead
ahead_begun byte bytes [] e = record { line = []; behind = []; same = e }
ahead_begun byte bytes (l ∷ ls) e = record { line = l; behind = ls; same = e }

-- CR LF stands at the front
unfoldable pub returns : List ℕ → Bool
returns [] = false
returns (byte ∷ []) = false
returns (byte ∷ next ∷ bytes) = eqb byte 13 && eqb next 10

-- a line that is not ended at its first byte begins with that byte
pub lines_begun : (byte : ℕ) (rest : List ℕ) → returns (byte ∷ rest) ≡ false → Begun byte (byte ∷ rest)
unfolding returns lines
lines_begun byte [] e = record { line = []; behind = []; same = refl }
lines_begun byte (next ∷ rest) e = ahead_begun byte (byte ∷ next ∷ rest) (lines (next ∷ rest)) (rw e)

-- CR LF at the front, and what stands behind it
pub record Returned (bytes : List ℕ) : Type 0 where
  pub rest : List ℕ
  pub same : bytes ≡ 13 ∷ 10 ∷ rest

pub returned : (bytes : List ℕ) → returns bytes ≡ true → Returned bytes
unfolding returns
returned [] e = absurd (clash false e refl)
returned (byte ∷ []) e = absurd (clash false e refl)
returned (byte ∷ next ∷ bytes) e =
    let a = eqb-true byte 13 (and_left (eqb byte 13) (eqb next 10) e) in
    let b = eqb-true next 10 (and_right (eqb byte 13) (eqb next 10) e) in
    record { rest = bytes; same = rw (a, b) }
