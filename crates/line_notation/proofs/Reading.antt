-- What a line says, case by case.
use Rattle.std.specs.Int.{from_bool}
use mathlib.Core.Path.{◌≡◌, refl}
use Prim.Native.Nat.{ℕ, ◌+◌, ◌≤◌, ◌<◌}
use native.Mathlib.Omega.{arith}
use mathlib.Core.Bool.{Bool, true, false, not, cond}
use mathlib.Core.List.{List, [], ◌∷◌}
use lib.Dec.{ltb}
use lib.ListN.{length, get_or, drop}
use borrow.Author.Tests.{ltb-false}
use Rattle.refusals.specs.Refusals.{first_of, granted}
use Rattle.frames.specs.Frames.{framed, frame}
use Rattle.frame_writer.specs.Writing.{write_answer, count_of, Wrote}
use Rattle.refusals.specs.declared.Refusal.{Refusal}
use Rattle.std.specs.Prelude.{Result}
use Rattle.frames.specs.declared.Message.{Message}
use Rattle.line_fields.specs.declared.Fields.{Fields}
use Rattle.line_fields.specs.Fields.{no_field, fields_from}
use Rattle.line_notation.specs.Lines.{nothing, said, marked, sign_of, said_by}

-- ---- a whole line

-- an empty line
pub read_none : (line : List ℕ) → length line ≤ 0 → record { message = nothing; numbers = no_field.numbers } ≡ said_by line
unfolding said_by
read_none [] h = refl
read_none (letter ∷ bytes) h = absurd (omega arith)

-- the fields of a line begin behind its sign
behind_sign : (two : Bool) (letter : ℕ) (bytes : List ℕ) → drop (1 + from_bool two) (letter ∷ bytes) ≡ cond two (drop 1 bytes) bytes
behind_sign true letter bytes = refl
behind_sign false letter bytes = refl

-- a line with its sign
pub read_some : (line : List ℕ) {letter : ℕ} {two : Bool} {f : Fields} {m : Message} → 0 < length line → letter ≡ get_or line 0 0 → two ≡ marked line
    → f ≡ fields_from 32 no_field (drop (1 + from_bool two) line) → m ≡ said (sign_of two letter) f → record { message = m; numbers = f.numbers } ≡ said_by line
unfolding said_by
read_some [] h l t e s = absurd (omega arith)
read_some (letter ∷ bytes) h l t e s = rw (s, e, l, behind_sign, t)

-- ---- what callers need

-- the frame that was written fits the output
pub wrote_fits : {m : Message} {numbers before after : List ℕ} {r : Result ℕ Refusal} → Wrote m numbers before r after → count_of r ≤ length before
unfolding write_answer first_of granted
wrote_fits {m} {numbers} {before} w = rw w.count (go (not (framed m)) (ltb (length before) size) (ltb-false (length before) size))
  where
    size : ℕ
    size = length (frame m numbers)

    go : (a b : Bool) → (b ≡ false → size ≤ length before) → granted (cond a 1 (cond b 13 0)) size 0 ≤ length before
    go true b h = omega arith
    go false true h = omega arith
    go false false h = h refl
