-- What text prints of numbers is read back: the fields of a line are its numbers.
use mathlib.Core.Path.{◌≡◌, refl, ap, ◌∙◌}
use Prim.Native.Nat.{ℕ, ◌+◌, ◌≤◌, ◌<◌}
use native.Mathlib.Omega.{arith}
use mathlib.Core.Bool.{true, false}
use mathlib.Core.List.{List, [], ◌∷◌, ◌++◌, map}
use lib.ListN.{length, replicate}
use borrow.Author.Tests.{lt-ltb, le-ltb}
use Rattle.lists.specs.Lists.{flat}
use Rattle.text.specs.Text.{field, line, line2}
use Rattle.frames.specs.declared.Message.TheVariants.{Quote, Sized, Pair, Bare, Position, Open}
use Rattle.frame_kinds.specs.Kinds.{look_kind, watch_kind, unwatch_kind, watch_two_kind, unwatch_two_kind, pair_kind, unpair_kind, past_kind, stamp_kind}
use Rattle.line_fields.specs.declared.Fields.{Fields}
use Rattle.line_fields.specs.Fields.{field_by, small, no_field, fields_from}
use Rattle.line_fields.proofs.Spelled.{fields_of, all_read}
use Rattle.line_notation.specs.declared.Parsed.{Parsed}
use Rattle.line_notation.specs.Lines.{opens, opening, quote_of, pairs, pair_of, bare_of, stamp_of, fits, of_number, sized_of, said, marked, sign_of, said_by}

-- text prints a field with a space before its number
field_by_lem : (ns : List ℕ) → flat (map field ns) ≡ flat (map (field_by 32) ns)
unfolding field field_by
field_by_lem ns = refl

-- ---- lines

-- a line without its newline, as text prints it
unfoldable pub spelled : ℕ → List ℕ → List ℕ
spelled letter numbers = letter ∷ flat (map field numbers)

-- what text prints is that line and a newline
pub line_spelled : (letter : ℕ) (numbers : List ℕ) → line letter numbers ≡ spelled letter numbers ++ (10 ∷ [])
unfolding line spelled
line_spelled letter numbers = refl

-- so it is of a line with a 2 behind its letter
unfoldable pub spelled_two : ℕ → List ℕ → List ℕ
spelled_two letter numbers = letter ∷ spelled 50 numbers

pub line_spelled_two : (letter : ℕ) (numbers : List ℕ) → line2 letter 50 numbers ≡ spelled_two letter numbers ++ (10 ∷ [])
unfolding line2 line spelled spelled_two
line_spelled_two letter numbers = refl

-- fields begin with a space: no 2 stands before them
unmarked : (letter : ℕ) (ns : List ℕ) → marked (letter ∷ flat (map field ns)) ≡ false
unfolding marked flat field
unmarked letter [] = refl
unmarked letter (n ∷ ns) = refl

-- its fields are its numbers
numbers_read : (ns behind : List ℕ) → replicate (length ns) 0 ++ behind ≡ no_field.numbers → length ns ≤ 6 → small ns ≡ true → fields_from 32 no_field (flat (map field ns)) ≡ fields_of ns behind
numbers_read ns behind e h s = ap (fields_from 32 no_field) (field_by_lem ns) ∙ all_read 32 (omega arith) ns behind e h s

-- a line of one to six numbers is read as its letter and those numbers
line_read : (letter : ℕ) (ns behind : List ℕ) → replicate (length ns) 0 ++ behind ≡ no_field.numbers → length ns ≤ 6 → small ns ≡ true
    → said_by (spelled letter ns) ≡ record { message = said letter (fields_of ns behind); numbers = ns ++ behind }
unfolding said_by spelled sign_of fields_of
line_read letter ns behind e h s = rw (unmarked letter ns) (ap (λ (f : Fields). record { message = said letter f; numbers = f.numbers }) (numbers_read ns behind e h s))

-- so is one of desk two
line_read_two : (letter : ℕ) (ns behind : List ℕ) → replicate (length ns) 0 ++ behind ≡ no_field.numbers → length ns ≤ 6 → small ns ≡ true
    → said_by (spelled_two letter ns) ≡ record { message = said (letter + 256) (fields_of ns behind); numbers = ns ++ behind }
unfolding said_by spelled_two spelled marked sign_of fields_of
line_read_two letter ns behind e h s = ap (λ (f : Fields). record { message = said (letter + 256) f; numbers = f.numbers }) (numbers_read ns behind e h s)

module _ (n : ℕ) (h : n < 65536) where
  one_small : small (n ∷ []) ≡ true
  unfolding small
  one_small = rw (lt-ltb n 4294967296 (omega arith))

  zeros : List ℕ
  zeros = 0 ∷ 0 ∷ 0 ∷ 0 ∷ 0 ∷ []

  -- the lines of a look, a watch and the end of a watch are read back
  pub look_read : (said_by (spelled 76 (n ∷ []))).message ≡ Sized look_kind n
  unfolding no_field said sized_of fields_of fits of_number zeros
  look_read = ap (λ (s : Parsed). s.message) (line_read 76 (n ∷ []) zeros refl (omega arith) one_small) ∙ rw (lt-ltb n 65536 h)

  pub watch_read : (said_by (spelled 87 (n ∷ []))).message ≡ Sized watch_kind n
  unfolding no_field said sized_of fields_of fits of_number zeros
  watch_read = ap (λ (s : Parsed). s.message) (line_read 87 (n ∷ []) zeros refl (omega arith) one_small) ∙ rw (lt-ltb n 65536 h)

  pub end_read : (said_by (spelled 85 (n ∷ []))).message ≡ Sized unwatch_kind n
  unfolding no_field said sized_of fields_of fits of_number zeros
  end_read = ap (λ (s : Parsed). s.message) (line_read 85 (n ∷ []) zeros refl (omega arith) one_small) ∙ rw (lt-ltb n 65536 h)

  -- so are desk two's
  pub watch_two_read : (said_by (spelled_two 87 (n ∷ []))).message ≡ Sized watch_two_kind n
  unfolding no_field said sized_of fields_of fits of_number zeros
  watch_two_read = ap (λ (s : Parsed). s.message) (line_read_two 87 (n ∷ []) zeros refl (omega arith) one_small) ∙ rw (lt-ltb n 65536 h)

  pub end_two_read : (said_by (spelled_two 85 (n ∷ []))).message ≡ Sized unwatch_two_kind n
  unfolding no_field said sized_of fields_of fits of_number zeros
  end_two_read = ap (λ (s : Parsed). s.message) (line_read_two 85 (n ∷ []) zeros refl (omega arith) one_small) ∙ rw (lt-ltb n 65536 h)

-- the line of an opening is read back
pub opening_read : (d N directions : ℕ) → d < 256 → N < 65536 → directions < 256 → (said_by (spelled 79 (d ∷ N ∷ directions ∷ []))).message ≡ Open d N directions
unfolding no_field said fields_of opening opens small
opening_read d N directions h k j =
    ap (λ (s : Parsed). s.message)
    (line_read 79 (d ∷ N ∷ directions ∷ []) (0 ∷ 0 ∷ 0 ∷ []) refl (omega arith)
    (rw (lt-ltb d 4294967296 (omega arith), lt-ltb N 4294967296 (omega arith), lt-ltb directions 4294967296 (omega arith))))
    ∙ rw (lt-ltb d 256 h, lt-ltb N 65536 k, lt-ltb directions 256 j)

-- the lines of a past look and of the pair are read back
module _ (n1 n2 : ℕ) (h : n1 < 65536) (k : n2 < 65536) where
  two_read : (letter : ℕ) → (said_by (spelled letter (n1 ∷ n2 ∷ []))).message ≡ said letter (fields_of (n1 ∷ n2 ∷ []) (0 ∷ 0 ∷ 0 ∷ 0 ∷ []))
  unfolding no_field small
  two_read letter =
      ap (λ (s : Parsed). s.message)
      (line_read letter (n1 ∷ n2 ∷ []) (0 ∷ 0 ∷ 0 ∷ 0 ∷ []) refl (omega arith)
      (rw (lt-ltb n1 4294967296 (omega arith), lt-ltb n2 4294967296 (omega arith))))

  pub past_read : (said_by (spelled 80 (n1 ∷ n2 ∷ []))).message ≡ Pair past_kind n1 n2
  unfolding said fields_of pair_of pairs
  past_read = two_read 80 ∙ rw (lt-ltb n1 65536 h, lt-ltb n2 65536 k)

  pub pair_read : (said_by (spelled 66 (n1 ∷ n2 ∷ []))).message ≡ Pair pair_kind n1 n2
  unfolding said fields_of pair_of pairs
  pair_read = two_read 66 ∙ rw (lt-ltb n1 65536 h, lt-ltb n2 65536 k)

-- the line of a stamp is read back
pub stamp_read : (ms : ℕ) → ms < 4294967296 → (said_by (spelled 83 (ms ∷ []))).message ≡ Position stamp_kind ms
unfolding no_field said stamp_of fields_of small
stamp_read ms h = ap (λ (s : Parsed). s.message) (line_read 83 (ms ∷ []) (0 ∷ 0 ∷ 0 ∷ 0 ∷ 0 ∷ []) refl (omega arith) (rw (lt-ltb ms 4294967296 h)))

-- the line of the end of the pair, a letter alone, is read back
pub unpair_read : (said_by (spelled 69 [])).message ≡ Bare unpair_kind
unfolding said_by spelled flat fields_from no_field said bare_of marked sign_of
unpair_read = refl

-- the line of a quote is read back, with its columns
pub quote_read : (columns behind : List ℕ) → replicate (length columns) 0 ++ behind ≡ no_field.numbers → 1 ≤ length columns → length columns ≤ 6 → small columns ≡ true
    → said_by (spelled 81 columns) ≡ record { message = Quote (length columns); numbers = columns ++ behind }
unfolding said fields_of quote_of
quote_read columns behind e h k s = line_read 81 columns behind e k s ∙ rw (le-ltb (length columns) 1 h, le-ltb 6 (length columns) k)
