-- What a line says, without its newline: a message, or none, and its numbers.
use Rattle.std.specs.Prelude.{ℕ, ◌+◌, Bool, ◌&&◌, ◌||◌, not, cond, List, [], ◌∷◌, ltb, eqb, get_or, drop}
use Rattle.refusals.specs.declared.Refusal.TheVariants.{UnknownKind}
use Rattle.frames.specs.declared.Message.{Message}
use Rattle.frames.specs.declared.Message.TheVariants.{Quote, Sized, Pair, Bare, Position, Open, Refused}
use Rattle.frame_kinds.specs.Kinds.{look_kind, watch_kind, unwatch_kind, watch_two_kind, unwatch_two_kind, pair_kind, unpair_kind, past_kind, stamp_kind}
use Rattle.line_fields.specs.declared.Fields.{Fields}
use Rattle.line_notation.specs.declared.Parsed.{Parsed}
use Rattle.line_fields.specs.Fields.{no_field, fields_from}

-- no message
unfoldable pub nothing : Message
nothing = Refused UnknownKind

-- the message of fields that are valid, none of them empty; no message otherwise
abbrev pub whole : Fields → Message → Message
whole f message = cond (not f.valid || f.empty) nothing message

-- three numbers that fit the frame of an opening
unfoldable pub opens : Fields → Bool
opens f =
    ((eqb f.count 3 && ltb (get_or f.numbers 0 0) 256) && ltb (get_or f.numbers 1 0) 65536) && ltb (get_or f.numbers 2 0) 256

-- the opening of three numbers
unfoldable pub opening : Fields → Message
opening f = cond (opens f) (Open (get_or f.numbers 0 0) (get_or f.numbers 1 0) (get_or f.numbers 2 0)) nothing

-- the quote of one to six numbers
unfoldable pub quote_of : Fields → Message
quote_of f = cond (ltb f.count 1) nothing (cond (ltb 6 f.count) nothing (Quote f.count))

-- two numbers that fit two bytes each
unfoldable pub pairs : Fields → Bool
pairs f = (eqb f.count 2 && ltb (get_or f.numbers 0 0) 65536) && ltb (get_or f.numbers 1 0) 65536

-- the message of this kind with two numbers
unfoldable pub pair_of : ℕ → Fields → Message
pair_of kind f = cond (pairs f) (Pair kind (get_or f.numbers 0 0) (get_or f.numbers 1 0)) nothing

-- the message of this kind without numbers
unfoldable pub bare_of : ℕ → Fields → Message
bare_of kind f = cond (eqb f.count 0) (Bare kind) nothing

-- the stamp of a single number
unfoldable pub stamp_of : Fields → Message
stamp_of f = cond (eqb f.count 1) (Position stamp_kind (get_or f.numbers 0 0)) nothing

-- a single number that fits two bytes
unfoldable pub fits : Fields → Bool
fits f = eqb f.count 1 && ltb (get_or f.numbers 0 0) 65536

-- a 2 stands behind the letter of a line, which makes it desk two's
unfoldable pub marked : List ℕ → Bool
marked line = eqb (get_or line 1 0) 50

-- the sign of a line: its letter, with 256 more where a 2 stands behind it
unfoldable pub sign_of : Bool → ℕ → ℕ
sign_of two letter = cond two (letter + 256) letter

-- the message of a sign and a number: L, W, U, W2 or U2
unfoldable pub of_number : ℕ → ℕ → Message
of_number sign n =
    cond (eqb sign 76) (Sized look_kind n)
    (cond (eqb sign 87) (Sized watch_kind n)
    (cond (eqb sign 85) (Sized unwatch_kind n)
    (cond (eqb sign 343) (Sized watch_two_kind n)
    (cond (eqb sign 341) (Sized unwatch_two_kind n) nothing))))

-- the message of this kind with such a number
unfoldable pub number_by : ℕ → Fields → Message
number_by kind f = cond (fits f) (Sized kind (get_or f.numbers 0 0)) nothing

-- the message of a sign and its fields, if they are such a number
unfoldable pub sized_of : ℕ → Fields → Message
sized_of sign f = cond (fits f) (of_number sign (get_or f.numbers 0 0)) nothing

-- the message of a sign and its fields: O, Q, P, B, E, S, L, W, U, W2 or U2
unfoldable pub said : ℕ → Fields → Message
said sign f =
    cond (not f.valid || f.empty) nothing
    (cond (eqb sign 79) (opening f)
    (cond (eqb sign 81) (quote_of f)
    (cond (eqb sign 80) (pair_of past_kind f)
    (cond (eqb sign 66) (pair_of pair_kind f)
    (cond (eqb sign 69) (bare_of unpair_kind f)
    (cond (eqb sign 83) (stamp_of f) (sized_of sign f)))))))

-- what a line says
unfoldable pub said_by : List ℕ → Parsed
said_by [] = record { message = nothing; numbers = no_field.numbers }
said_by (letter ∷ bytes) =
    let two = marked (letter ∷ bytes) in
    let f = fields_from 32 no_field (cond two (drop 1 bytes) bytes) in
    record { message = said (sign_of two letter) f; numbers = f.numbers }
