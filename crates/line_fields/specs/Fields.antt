-- The length of a line; and decimal fields with a separator before each, read byte by byte: what they are before the first, and after one
-- more byte.
use Rattle.std.specs.Prelude.{ℕ, suc, ◌+◌, ◌-◌, ◌*◌, Bool, true, false, ◌&&◌, ◌||◌, not, cond, List, [], ◌∷◌, ltb, leb, eqb, Option, Some, None, length, get_or, set, drop}
use Rattle.text.specs.Text.{digits}
use Rattle.line_fields.specs.declared.Fields.{Fields}
use Rattle.line_fields.specs.declared.Scan.{Scan}
use Rattle.line_fields.specs.declared.Scanned.{Scanned}

-- a separator and a number in decimal
unfoldable pub field_by : ℕ → ℕ → List ℕ
field_by separator n = separator ∷ digits n

-- numbers below 2^32
unfoldable pub small : List ℕ → Bool
small [] = true
small (n ∷ ns) = ltb n 4294967296 && small ns

-- before the first field
unfoldable pub no_field : Fields
no_field = record { valid = true; empty = false; count = 0; numbers = 0 ∷ 0 ∷ 0 ∷ 0 ∷ 0 ∷ 0 ∷ [] }

-- the first field is begun, as behind a separator
unfoldable pub one_field : Fields
one_field = record { valid = true; empty = true; count = 1; numbers = 0 ∷ 0 ∷ 0 ∷ 0 ∷ 0 ∷ 0 ∷ [] }

-- the same place of a scan, no longer valid
unfoldable pub invalid : Scan → Scan
invalid s = record { valid = false; empty = s.empty; count = s.count; number = s.number }

-- after a separator: one more field is begun, unless the last has no digit or six are begun
unfoldable pub begun : Scan → Scan
begun s =
    cond s.empty (invalid s)
    (cond (leb 6 s.count) (invalid s)
    (record { valid = true; empty = true; count = s.count + 1; number = 0 }))

-- after a digit: the last number goes on, unless no field is begun, the number is a zero, or it would reach 2^32
unfoldable pub grown : Scan → ℕ → Scan
grown s digit =
    let value = s.number * 10 + digit in
    cond (ltb s.count 1) (invalid s)
    (cond (not s.empty && eqb s.number 0) (invalid s)
    (cond (ltb 4294967295 value) (invalid s)
    (record { valid = true; empty = false; count = s.count; number = value })))

-- after one more byte: a separator, or a digit; any other is invalid, and what is invalid stays so
unfoldable pub step : ℕ → Scan → ℕ → Scan
step separator s byte =
    cond (not s.valid) s
    (cond (eqb byte separator) (begun s)
    (cond (ltb byte 48) (invalid s)
    (cond (ltb 57 byte) (invalid s) (grown s (byte - 48)))))

-- the place of a scan that has read these fields: the last of their numbers goes on
unfoldable pub scan_of : Fields → Scan
scan_of f = record { valid = f.valid; empty = f.empty; count = f.count; number = get_or f.numbers (f.count - 1) 0 }

-- the fields read at a place of a scan, with these numbers
unfoldable pub fields_by : Scan → List ℕ → Fields
fields_by s numbers = record { valid = s.valid; empty = s.empty; count = s.count; numbers = numbers }

-- the fields after one more byte
unfoldable pub after : ℕ → Fields → ℕ → Fields
after separator f byte =
    let s = step separator (scan_of f) byte in
    fields_by s (set f.numbers (s.count - 1) s.number)

-- after all these bytes
unfoldable pub fields_from : ℕ → Fields → List ℕ → Fields
fields_from separator f [] = f
fields_from separator f (byte ∷ bytes) = fields_from separator (after separator f byte) bytes

-- the numbers of fields, with zeros behind them, where these are so many
abbrev pub numbers_if : Fields → ℕ → Option (List ℕ)
numbers_if f count = cond ((f.valid && not f.empty) && eqb f.count count) (Some f.numbers) None

-- a byte of fields: a separator or a digit
unfoldable pub in_fields : ℕ → ℕ → Bool
in_fields separator byte = eqb byte separator || (leb 48 byte && leb byte 57)

-- the bytes before the first that is none of fields
unfoldable pub field_bytes : ℕ → List ℕ → List ℕ
field_bytes separator [] = []
field_bytes separator (byte ∷ bytes) = cond (in_fields separator byte) (byte ∷ field_bytes separator bytes) []

-- what is read from a place of a text on, with the first field begun or none: the fields, and where they end
unfoldable pub fields_at : ℕ → Bool → List ℕ → ℕ → Scanned
fields_at separator first text place =
    let bytes = field_bytes separator (drop place text) in
    record { fields = fields_from separator (cond first one_field no_field) bytes; end = place + length bytes }

-- how many bytes a line has before its newline
unfoldable pub line_length : List ℕ → ℕ
line_length [] = 0
line_length (byte ∷ bytes) = cond (eqb byte 10) 0 (suc (line_length bytes))
