-- The two desks of a book (02, 6/13), and a watch record as one number.
use Rattle.std.specs.Prelude.{ℕ, ◌+◌, ◌*◌, ◌/◌, ◌%◌}
use Rattle.head.specs.declared.Desk.{Desk}
use Rattle.head.specs.declared.Desk.TheVariants.{One, Two}

-- how many records of the watch list are a book's; those past them are neither judged nor touched
abbrev pub record_count : ℕ
record_count = 8

-- the number of a desk, as a record has it
abbrev pub desk_number : Desk → ℕ
desk_number One = 1
desk_number Two = 2

-- what a desk counts for in the number of a record: above every n
abbrev pub desk_unit : ℕ
desk_unit = 4294967296

-- a record with this desk and this n, as one number; an empty one is 0, and numbers that rise are desk one's watches, rising by n, then desk
-- two's
unfoldable pub record_of : ℕ → ℕ → ℕ
record_of desk n = desk * desk_unit + n

-- the desk of a record
unfoldable pub desk_in : ℕ → ℕ
desk_in w = w / desk_unit

-- the n of a record
unfoldable pub size_in : ℕ → ℕ
size_in w = w % desk_unit

-- the record of a desk's watch of n
unfoldable pub watch_of : Desk → ℕ → ℕ
watch_of desk n = record_of (desk_number desk) n
