-- The watch records of a book as numbers: what is read off them, and what they hold once numbers are stored.
use Rattle.std.specs.Prelude.{ℕ, ◌/◌, ◌%◌, List, ◌++◌, map, length, take, replicate}
use Rattle.lists.specs.Lists.{laid}
use Rattle.head.specs.declared.Watch.{Watch}
use Rattle.head.specs.Desks.{desk_unit, record_of}

-- a record as one number
abbrev pub record_number : Watch → ℕ
record_number r = record_of r.desk r.n

-- the record that a number stands for
abbrev pub record_at : ℕ → Watch
record_at w = record { n = w % desk_unit; desk = w / desk_unit }

-- the number of each record
unfoldable pub watched : List Watch → List ℕ
watched records = map record_number records

-- the first eight numbers, with 0 where there is none
unfoldable pub first_eight : List ℕ → List ℕ
first_eight ws = take 8 (ws ++ replicate 8 0)

-- the numbers laid over the first records, as far as there are records
unfoldable pub stored : List ℕ → List ℕ → List ℕ
stored watches before = take (length before) (laid watches before)
