-- Laws of a record as one number: its parts fit, and make it up again.
use mathlib.Core.Path.{◌≡◌}
use Prim.Native.Nat.{ℕ, ◌+◌, ◌*◌, ◌/◌, ◌%◌, ◌<◌, ◌^◌}
use native.Mathlib.Omega.{arith}
use Rattle.head.specs.declared.Desk.{Desk}
use Rattle.head.specs.declared.Desk.TheVariants.{One, Two}
use Rattle.head.specs.Desks.{desk_number, desk_unit, record_of, desk_in, watch_of}

-- the desk's part of a record fits a number of 64 bits
pub unit_fits : (desk : ℕ) → desk < 2 ^ 32 → desk * desk_unit < 2 ^ 64
unit_fits desk h = omega arith

-- so does the record
pub record_fits : (desk n : ℕ) → desk < 2 ^ 32 → n < 2 ^ 32 → desk * desk_unit + n < 2 ^ 64
record_fits desk n h k = omega arith

-- the desk and the n of a record fit numbers of 32 bits
pub desk_fits : (w : ℕ) → w < 2 ^ 64 → w / desk_unit < 2 ^ 32
desk_fits w h = omega arith

pub size_fits : (w : ℕ) → w % desk_unit < 2 ^ 32
size_fits w = omega arith

-- they make the record up again
pub made_up : (w : ℕ) → record_of (w / desk_unit) (w % desk_unit) ≡ w
unfolding record_of
made_up w = omega arith

-- a watch is no empty record
pub watch_stands : (desk : Desk) (n : ℕ) → 0 < watch_of desk n
unfolding watch_of record_of
watch_stands One n = omega arith
watch_stands Two n = omega arith

-- an empty record is no desk's
pub desk_stands : (desk : Desk) (w : ℕ) → desk_in w ≡ desk_number desk → 0 < w
unfolding desk_in
desk_stands One w e = omega arith
desk_stands Two w e = omega arith

-- a number of 32 bits is one of 64
pub wide : {n : ℕ} → n < 2 ^ 32 → n < 2 ^ 64
wide h = omega arith
