-- The mask by which the bits of a column's values are turned, so that the lower of two is the better whatever the direction.
use Rattle.std.specs.Prelude.{ℕ, Bool, true, false}

-- every bit of a value where higher is better, none where lower is
unfoldable pub mask : Bool → ℕ
mask true = 4294967295
mask false = 0
