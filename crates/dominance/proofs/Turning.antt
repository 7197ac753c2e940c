-- Values with the bits of a mask turned: their order is that of the direction.
use mathlib.Core.Path.{◌≡◌, ◌∙◌}
use Prim.Native.Nat.{ℕ, ◌+◌, ◌*◌, ◌<◌}
use native.Mathlib.Nat.{mod-eq_of_lt}
use native.Mathlib.Decide.{dec_lt}
use native.Mathlib.Omega.{arith}
use mathlib.Core.Bool.{Bool, true, false}
use lib.Bits.{bit_and, bit_xor, xor_zero_r, xor_add_and, and_mask}
use lib.Dec.{ltb}
use borrow.Author.Tests.{lt-ltb, le-ltb}
use Rattle.dominance.specs.Dominance.{better}
use Rattle.dominance.specs.Turned.{mask}

-- a value with all its bits turned is what it lacks of the largest
turned_all : (x : ℕ) → x < 4294967296 → bit_xor x 4294967295 + x ≡ 4294967295
turned_all x h =
    let same : bit_and x 4294967295 ≡ x = and_mask x 32 ∙ mod-eq_of_lt h in
    let sum : bit_xor x 4294967295 + x * 2 ≡ x + 4294967295 = rw same at (xor_add_and x 4294967295) in
    omega arith

-- of turned values the larger was the lower
order_turned : (x y : ℕ) → x < 4294967296 → y < 4294967296 → ltb (bit_xor x 4294967295) (bit_xor y 4294967295) ≡ ltb y x
order_turned x y h k = go (dec_lt y x)
  where
    go : Dec (y < x) → ltb (bit_xor x 4294967295) (bit_xor y 4294967295) ≡ ltb y x
    go (yes l) = rw (lt-ltb y x l) (lt-ltb (bit_xor x 4294967295) (bit_xor y 4294967295) (omega (arith, turned_all x h, turned_all y k)))
    go (no n) = rw (le-ltb y x (omega arith)) (le-ltb (bit_xor x 4294967295) (bit_xor y 4294967295) (omega (arith, turned_all x h, turned_all y k)))

-- of values with the bits of a direction's mask turned, the lower is the better
pub turned_better : (higher : Bool) (x y : ℕ) → x < 4294967296 → y < 4294967296 → ltb (bit_xor x (mask higher)) (bit_xor y (mask higher)) ≡ better higher x y
unfolding better mask
turned_better true x y h k = order_turned x y h k
turned_better false x y h k = rw (xor_zero_r x, xor_zero_r y)
