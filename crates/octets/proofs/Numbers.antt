-- Laws of numbers in bytes: a number that fits is read again from its bytes, and bytes are the bytes of their number.
use Rattle.std.proofs.Common.{◌≡◌, refl, ℕ, ◌+◌, ◌*◌, ◌/◌, ◌%◌, ◌<◌, List, [], ◌∷◌, get_or, arith, rules}
use Rattle.std.proofs.lemmas.Nat.{le_bytes_2, le_bytes_4, from_le_bytes-to_le_bytes_4}
use Rattle.octets.specs.Bytes.{bytes2, bytes4, number2, number4}

-- the two bytes of a number that fits, read again
pub two_bytes : (n : ℕ) → n < 65536 → n % 256 + 256 * (n / 256 % 256) ≡ n
two_bytes n h = omega arith

-- the four bytes of a number that fits, read again
pub four_bytes : (n : ℕ) → n < 4294967296 → n % 256 + 256 * (n / 256 % 256) + 65536 * (n / 65536 % 256) + 16777216 * (n / 16777216 % 256) ≡ n
four_bytes n h = omega (arith, from_le_bytes-to_le_bytes_4 n h)

-- two bytes of a list are the bytes of their number
pub bytes2_again : (l : List ℕ) (at : ℕ) → ((i : ℕ) → get_or l i 0 < 256) → bytes2 (number2 l at) ≡ get_or l at 0 ∷ get_or l (at + 1) 0 ∷ []
unfolding bytes2 number2
bytes2_again l at h = le_bytes_2 (get_or l at 0 ∷ get_or l (at + 1) 0 ∷ []) (number2 l at) refl (search (rules, h)) (omega arith)

-- four bytes of a list are the bytes of their number
pub bytes4_again : (l : List ℕ) (at : ℕ) → ((i : ℕ) → get_or l i 0 < 256)
    → bytes4 (number4 l at) ≡ get_or l at 0 ∷ get_or l (at + 1) 0 ∷ get_or l (at + 2) 0 ∷ get_or l (at + 3) 0 ∷ []
unfolding bytes4 number4
bytes4_again l at h =
    le_bytes_4 (get_or l at 0 ∷ get_or l (at + 1) 0 ∷ get_or l (at + 2) 0 ∷ get_or l (at + 3) 0 ∷ []) (number4 l at) refl (search (rules, h)) (omega arith)
