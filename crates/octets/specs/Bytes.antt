-- Little-endian numbers, as bytes and read back from a tape.
use Rattle.std.specs.Prelude.{ℕ, ◌+◌, ◌*◌, ◌/◌, ◌%◌, List, [], ◌∷◌, get_or}

-- the two bytes of a number below 65,536
unfoldable pub bytes2 : ℕ → List ℕ
bytes2 n = n % 256 ∷ n / 256 % 256 ∷ []

-- the four bytes of a number below 4,294,967,296
unfoldable pub bytes4 : ℕ → List ℕ
bytes4 n = n % 256 ∷ n / 256 % 256 ∷ n / 65536 % 256 ∷ n / 16777216 % 256 ∷ []

-- the number in the two bytes from a place on
unfoldable pub number2 : List ℕ → ℕ → ℕ
number2 tape at = get_or tape at 0 + 256 * get_or tape (at + 1) 0

-- the number in the four bytes from a place on
unfoldable pub number4 : List ℕ → ℕ → ℕ
number4 tape at = get_or tape at 0 + 256 * get_or tape (at + 1) 0 + 65536 * get_or tape (at + 2) 0 + 16777216 * get_or tape (at + 3) 0
