-- Lines of print: a letter or two, numbers in decimal with one space before each, and a newline.
use Rattle.std.specs.Prelude.{ℕ, zero, suc, ◌+◌, ◌/◌, ◌%◌, cond, List, [], ◌∷◌, ◌++◌, map, ◌≡◌, ltb, length}
use Rattle.lists.specs.Lists.{flat, laid}

-- the last k decimal digits of a number at most, without leading zeros
unfoldable pub digits_up_to : ℕ → ℕ → List ℕ
digits_up_to zero n = []
digits_up_to (suc k) n = cond (ltb n 10) ((48 + n) ∷ []) (digits_up_to k (n / 10) ++ ((48 + n % 10) ∷ []))

-- a number below 2^32 in decimal
unfoldable pub digits : ℕ → List ℕ
digits n = digits_up_to 10 n

-- a space and a number
unfoldable pub field : ℕ → List ℕ
field n = 32 ∷ digits n

-- a line: its letter, its fields and a newline
unfoldable pub line : ℕ → List ℕ → List ℕ
line letter numbers = letter ∷ (flat (map field numbers) ++ (10 ∷ []))

-- a line of two letters
unfoldable pub line2 : ℕ → ℕ → List ℕ → List ℕ
line2 first second numbers = first ∷ line second numbers

-- bytes laid at the start of a text: how many, and the text after
pub record Laid (bytes before : List ℕ) (count : ℕ) (after : List ℕ) : Type 0 where
  pub counted : count ≡ length bytes
  pub text : after ≡ laid bytes before
