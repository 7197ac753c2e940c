-- What spells a list of quotes: their numbers as they are printed, one comma between, and CR LF behind each line.
use Rattle.std.specs.Prelude.{ℕ, Bool, true, ◌&&◌, List, [], ◌∷◌, ◌++◌, map, ◌≡◌, eqb, length}
use Rattle.text.specs.Text.{digits}
use Rattle.line_fields.specs.Fields.{small}
use Rattle.csv_frames.specs.Lines.{joined}

-- numbers in decimal, one comma between
unfoldable pub row : List ℕ → List ℕ
row [] = []
row (n ∷ []) = digits n
row (n ∷ m ∷ ns) = digits n ++ (44 ∷ row (m ∷ ns))

-- quotes of d numbers, each below 2^32
unfoldable pub quotes_of : ℕ → List (List ℕ) → Bool
quotes_of d [] = true
quotes_of d (q ∷ qs) = (eqb (length q) d && small q) && quotes_of d qs

-- a file spells these quotes: a line for each, followed by CR LF, though the last one's, if there is a line, may be missing
pub record Spells (d : ℕ) (file : List ℕ) (quotes : List (List ℕ)) : Type 0 where
  pub fit : quotes_of d quotes ≡ true
  pub ended : Bool
  pub bytes : file ≡ joined ended (map row quotes)
