-- The lines of a file, cut at CR LF only, and whether they fit.
use Rattle.std.specs.Prelude.{ℕ, Bool, true, false, ◌&&◌, ◌||◌, not, cond, List, [], ◌∷◌, ◌++◌, ◌≡◌, eqb}
use Rattle.line_fields.specs.declared.Fields.{Fields}
use Rattle.line_fields.specs.Fields.{no_field, fields_from}

-- a byte at the front of the first line
unfoldable pub ahead : ℕ → List (List ℕ) → List (List ℕ)
ahead byte [] = (byte ∷ []) ∷ []
ahead byte (l ∷ ls) = (byte ∷ l) ∷ ls

-- the lines of a file: CR LF ends a line, any other byte is part of its line, and what stands behind the last CR LF is a line if it is not empty
unfoldable pub lines : List ℕ → List (List ℕ)
lines [] = []
lines (byte ∷ []) = (byte ∷ []) ∷ []
lines (byte ∷ next ∷ bytes) = cond (eqb byte 13 && eqb next 10) ([] ∷ lines bytes) (ahead byte (lines (next ∷ bytes)))

-- the fields of a line: decimal numbers, a comma before each but the first, as behind a comma
unfoldable pub line_fields : List ℕ → Fields
line_fields line = fields_from 44 no_field (44 ∷ line)

-- a line fits if it is d numbers
unfoldable pub fits : ℕ → List ℕ → Bool
fits d line = let f = line_fields line in (f.valid && not f.empty) && eqb f.count d

-- all of these lines fit
unfoldable pub all_fit : ℕ → List (List ℕ) → Bool
all_fit d [] = true
all_fit d (l ∷ ls) = fits d l && all_fit d ls

-- these lines one behind the other, each followed by CR LF; behind the last it stands only if the file is ended so
unfoldable pub joined : Bool → List (List ℕ) → List ℕ
joined ended [] = []
joined ended (l ∷ []) = l ++ cond ended (13 ∷ 10 ∷ []) []
joined ended (l ∷ m ∷ ls) = l ++ (13 ∷ 10 ∷ joined ended (m ∷ ls))

-- no CR LF stands in a line
unfoldable pub uncut : List ℕ → Bool
uncut [] = true
uncut (byte ∷ []) = true
uncut (byte ∷ next ∷ bytes) = not (eqb byte 13 && eqb next 10) && uncut (next ∷ bytes)

-- none stands in any of these lines
unfoldable pub all_uncut : List (List ℕ) → Bool
all_uncut [] = true
all_uncut (l ∷ ls) = uncut l && all_uncut ls

-- a line is not empty
unfoldable pub full : List ℕ → Bool
full [] = false
full (byte ∷ bytes) = true

-- the last of these lines, if there is one, is not empty
unfoldable pub last_full : List (List ℕ) → Bool
last_full [] = true
last_full (l ∷ []) = full l
last_full (l ∷ m ∷ ls) = last_full (m ∷ ls)

-- a file is these lines: it has CR LF behind each, though behind the last it may be missing if that line is not empty, and nowhere else
pub record Cut (file : List ℕ) (ls : List (List ℕ)) : Type 0 where
  pub ended : Bool
  pub bytes : file ≡ joined ended ls
  pub whole : all_uncut ls ≡ true
  pub rest : ended || last_full ls ≡ true
