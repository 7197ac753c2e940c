-- What a call of a tape answered, and the lines that it prints.
use Rattle.std.specs.Prelude.{ℕ, List, [], ◌∷◌, ◌++◌, take}
use Rattle.head.specs.declared.Desk.{Desk}
use Rattle.head.specs.declared.Desk.TheVariants.{One, Two}
use Rattle.refusals.specs.Refusals.{granted}
use Rattle.head.specs.Replies.{Outcome}
use Rattle.model.specs.Calls.{Call, Open, Quote, Look, Watch, End, Past, Pair, Unpair, Due, Preview, Both, Outputs}
use Rattle.text.specs.Text.{line, line2}
use Rattle.line_changes.specs.Printed.{changes_text}

-- what a call answered: what it handed back, and what its outputs hold from their start on
pub record Answered : Type 0 where
  pub outcome : Outcome
  pub outputs : Outputs

-- a line of a desk: desk two's has a 2 behind its letter
unfoldable pub desk_line : Desk → ℕ → List ℕ → List ℕ
desk_line One letter numbers = line letter numbers
desk_line Two letter numbers = line2 letter 50 numbers

-- the lines of an accepted call: O d N directions; Q position rows, the live ones, and its changes; L n positions; W n and its joins; U n;
-- P n1 n2 positions; B n1 n2 and its joins; E; of desk two W2 n and U2 n; no frame asks for what is due, for a preview, or for a quote and
-- look in one, and they have no line
unfoldable pub lines_of : Call → Answered → List ℕ
lines_of (Open d N directions) a = line 79 (d ∷ N ∷ directions ∷ [])
lines_of (Quote x) a =
    line 81 (a.outcome.head.newest ∷ a.outcome.head.live ∷ []) ++ changes_text (take a.outcome.count a.outputs.bytes)
lines_of (Look n) a = line 76 (n ∷ take a.outcome.count a.outputs.cells)
lines_of (Watch desk n) a = desk_line desk 87 (n ∷ []) ++ changes_text (take a.outcome.count a.outputs.bytes)
lines_of (End desk n) a = desk_line desk 85 (n ∷ [])
lines_of (Past n1 n2) a = line 80 (n1 ∷ n2 ∷ take a.outcome.count a.outputs.cells)
lines_of (Pair n1 n2) a = line 66 (n1 ∷ n2 ∷ []) ++ changes_text (take a.outcome.count a.outputs.bytes)
lines_of Unpair a = line 69 []
lines_of Due a = []
lines_of (Preview x) a = []
lines_of (Both x n) a = []

-- R and the number of a refusal
unfoldable pub refusal_line : ℕ → List ℕ
refusal_line number = line 82 (number ∷ [])

-- the lines of a call
unfoldable pub text_of : Call → Answered → List ℕ
text_of c a = let number = a.outcome.number in granted number (lines_of c a) (refusal_line number)
