-- Changes in print: the line of each change, and the lines of the changes whose frames stand in bytes.
use Rattle.std.specs.Prelude.{ℕ, ◌||◌, cond, List, [], ◌∷◌, map, eqb, length}
use Rattle.lists.specs.Lists.{flat}
use Rattle.frames.specs.declared.Message.{Message}
use Rattle.frames.specs.declared.Message.TheVariants.{Quote, Sized, Change, Pair, Bare, Position, Open, EndOfTape, Refused}
use Rattle.frame_kinds.specs.Kinds.{leave_kind, join_kind, leave_two_kind, join_two_kind, pair_leave_kind, pair_join_kind}
use Rattle.frames.specs.Frames.{messages_from}
use Rattle.text.specs.Text.{line, line2}

-- the letter of a change's line, by its kind: - for a leave, + for a join
unfoldable pub letter_of : ℕ → ℕ
letter_of k = cond (eqb k leave_kind || eqb k leave_two_kind || eqb k pair_leave_kind) 45 43

-- the line of a change: `- n position` or `+ n position`, for desk two `-2 n position` or `+2 n position`, for the pair `-- position` or
-- `++ position`; no line for any other message
unfoldable pub change_line : Message → List ℕ
change_line (Quote k) = []
change_line (Sized k n) = []
change_line (Change k n p) =
    cond (eqb k leave_kind || eqb k join_kind) (line (letter_of k) (n ∷ p ∷ []))
    (cond (eqb k leave_two_kind || eqb k join_two_kind) (line2 (letter_of k) 50 (n ∷ p ∷ [])) [])
change_line (Pair k n1 n2) = []
change_line (Bare k) = []
change_line (Position k p) = cond (eqb k pair_leave_kind || eqb k pair_join_kind) (line2 (letter_of k) (letter_of k) (p ∷ [])) []
change_line (Open d N directions) = []
change_line EndOfTape = []
change_line (Refused k) = []

-- the lines of changes, each behind the one before
unfoldable pub change_lines : List Message → List ℕ
change_lines ms = flat (map change_line ms)

-- the lines of the changes whose frames stand in bytes, as they are read from the first byte on
unfoldable pub changes_text : List ℕ → List ℕ
changes_text bytes = change_lines (messages_from (length bytes) bytes 0)
