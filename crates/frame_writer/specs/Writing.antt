-- What the writer leaves: the length of a message's frame, its answer by 01's numbers, and its promise.
use Rattle.std.specs.Prelude.{ℕ, suc, ◌≡◌, not, cond, List, [], ◌∷◌, ltb, length, Result, Ok, Err}
use Rattle.lists.specs.Lists.{laid}
use Rattle.refusals.specs.declared.Refusal.{Refusal}
use Rattle.refusals.specs.declared.Refusal.TheVariants.{UnknownKind, ShortOutput}
use Rattle.refusals.specs.Refusals.{number, first_of, granted}
use Rattle.frame_kinds.specs.Kinds.{body_length}
use Rattle.frames.specs.Frames.{framed, kind_of, frame}
use Rattle.frames.specs.declared.Message.{Message}

-- how many bytes the frame of a message has; 0 for a message with no frame
unfoldable pub frame_length : Message → ℕ
frame_length message = cond (framed message) (suc (body_length (kind_of message))) 0

-- whether the frame of a message is written into an output of this length: 1 for a message with no frame, then 13; else 0
unfoldable pub write_answer : Message → List ℕ → ℕ → ℕ
write_answer message columns room =
    first_of ((not (framed message), number UnknownKind) ∷ (ltb room (length (frame message columns)), number ShortOutput) ∷ [])

-- 01's number of what the writer hands back: 0 where the frame was written
abbrev pub answer_of : Result ℕ Refusal → ℕ
answer_of (Ok count) = 0
answer_of (Err k) = number k

-- how many bytes it says that it wrote
abbrev pub count_of : Result ℕ Refusal → ℕ
count_of (Ok count) = count
count_of (Err k) = 0

-- what the writer promises of its answer and its count, and of what it leaves in the output
pub record Wrote (message : Message) (columns before : List ℕ) (r : Result ℕ Refusal) (after : List ℕ) : Type 0 where
  pub answer : answer_of r ≡ write_answer message columns (length before)
  pub count : count_of r ≡ granted (write_answer message columns (length before)) (length (frame message columns)) 0
  pub bytes : after ≡ granted (write_answer message columns (length before)) (laid (frame message columns) before) before
