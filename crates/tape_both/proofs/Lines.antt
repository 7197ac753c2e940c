-- The lines of a quote and of a look directly behind it: how long they are at most, and both laid.
use Prim.Native.Nat.{ℕ, zero, suc, ◌+◌, ◌-◌, ◌*◌, ◌≤◌, ◌<◌}
use native.Mathlib.Decide.{dec_lt}
use native.Mathlib.Omega.{arith}
use mathlib.Core.List.{List, [], ◌∷◌, ◌++◌}
use lib.ListN.{length, get_or, take, length-append, length-take}
use borrow.Rule.Slice.PartMut.{mid_of, put_mid}
use Rattle.lists.specs.Lists.{flat}
use Rattle.lists.proofs.Laying.{front_one, front_more}
use Rattle.head.specs.declared.Desk.TheVariants.{One}
use Rattle.head.specs.Heads.{max_capacity}
use Rattle.refusals.specs.Refusals.{granted}
use Rattle.frames.specs.Frames.{message_at, read_at, messages_from}
use Rattle.frames.proofs.Reading.{told_at, messages_on, messages_none}
use Rattle.model.specs.Changes.{change_room}
use Rattle.text.specs.Text.{line, Laid}
use Rattle.text.proofs.Lines.{line_short, of_front}
use Rattle.line_changes.specs.Printed.{change_line, change_lines, changes_text}
use Rattle.line_changes.proofs.Decoding.{line_fits}
use Rattle.tape_model.specs.Print.{desk_line}
use Rattle.line_answers.specs.Turns.{text_bytes, answer_line}
use Rattle.tape_both.specs.Tried.{step_bytes}

-- 25 bytes of text suffice for the lines of each 7 of frames, from a place on
messages_short : (bytes : List ℕ) (most place : ℕ) → place ≤ length bytes → 7 * length (change_lines (messages_from most bytes place)) + 25 * place ≤ 25 * length bytes
unfolding messages_from change_lines flat
messages_short bytes zero place h = omega arith
messages_short bytes (suc most) place h = go (dec_lt place (read_at bytes place).next) (messages_short bytes most (read_at bytes place).next)
  where
    go : Dec (place < (read_at bytes place).next)
        → ((read_at bytes place).next ≤ length bytes → 7 * length (change_lines (messages_from most bytes (read_at bytes place).next)) + 25 * (read_at bytes place).next ≤ 25 * length bytes)
        → 7 * length (change_lines (messages_from (suc most) bytes place)) + 25 * place ≤ 25 * length bytes
    go (yes l) rest =
        let t = told_at bytes place l in
        let first = change_line (message_at bytes (place + 1) (get_or bytes place 0)) in
        rw (messages_on bytes place most t)
        (rw (length-append first (change_lines (messages_from most bytes (read_at bytes place).next)))
        (omega (arith, line_fits bytes place, t.next, rest t.inside)))
    go (no n) rest = rw (messages_none bytes place (suc most) (omega (arith, n))) (omega arith)

-- and of all of them
changes_short : (bytes : List ℕ) → 7 * length (changes_text bytes) ≤ 25 * length bytes
unfolding changes_text
changes_short bytes = omega (arith, messages_short bytes (length bytes) 0 (omega arith))

module _ (newest live : ℕ) (bytes : List ℕ) (count : ℕ) (numbers : List ℕ) {before text : List ℕ} {at : ℕ} (inside : count ≤ length bytes) (most : length bytes ≤ change_room)
    (few : length numbers ≤ 1 + max_capacity) (room : step_bytes ≤ length before)
    (l : Laid (answer_line 0 (desk_line One 81 (newest ∷ live ∷ [])) ++ changes_text (take count bytes)) before at text) where
  -- the quote's lines
  abbrev first : List ℕ
  first = line 81 (newest ∷ live ∷ []) ++ changes_text (take count bytes)

  first_laid : Laid first before at text
  unfolding answer_line desk_line granted
  first_laid = l

  -- they leave room for the look's
  pub first_short : at ≤ text_bytes
  first_short =
      let lines = changes_text (take count bytes) in
      omega (
        arith,
        first_laid.counted,
        length-append (line 81 (newest ∷ live ∷ [])) lines,
        line_short 81 (newest ∷ live ∷ []),
        changes_short (take count bytes),
        length-take count bytes,
      )

  both_short : length (first ++ line 76 numbers) ≤ length before
  both_short = rw length-append (omega (arith, first_laid.counted, first_short, line_short 76 numbers))

  module _ {last : List ℕ} {used : ℕ} (m : Laid (answer_line 0 (desk_line One 76 numbers)) (mid_of at (length text - at) text) used last) where
    second_laid : Laid (line 76 numbers) (mid_of at (length text - at) text) used last
    unfolding answer_line desk_line granted
    second_laid = m

    pub both_room : at + used ≤ length before
    both_room = omega (arith, both_short, length-append first (line 76 numbers), first_laid.counted, second_laid.counted)

    -- both stand at the front of the text
    pub both_laid : Laid (first ++ line 76 numbers) before (at + used) (put_mid at (length text - at) text last)
    both_laid =
        let front = front_one first before (omega (arith, first_laid.counted, first_short)) first_laid.counted first_laid.text in
        of_front (front_more front (line 76 numbers) both_short second_laid.counted second_laid.text)
