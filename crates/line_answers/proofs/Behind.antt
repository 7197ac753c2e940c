-- The lines of changes laid behind the line of an answer: how long both are at most, and what stands in the text then.
use mathlib.Core.Path.{◌≡◌, ap}
use Prim.Native.Nat.{ℕ, zero, suc, ◌+◌, ◌-◌, ◌*◌, ◌≤◌}
use native.Mathlib.Omega.{arith}
use mathlib.Core.List.{List, [], ◌∷◌, ◌++◌}
use lib.ListN.{length, take, drop, length-append, length-take, length-drop}
use borrow.Rule.Slice.PartMut.{mid_of, put_mid}
use Rattle.lists.specs.Lists.{laid}
use Rattle.lists.proofs.Laying.{front_one, front_more}
use Rattle.head.specs.declared.Desk.{Desk}
use Rattle.head.specs.declared.Desk.TheVariants.{One, Two}
use Rattle.refusals.specs.Refusals.{granted}
use Rattle.model.specs.Changes.{change_room}
use Rattle.text.specs.Text.{Laid}
use Rattle.text.proofs.Lines.{line_short, line2_short, of_front}
use Rattle.line_changes.specs.Printed.{changes_text}
use Rattle.tape_model.specs.Print.{desk_line, refusal_line}
use Rattle.line_answers.specs.Turns.{line_bytes, text_bytes, answer_line}

-- how long the line of a desk is at most
desk_short : (desk : Desk) (letter : ℕ) (numbers : List ℕ) → length (desk_line desk letter numbers) ≤ line_bytes (length numbers)
unfolding desk_line
desk_short One letter numbers = omega (arith, line_short letter numbers)
desk_short Two letter numbers = omega (arith, line2_short letter 50 numbers)

-- the line of an answer with at most two numbers has at most 25 bytes
answer_short : (number : ℕ) (desk : Desk) (letter : ℕ) (numbers : List ℕ) → length numbers ≤ 2 → length (answer_line number (desk_line desk letter numbers)) ≤ 25
unfolding answer_line refusal_line granted
answer_short zero desk letter numbers h = omega (arith, desk_short desk letter numbers)
answer_short (suc k) desk letter numbers h = omega (arith, line_short 82 (suc k ∷ []))

-- what is laid into a text of the same length fits it
laid_fits : (lines before : List ℕ) {after : List ℕ} → after ≡ laid lines before → length after ≡ length before → length lines ≤ length before
unfolding laid
laid_fits lines before e same = omega (arith, ap length e, length-append lines (drop (length lines) before), length-drop (length lines) before)

module _ (number : ℕ) (desk : Desk) (letter : ℕ) (numbers bytes : List ℕ) (count : ℕ) {before text : List ℕ} {at : ℕ} (bounded : length numbers ≤ 2) (inside : count ≤ length bytes)
    (most : length bytes ≤ change_room) (room : text_bytes ≤ length before) (l : Laid (answer_line number (desk_line desk letter numbers)) before at text) where
  -- the line of the answer
  abbrev said : List ℕ
  said = answer_line number (desk_line desk letter numbers)

  -- the changes fit behind the line: 25 bytes suffice for each 7 of them
  pub changes_room : 7 * at + 25 * count ≤ 7 * length before
  changes_room = omega (arith, l.counted, answer_short number desk letter numbers bounded)

  module _ {last : List ℕ} {used : ℕ} (m : Laid (changes_text (take count bytes)) (mid_of at (length text - at) text) used last) (kept : length last ≡ length (mid_of at (length text - at) text))
      (same : length text ≡ length before) where
    abbrev lines : List ℕ
    lines = changes_text (take count bytes)

    lines_fit : at + length lines ≤ length before
    lines_fit = omega (arith, laid_fits lines (mid_of at (length text - at) text) m.text kept, changes_room, same, length-take (length text - at) (drop at text), length-drop at text)

    both_short : length (said ++ lines) ≤ length before
    both_short = rw length-append (omega (arith, lines_fit, l.counted))

    -- line and changes together
    pub both_room : at + used ≤ length before
    both_room = omega (arith, lines_fit, m.counted)

    -- and both stand at the front of the text
    pub both_laid : Laid (said ++ lines) before (at + used) (put_mid at (length text - at) text last)
    both_laid =
        let line = front_one said before (omega (arith, changes_room, l.counted)) l.counted l.text in
        of_front (front_more line lines both_short m.counted m.text)
