-- Rooms: the positions of an accepted look fit the cells that it was lent.
use mathlib.Core.Path.{◌≡◌, refl, ap}
use Prim.Native.Nat.{ℕ, zero, suc, ◌+◌, ◌≤◌}
use native.Mathlib.Omega.{arith}
use mathlib.Core.List.{List, [], ◌++◌, append-nil}
use lib.ListN.{length}
use borrow.Author.Tests.{ltb-false}
use Rattle.head.specs.declared.Head.{Head}
use Rattle.head.specs.declared.replies.Reply.{Reply}
use Rattle.refusals.specs.Refusals.{granted}
use Rattle.head.specs.Replies.{Outcome}
use Rattle.refusals.proofs.Numbers.{zero_passed}
use Rattle.model.specs.Rows.{Tables}
use Rattle.model.specs.Book.{reply_of, look_cells, look_answer, look_reply, past_cells, past_answer, past_reply}
use Rattle.model.specs.Promises.{Looked, PastLooked}
use Rattle.call_judging.proofs.Answering.{answer_passed}

-- a count that fits if the call is accepted fits
pub counted : (number count room : ℕ) → (number ≡ 0 → count ≤ room) → granted number count 0 ≤ room
unfolding granted
counted zero count room h = h refl
counted (suc k) count room h = omega arith

-- the same outcome has the same count
pub same_count : {a b : Outcome} → a ≡ b → a.count ≡ b.count
same_count e = ap (λ (o : Outcome). o.count) e

module _ {h : Head} {t : Tables} {r : Reply} {before after : List ℕ} where
  -- the positions of a look fit its output
  pub look_fits : {n : ℕ} → Looked h n t before r after → r.count ≤ length before
  unfolding look_reply reply_of look_answer
  look_fits {n} o =
      let room = length before in
      let cells = length (look_cells h n t) in
      omega (
        arith,
        same_count o.reply,
        counted (look_answer h n t room) cells room
            (λ e. ltb-false room cells (zero_passed _ _ _ (zero_passed _ _ _ (answer_passed h t _ e).1).1).0),
      )

  -- and so do those of a past look
  pub past_fits : {n1 n2 : ℕ} → PastLooked h n1 n2 t before r after → r.count ≤ length before
  unfolding past_reply reply_of past_answer
  past_fits {n1} {n2} o =
      let room = length before in
      let cells = length (past_cells h n1 n2 t) in
      omega (
        arith,
        same_count o.reply,
        counted (past_answer h n1 n2 t room) cells room
            (λ e. ltb-false room cells (zero_passed _ _ _ (zero_passed _ _ _ (zero_passed _ _ _ (answer_passed h t _ e).1).1).1).0),
      )

-- n and the positions of a look fit its cells
pub cells_room : {count room : ℕ} (cells : List ℕ) → count ≤ room → length cells ≡ room → count + 1 ≤ suc (length (cells ++ []))
cells_room cells h e = rw (append-nil cells) (omega arith)

-- and n1, n2 and those of a past look
pub past_cells_room : {count room : ℕ} (cells : List ℕ) → count ≤ room → length cells ≡ room → count + 2 ≤ suc (suc (length (cells ++ [])))
past_cells_room cells h e = rw (append-nil cells) (omega arith)
