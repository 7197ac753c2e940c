-- The parts of a look: the answer but for the output, and cells written if there is room, else 13.
use Rattle.std.specs.Prelude.{◌≡◌, ℕ, ◌+◌, ◌-◌, List, [], ◌∷◌, ltb, eqb, ◌||◌, length}
use Rattle.lists.specs.Lists.{laid}
use Rattle.head.specs.declared.Head.{Head}
use Rattle.head.specs.declared.replies.Reply.{Reply}
use Rattle.refusals.specs.declared.Refusal.TheVariants.{ShortOutput, WindowSize, WindowOrder}
use Rattle.refusals.specs.Refusals.{number, first_of, granted}
use Rattle.head.specs.Replies.{outcome}
use Rattle.model.specs.Rows.{Tables}
use Rattle.model.specs.Book.{answer_of, out_of_range, reply_of}
use Rattle.skyline.specs.Skyline.{window_start}
use Rattle.table_listing.specs.declared.window.RowWindow.{RowWindow}

-- 13, if the positions do not fit this room
unfoldable pub room_answer : ℕ → List ℕ → ℕ
room_answer room positions = first_of ((ltb room (length positions), number ShortOutput) ∷ [])

-- what is handed back and left where these cells, counted so, are asked for
pub record Written (h : Head) (cells : List ℕ) (count : ℕ) (before : List ℕ) (r : Reply) (after : List ℕ) : Type 0 where
  pub reply : outcome r ≡ reply_of (room_answer (length before) cells) h h count
  pub out : after ≡ granted (room_answer (length before) cells) (laid cells before) before

-- where each cell counts as one
abbrev pub Shown : Head → List ℕ → List ℕ → Reply → List ℕ → Type 0
Shown h cells = Written h cells (length cells)

-- the answer of a look at the list of n but for the output: 3, 11, 12, 5
unfoldable pub size_answer : Head → ℕ → Tables → ℕ
size_answer h n t = answer_of h t ((out_of_range h n, number WindowSize) ∷ [])

-- the answer of a look at the past list of n1 and n2 but for the output: 3, 11, 12, 5, 14
unfoldable pub sizes_answer : Head → ℕ → ℕ → Tables → ℕ
sizes_answer h n1 n2 t = answer_of h t ((eqb n1 0 || ltb h.capacity n2, number WindowSize) ∷ (ltb n2 n1, number WindowOrder) ∷ [])

-- a window of the rows of the past list of n1 and n2; for an n1 of 1 it is the list of n2
pub record WindowOf (h : Head) (n1 n2 : ℕ) (t : Tables) (w : RowWindow) : Type 0 where
  pub first : w.first ≡ window_start h.newest h.capacity
  pub start : w.start ≡ window_start h.newest n2
  pub end : w.end ≡ h.newest + 1 - n1
  pub lower_ends : w.lower_ends.now ≡ t.lower_ends
  pub upper_ends : w.upper_ends.now ≡ t.upper_ends
