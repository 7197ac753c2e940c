-- The parts of a quote and look in one: the answer but for the cells, the length of the list after the quote by the rows before it, and the
-- list by the tables that the quote leaves.
use Rattle.std.specs.Prelude.{ℕ, ◌+◌, ◌-◌, ◌≤◌, ◌<◌, Bool, cond, List, [], ◌∷◌, ltb, length, get_or, drop}
use Rattle.lists.specs.Lists.{filter}
use Rattle.skyline.specs.Skyline.{window_start, stabbed}
use Rattle.head.specs.declared.Head.{Head}
use Rattle.head.specs.Heads.{last_position}
use Rattle.refusals.specs.declared.Refusal.TheVariants.{WindowSize}
use Rattle.refusals.specs.Refusals.{number, first_of, granted}
use Rattle.model.specs.Rows.{Tables}
use Rattle.model.specs.Book.{out_of_range, quote_answer}
use Rattle.table_cells.specs.Marked.{Below}
use Rattle.table_listing.specs.Picked.{listed_in, Window}
use Rattle.call_quoting.specs.declared.Entered.{Entered}

-- the answer of a quote and, behind it, of a look at the list of n but for its cells: as the quote's, then 5
unfoldable pub sized_answer : Head → List ℕ → ℕ → Tables → List ℕ → ℕ → ℕ
sized_answer h x n t ws room =
    let a = quote_answer h x t ws room in
    granted a (first_of ((out_of_range h n, number WindowSize) ∷ [])) a

-- of the rows at these places those that the start of a window stabs, where the row at place 0 has position first
unfoldable pub stabbed_places : ℕ → ℕ → List ℕ → List ℕ → List ℕ
stabbed_places first start lowers places = filter (λ i. stabbed start (get_or lowers i 0) (first + i)) places

-- how many positions the list has whose window starts here after a quote that retires the rows at these places and whose row has this lower
-- end: those that the start stabs, less the retired ones, and the new row unless a row of the window is over it
unfoldable pub count_after : Head → ℕ → ℕ → List ℕ → List ℕ → List ℕ → ℕ
count_after h start lower retired lowers uppers =
    let first = window_start h.newest h.capacity in
    length (listed_in start h.newest first lowers uppers) + cond (ltb lower start) 1 0 - length (stabbed_places first start lowers retired)

-- they may be counted: a position is left, the window lies within the rows held, and the places are those of rows
pub record Countable (h : Head) (start : ℕ) (retired lowers uppers : List ℕ) : Type 0 where
  pub below : h.newest < last_position
  pub window : Window (window_start h.newest h.capacity) start h.newest lowers uppers
  pub held : Below retired (length lowers)

-- the place at which the rows begin once a quote is entered: so many places on in a reachable book, where none was moved
abbrev pub first_place : Bool → ℕ → ℕ
first_place reachable by = cond reachable by 0

-- the list of the window from here on of the book that an entered quote leaves, by the ends of its rows
unfoldable pub list_after : Bool → Entered → ℕ → List ℕ → List ℕ → List ℕ
list_after reachable s start lowers uppers =
    let h = s.reply.head in
    let from = first_place reachable s.by in
    listed_in start h.newest (window_start h.newest h.capacity) (drop from lowers) (drop from uppers)

-- it may be written into this space: its window lies within the rows, and there is room
pub record Writable (reachable : Bool) (s : Entered) (start : ℕ) (lowers uppers : List ℕ) (space : ℕ) : Type 0 where
  pub low_newest : s.reply.head.newest ≤ last_position
  pub lower_from : first_place reachable s.by ≤ length lowers
  pub upper_from : first_place reachable s.by ≤ length uppers
  pub window : Window (window_start s.reply.head.newest s.reply.head.capacity) start s.reply.head.newest (drop (first_place reachable s.by) lowers)
      (drop (first_place reachable s.by) uppers)
  pub fits : length (list_after reachable s start lowers uppers) ≤ space
