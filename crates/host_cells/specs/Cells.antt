-- What the cells of a C host hold, read as the calls' own values, and what a host is told of a call's reply.
use Rattle.std.specs.Prelude.{◌≡◌, ℕ, ◌+◌, ◌*◌, ◌/◌, cond, List, map, eqb, length, get_or, take, drop}
use Rattle.lists.specs.Lists.{run}
use Rattle.head.specs.declared.Head.{Head}
use Rattle.head.specs.declared.Desk.{Desk}
use Rattle.head.specs.declared.Desk.TheVariants.{One, Two}
use Rattle.head.specs.Desks.{record_of, record_count}
use Rattle.refusals.specs.Refusals.{number_of, granted}
use Rattle.head.specs.declared.replies.Reply.{Reply}

-- the head that eight cells hold: d, N, directions, the newest position, live rows, rows held, and the pair
unfoldable pub head_in : List ℕ → Head
head_in cells = record {
  dimensions = get_or cells 0 0;
  capacity = get_or cells 1 0;
  directions = get_or cells 2 0;
  newest = get_or cells 3 0;
  live = get_or cells 4 0;
  held = get_or cells 5 0;
  n1 = get_or cells 6 0;
  n2 = get_or cells 7 0;
}

-- the desk of a number: desk two for 2, desk one for any other
unfoldable pub desk_of : ℕ → Desk
desk_of desk = cond (eqb desk 2) Two One

-- the watch record in two cells, n and then the desk, of which this many stand before it
abbrev pub record_at : List ℕ → ℕ → ℕ
record_at cells i = record_of (get_or cells (2 * i + 1) 0) (get_or cells (2 * i) 0)

-- the records in the first sixteen cells
unfoldable pub eight_records : List ℕ → List ℕ
eight_records cells = map (record_at cells) (run 0 record_count)

-- the records that lent cells hold, two cells each, the first eight at most: those past them are neither judged nor touched
unfoldable pub records_in : List ℕ → List ℕ
records_in cells = take (length cells / 2) (eight_records cells)

-- a call of this number leaves the cells of the records so: those past the sixteenth as they were, and all where it is refused
pub record OnlyEight (number : ℕ) (before after : List ℕ) : Type 0 where
  pub beyond : drop 16 after ≡ drop 16 before
  pub refused : after ≡ granted number after before

-- a host is given the number of a reply that the call promises
pub record Answered (number : ℕ) (promise : Reply → Type 0) : Type 0 where
  pub reply : Reply
  pub answer : number ≡ number_of reply.answer
  pub promised : promise reply

-- the head's cells hold the head of a reply, as the host keeps it for the next call
abbrev pub Hands : Reply → List ℕ → Type 0
Hands reply cells = head_in cells ≡ reply.head

-- the count of a reply is handed back
abbrev pub Counts : Reply → ℕ → Type 0
Counts reply count = count ≡ reply.count
