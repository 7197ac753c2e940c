-- A venue's tape: what stands at a place of it, and what it has next: a stamped quote, its end, or a refusal by 02's numbers.
use Rattle.std.specs.Prelude.{ℕ, ◌+◌, Bool, ◌||◌, cond, List, ltb, eqb, Option, Some, None, Result, Ok, Err}
use Rattle.refusals.specs.declared.Refusal.{Refusal}
use Rattle.refusals.specs.declared.Refusal.TheVariants.{OutOfPlace, StampOrder, Unmatched}
use Rattle.refusals.specs.Refusals.{number}
use Rattle.frame_kinds.specs.Kinds.{stamp_kind}
use Rattle.frames.specs.declared.Message.{Message}
use Rattle.frames.specs.Frames.{Saying, told, ended, refused, Reading, read_at}
use Rattle.venue_tapes.specs.declared.Glimpse.{Glimpse}
use Rattle.venue_tapes.specs.declared.Pair.{Pair}

-- ---- what stands at a place

-- what a frame is on a venue's tape: a quote or a stamp, each with the place behind it, a frame of another kind; or that there is none
pub data Sort : Type 0 where
  quote : ℕ → Sort
  stamp : ℕ → ℕ → Sort
  stray : Sort
  at_end : Sort
  unread : ℕ → Sort

-- what a message is there, with the place behind its frame
unfoldable pub sort_by : Message → ℕ → Sort
sort_by (Message.Quote k) behind = quote behind
sort_by (Message.Sized k n) behind = stray
sort_by (Message.Change k n p) behind = stray
sort_by (Message.Pair k n1 n2) behind = stray
sort_by (Message.Bare k) behind = stray
sort_by (Message.Position k ms) behind = cond (eqb k stamp_kind) (stamp ms behind) stray
sort_by (Message.Open d N directions) behind = stray
sort_by Message.EndOfTape behind = stray
sort_by (Message.Refused k) behind = stray

-- what can be said of a place, by what is said there and the place behind it
unfoldable pub sort_said : Saying → ℕ → Sort
sort_said (told m) behind = sort_by m behind
sort_said ended behind = at_end
sort_said (refused k) behind = unread k

-- what was read is
unfoldable pub sort_of : Reading → Sort
sort_of read = sort_said read.says read.next

-- what a glimpse shows, by 01's numbers
unfoldable pub glimpsed : Result Glimpse Refusal → Sort
glimpsed (Ok (Glimpse.Quote behind)) = quote behind
glimpsed (Ok (Glimpse.Stamp ms behind)) = stamp ms behind
glimpsed (Ok Glimpse.Stray) = stray
glimpsed (Ok Glimpse.EndOfTape) = at_end
glimpsed (Err k) = unread (number k)

-- ---- what a tape has next

-- a stamped quote, its stamp and the place behind both frames; that the tape is done; or the number of a refusal
pub data Ahead : Type 0 where
  pair : ℕ → ℕ → Ahead
  done : Ahead
  refuses : ℕ → Ahead

-- the last millisecond of a day
abbrev pub last_millisecond : ℕ
last_millisecond = 86399999

-- a stamp is below its tape's last stamp as given, or above the last millisecond of a day (02: 15)
unfoldable pub out_of_order : ℕ → ℕ → Bool
out_of_order last ms = ltb ms last || ltb last_millisecond ms

-- a stamp with no quote behind it: 15, then 16
unfoldable pub alone : ℕ → ℕ → Ahead
alone last ms = cond (out_of_order last ms) (refuses (number StampOrder)) (refuses (number Unmatched))

-- a stamp and what stands behind it: what reading refuses, 7 for a frame that is neither quote nor stamp, then 15, then 16, else a pair
unfoldable pub after_stamp : ℕ → ℕ → Sort → Ahead
after_stamp last ms (quote behind) = cond (out_of_order last ms) (refuses (number StampOrder)) (pair ms behind)
after_stamp last ms (stamp other behind) = alone last ms
after_stamp last ms stray = refuses (number OutOfPlace)
after_stamp last ms at_end = alone last ms
after_stamp last ms (unread k) = refuses k

-- what the next frame is, and behind a stamp the one there: a quote with no stamp before it is 16, a frame of another kind 7; behind
-- what is no stamp nothing is judged
unfoldable pub ahead_by : List ℕ → ℕ → Sort → Ahead
ahead_by tape last (quote behind) = refuses (number Unmatched)
ahead_by tape last (stamp ms behind) = after_stamp last ms (sort_of (read_at tape behind))
ahead_by tape last stray = refuses (number OutOfPlace)
ahead_by tape last at_end = done
ahead_by tape last (unread k) = refuses k

-- what a tape has next, at its place, with its last stamp as given
unfoldable pub next : List ℕ → ℕ → ℕ → Ahead
next tape place last = ahead_by tape last (sort_of (read_at tape place))

-- what was found next, by 02's numbers
unfoldable pub ahead : Result (Option Pair) Refusal → Ahead
ahead (Ok (Some p)) = pair p.stamp p.next
ahead (Ok None) = done
ahead (Err k) = refuses (number k)

-- the same, with so many more bytes before it
unfoldable pub further : ℕ → Ahead → Ahead
further n (pair ms behind) = pair ms (n + behind)
further n done = done
further n (refuses k) = refuses k
