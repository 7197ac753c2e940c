-- The book model: what each call answers and leaves in everything lent, for any head, tables, watch records and output.
use Rattle.std.specs.Prelude.{ℕ, suc, ◌+◌, ◌-◌, ◌*◌, ◌≤◌, Bool, true, ◌&&◌, ◌||◌, not, cond, List, [], ◌∷◌, ◌++◌, map, ltb, leb, eqb, length, take}
use Rattle.lists.specs.Lists.{filter, any, last_or, between, contains, rising, insert, without, laid, padded}
use Rattle.skyline.specs.Skyline.{window_start}
use Rattle.head.specs.declared.Head.{Head}
use Rattle.head.specs.declared.Desk.{Desk}
use Rattle.head.specs.declared.Desk.TheVariants.{One, Two}
use Rattle.head.specs.Desks.{record_count, desk_number, desk_in, size_in, watch_of}
use Rattle.refusals.specs.declared.Refusal.TheVariants.{Settings, ColumnCount, WindowSize, TapeFull, AlreadyWatched, NoFreeRecord, NotWatched, ShortLoan, Torn, ShortOutput, WindowOrder}
use Rattle.refusals.specs.Refusals.{number, first_of, granted}
use Rattle.head.specs.Replies.{Outcome}
use Rattle.head.specs.Heads.{max_capacity, fresh_head, settings_hold, after_quote, with_pair, torn_pair, last_position}
use Rattle.model.specs.Rows.{Row, Tables, rows_in, filled, live_rows, listed, due_rows, due_cells, rows_after}
use Rattle.model.specs.Changes.{join, pair_join, changes, all_changes, pair_changes, frames, most_changes, watch_room, change_room}
use Rattle.model.specs.Shares.{above_shares, desk_full}

-- a table is shorter than these settings ask
unfoldable pub short_tables : Tables → ℕ → ℕ → Bool
short_tables t d N = ltb (length t.columns) (N * d) || ltb (length t.positions) N || ltb (length t.lower_ends) N || ltb (length t.upper_ends) N

-- a table is shorter than these settings ask, or there are fewer than eight watch records
unfoldable pub short_loan : Tables → List ℕ → ℕ → ℕ → Bool
short_loan t ws d N = short_tables t d N || ltb (length ws) record_count

-- the head or the rows held are torn: one of the conditions of 01 and 02 under 12 holds; a book that no call left need not be torn
unfoldable pub torn_rows : Head → List Row → Bool
torn_rows h rs =
    let M = h.newest in
    let start = window_start M h.capacity in
    let positions = map Row.position rs in
    ltb h.capacity h.held
    || ltb last_position M
    || (eqb h.held 0 && ltb 0 M || ltb 0 h.held && eqb M 0)
    || not (rising start M positions)
    || not (eqb (last_or 0 positions) M)
    || any (λ r. not (ltb r.lower_end r.position)) rs
    || any (λ p. not (contains p positions)) (between start M)
    || not (eqb h.live (length (live_rows rs)))
    || any (λ r. ltb 0 r.upper_end && not (ltb r.position r.upper_end && leb r.upper_end M)) rs

-- a record of desk one or two, its n from 1 to N
unfoldable pub is_watch : ℕ → ℕ → Bool
is_watch N w = leb (desk_number One) (desk_in w) && leb (desk_in w) (desk_number Two) && leb 1 (size_in w) && leb (size_in w) N

-- watches that rise from lo on, and then empties: desk one's rising by n, then desk two's
unfoldable pub ordered : ℕ → ℕ → List ℕ → Bool
ordered lo N [] = true
ordered lo N (w ∷ ws) = cond (eqb w 0) (not (any (ltb 0) ws)) (leb lo w && is_watch N w && ordered (suc w) N ws)

-- the watches that stand, rising
unfoldable pub standing : List ℕ → List ℕ
standing ws = filter (ltb 0) (take record_count ws)

-- the eight watch records are torn: not desk one's watches, then desk two's, each rising by n within 1 to N, then empties, or over the
-- shares (01 and 02: 12); records that no call left need not be torn
unfoldable pub torn_watches : ℕ → List ℕ → Bool
torn_watches N ws = not (ordered 1 N (take record_count ws)) || ltb 2 (above_shares (standing ws))

-- the rows that a book holds, live and retired
unfoldable pub book_rows : Head → Tables → List Row
book_rows h t = rows_in h.dimensions h.held t

-- the past list of n1 and n2 by the rows' ends
unfoldable pub past_list_of : Head → List Row → ℕ → ℕ → List ℕ
past_list_of h rs n1 n2 = listed (window_start h.newest n2) (h.newest + 1 - n1) rs

-- the list of n by the rows' ends
unfoldable pub list_of : Head → List Row → ℕ → List ℕ
list_of h rs n = listed (window_start h.newest n) h.newest rs

-- a pair is watched
unfoldable pub pair_stands : Head → Bool
pair_stands h = not (eqb h.n1 0)

-- the past list of the head's pair by the rows' ends; none where no pair is watched
unfoldable pub pair_list_of : Head → List Row → List ℕ
pair_list_of h rs = cond (pair_stands h) (past_list_of h rs h.n1 h.n2) []

-- the answer of a call on the tables alone, 0 if accepted: 3, 11, 12, then what the call adds
unfoldable pub answer_of : Head → Tables → List (Bool × ℕ) → ℕ
answer_of h t more =
    first_of ((not (settings_hold h.dimensions h.capacity h.directions), number Settings)
    ∷ (short_tables t h.dimensions h.capacity, number ShortLoan) ∷ (torn_rows h (book_rows h t) || torn_pair h, number Torn) ∷ more)

-- the answer of a call on the tables and the watches, 0 if accepted: 3, 11, 12, then what the call adds
unfoldable pub watchful_answer : Head → Tables → List ℕ → List (Bool × ℕ) → ℕ
watchful_answer h t ws more =
    first_of ((not (settings_hold h.dimensions h.capacity h.directions), number Settings)
    ∷ (short_loan t ws h.dimensions h.capacity, number ShortLoan)
    ∷ ((torn_rows h (book_rows h t) || torn_pair h) || torn_watches h.capacity ws, number Torn) ∷ more)

-- what a call hands back: if accepted the next head and the count, else the head as it came and 0
unfoldable pub reply_of : ℕ → Head → Head → ℕ → Outcome
reply_of answer h next count = record { number = answer; head = granted answer next h; count = granted answer count 0 }

-- n is 0 or above N
unfoldable pub out_of_range : Head → ℕ → Bool
out_of_range h n = not (leb 1 n && leb n h.capacity)

-- ---- opening
module _ (d N directions : ℕ) (t : Tables) (ws : List ℕ) where
  -- the answer of an opening, 0 if accepted: 3, 11
  unfoldable pub open_answer : ℕ
  open_answer = first_of ((not (settings_hold d N directions), number Settings) ∷ (short_loan t ws d N, number ShortLoan) ∷ [])

  -- what an opening hands back: the fresh head, or one of zeros
  unfoldable pub open_reply : Outcome
  open_reply = reply_of open_answer (fresh_head 0 0 0) (fresh_head d N directions) 0

  -- the tables after an opening: all N places 0
  unfoldable pub open_tables : Tables
  open_tables = granted open_answer (filled d N [] t) t

  -- the watch records after an opening: all eight empty
  unfoldable pub open_watches : List ℕ
  open_watches = granted open_answer (padded record_count [] ws) ws

-- ---- quote
module _ (h : Head) (x : List ℕ) (t : Tables) (ws : List ℕ) where
  -- the rows after the quote
  unfoldable pub quote_rows : List Row
  quote_rows = rows_after h.dimensions h.directions h.capacity h.newest x (book_rows h t)

  -- the head after the quote
  unfoldable pub quote_head : Head
  quote_head = after_quote h (length (live_rows quote_rows)) (length quote_rows)

  -- the changes of every watch and, behind them, those of the pair, as frames
  unfoldable pub quote_bytes : List ℕ
  quote_bytes =
      frames (all_changes (standing ws) (list_of h (book_rows h t)) (list_of quote_head quote_rows)
      ++ pair_changes (pair_list_of h (book_rows h t)) (pair_list_of quote_head quote_rows))

  -- the answer of a quote with this room for its changes: 3, 11, 12, then 4, 6, 13
  unfoldable pub quote_answer : ℕ → ℕ
  quote_answer room =
      watchful_answer h t ws ((not (eqb (length x) h.dimensions), number ColumnCount) ∷ (leb last_position h.newest, number TapeFull)
      ∷ (ltb room change_room, number ShortOutput) ∷ [])

  -- what a quote hands back
  unfoldable pub quote_reply : ℕ → Outcome
  quote_reply room = reply_of (quote_answer room) h quote_head (length quote_bytes)

  -- the tables after a quote
  unfoldable pub quote_tables : ℕ → Tables
  quote_tables room = granted (quote_answer room) (filled h.dimensions h.capacity quote_rows t) t

  -- the output after a quote
  unfoldable pub quote_out : List ℕ → List ℕ
  quote_out out = granted (quote_answer (length out)) (laid quote_bytes out) out

-- ---- preview
module _ (h : Head) (x : List ℕ) (t : Tables) (ws : List ℕ) where
  -- what a preview hands back: the quote's answer and count, and the head as it came
  unfoldable pub preview_reply : ℕ → Outcome
  preview_reply room = record { number = quote_answer h x t ws room; head = h; count = (quote_reply h x t ws room).count }

  -- the live and the held rows of the head that the quote would hand back
  unfoldable pub preview_counts : ℕ → List ℕ
  preview_counts room = let next = (quote_reply h x t ws room).head in next.live ∷ next.held ∷ []

  -- the output after a preview: as after the quote
  unfoldable pub preview_out : List ℕ → List ℕ
  preview_out out = quote_out h x t ws out

-- how much a quote can write: for every n at most one change for each live row and one more, which is 1,025 at most, and 57,400 bytes for
-- all watches; for the pair at most 1,024 changes; and 62,520 bytes in all
pub record ChangesFit (h : Head) (x : List ℕ) (t : Tables) (ws : List ℕ) : Type 0 where
  pub changes_each : (w : ℕ) → length (changes w (list_of h (book_rows h t) (size_in w)) (list_of (quote_head h x t ws) (quote_rows h x t ws) (size_in w))) ≤ h.live + 1
  pub changes_most : h.live + 1 ≤ most_changes
  pub watches_most : length (frames (all_changes (standing ws) (list_of h (book_rows h t)) (list_of (quote_head h x t ws) (quote_rows h x t ws)))) ≤ watch_room
  pub pair_most : length (pair_changes (pair_list_of h (book_rows h t)) (pair_list_of (quote_head h x t ws) (quote_rows h x t ws))) ≤ max_capacity
  pub bytes_most : length (quote_bytes h x t ws) ≤ change_room

-- ---- look
module _ (h : Head) (n : ℕ) (t : Tables) where
  -- the positions of the list of n
  unfoldable pub look_cells : List ℕ
  look_cells = list_of h (book_rows h t) n

  -- the answer of a look with this room for its positions: 3, 11, 12, then 5, 13
  unfoldable pub look_answer : ℕ → ℕ
  look_answer room = answer_of h t ((out_of_range h n, number WindowSize) ∷ (ltb room (length look_cells), number ShortOutput) ∷ [])

  -- what a look hands back
  unfoldable pub look_reply : ℕ → Outcome
  look_reply room = reply_of (look_answer room) h h (length look_cells)

  -- the output after a look
  unfoldable pub look_out : List ℕ → List ℕ
  look_out out = granted (look_answer (length out)) (laid look_cells out) out

-- ---- quote and look in one
module _ (h : Head) (x : List ℕ) (n : ℕ) (t : Tables) (ws : List ℕ) where
  -- the positions of the list of n after the quote
  unfoldable pub both_list : ℕ → List ℕ
  both_list room = look_cells (quote_head h x t ws) n (quote_tables h x t ws room)

  -- the answer of a quote and look with this room for changes and for positions: as the quote's, then as the look's on the book after it
  unfoldable pub both_answer : ℕ → ℕ → ℕ
  both_answer room space =
      granted (quote_answer h x t ws room) (look_answer (quote_head h x t ws) n (quote_tables h x t ws room) space) (quote_answer h x t ws room)

  -- what they hand back: if accepted the next head and the quote's count of bytes
  unfoldable pub both_reply : ℕ → ℕ → Outcome
  both_reply room space = reply_of (both_answer room space) h (quote_head h x t ws) (length (quote_bytes h x t ws))

  -- the look's count of positions
  unfoldable pub both_listed : ℕ → ℕ → ℕ
  both_listed room space = granted (both_answer room space) (length (both_list room)) 0

  -- the tables after them: the quote's, or as they were
  unfoldable pub both_tables : ℕ → ℕ → Tables
  both_tables room space = granted (both_answer room space) (quote_tables h x t ws room) t

  -- the output for frames after them
  unfoldable pub both_out : List ℕ → ℕ → List ℕ
  both_out out space = granted (both_answer (length out) space) (quote_out h x t ws out) out

  -- the output for positions after them
  unfoldable pub both_cells : ℕ → List ℕ → List ℕ
  both_cells room cells = granted (both_answer room (length cells)) (laid (both_list room) cells) cells

-- ---- past look
module _ (h : Head) (n1 n2 : ℕ) (t : Tables) where
  -- the positions of the past list of n1 and n2
  unfoldable pub past_cells : List ℕ
  past_cells = past_list_of h (book_rows h t) n1 n2

  -- the answer of a past look with this room for its positions: 3, 11, 12, then 5, 14, 13
  unfoldable pub past_answer : ℕ → ℕ
  past_answer room =
      answer_of h t ((eqb n1 0 || ltb h.capacity n2, number WindowSize) ∷ (ltb n2 n1, number WindowOrder)
      ∷ (ltb room (length past_cells), number ShortOutput) ∷ [])

  -- what a past look hands back
  unfoldable pub past_reply : ℕ → Outcome
  past_reply room = reply_of (past_answer room) h h (length past_cells)

  -- the output after a past look
  unfoldable pub past_out : List ℕ → List ℕ
  past_out out = granted (past_answer (length out)) (laid past_cells out) out

-- ---- watch and end
module _ (h : Head) (desk : Desk) (n : ℕ) (t : Tables) (ws : List ℕ) where
  -- a join for each position of the list of n, as frames
  unfoldable pub watch_bytes : List ℕ
  watch_bytes = frames (map (join (watch_of desk n)) (list_of h (book_rows h t) n))

  -- the answer of a watch with this room for its joins: 3, 11, 12, then 5, 8, 9, 13
  unfoldable pub watch_answer : ℕ → ℕ
  watch_answer room =
      watchful_answer h t ws ((out_of_range h n, number WindowSize) ∷ (contains (watch_of desk n) (standing ws), number AlreadyWatched)
      ∷ (desk_full desk (standing ws), number NoFreeRecord) ∷ (ltb room change_room, number ShortOutput) ∷ [])

  -- what a watch hands back
  unfoldable pub watch_reply : ℕ → Outcome
  watch_reply room = reply_of (watch_answer room) h h (length watch_bytes)

  -- the watch records after a watch
  unfoldable pub watch_watches : ℕ → List ℕ
  watch_watches room = granted (watch_answer room) (padded record_count (insert (watch_of desk n) (standing ws)) ws) ws

  -- the output after a watch
  unfoldable pub watch_out : List ℕ → List ℕ
  watch_out out = granted (watch_answer (length out)) (laid watch_bytes out) out

  -- the answer of the end of a watch: 3, 11, 12, then 5, 10
  unfoldable pub end_answer : ℕ
  end_answer = watchful_answer h t ws ((out_of_range h n, number WindowSize) ∷ (not (contains (watch_of desk n) (standing ws)), number NotWatched) ∷ [])

  -- what the end of a watch hands back
  unfoldable pub end_reply : Outcome
  end_reply = reply_of end_answer h h 0

  -- the watch records after the end of a watch
  unfoldable pub end_watches : List ℕ
  end_watches = granted end_answer (padded record_count (without (watch_of desk n) (standing ws)) ws) ws

-- ---- pair, its end, and what is due
module _ (h : Head) (n1 n2 : ℕ) (t : Tables) (ws : List ℕ) where
  -- a join for each position of the past list of n1 and n2, as frames
  unfoldable pub pair_bytes : List ℕ
  pair_bytes = frames (map pair_join (past_list_of h (book_rows h t) n1 n2))

  -- the answer of a watch of the pair with this room for its joins: 3, 11, 12, then 5, 14, 9, 13
  unfoldable pub pair_answer : ℕ → ℕ
  pair_answer room =
      watchful_answer h t ws ((ltb n1 2 || ltb h.capacity n2, number WindowSize) ∷ (ltb n2 n1, number WindowOrder)
      ∷ (pair_stands h, number NoFreeRecord) ∷ (ltb room change_room, number ShortOutput) ∷ [])

  -- what a watch of the pair hands back
  unfoldable pub pair_reply : ℕ → Outcome
  pair_reply room = reply_of (pair_answer room) h (with_pair h n1 n2) (length pair_bytes)

  -- the output after a watch of the pair
  unfoldable pub pair_out : List ℕ → List ℕ
  pair_out out = granted (pair_answer (length out)) (laid pair_bytes out) out

module _ (h : Head) (t : Tables) where
  -- the answer of the end of the pair: 3, 11, 12, then 10
  unfoldable pub unpair_answer : List ℕ → ℕ
  unpair_answer ws = watchful_answer h t ws ((not (pair_stands h), number NotWatched) ∷ [])

  -- what the end of the pair hands back
  unfoldable pub unpair_reply : List ℕ → Outcome
  unpair_reply ws = reply_of (unpair_answer ws) h (with_pair h 0 0) 0

  -- the rows that are due; none where no pair is watched
  unfoldable pub due_in : List Row
  due_in = cond (pair_stands h) (due_rows h.newest h.n1 h.n2 (book_rows h t)) []

  -- of each row that is due its position and after how many more quotes it joins
  unfoldable pub due_written : List ℕ
  due_written = due_cells h.newest h.n1 due_in

  -- the answer of a look at what is due with this room: 3, 11, 12, then 13
  unfoldable pub due_answer : ℕ → ℕ
  due_answer room = answer_of h t ((ltb room (length due_written), number ShortOutput) ∷ [])

  -- what a look at what is due hands back: the count is the number of rows, each of two cells
  unfoldable pub due_reply : ℕ → Outcome
  due_reply room = reply_of (due_answer room) h h (length due_in)

  -- the output after a look at what is due
  unfoldable pub due_out : List ℕ → List ℕ
  due_out out = granted (due_answer (length out)) (laid due_written out) out
