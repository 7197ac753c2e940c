-- The reference model (01: the plain desk): it keeps every quote and works each answer out from the definitions.
use Rattle.std.specs.Prelude.{ℕ, ◌+◌, ◌-◌, ◌*◌, Bool, ◌&&◌, ◌||◌, not, cond, List, [], ◌∷◌, ◌++◌, map, ltb, leb, eqb, length}
use Rattle.lists.specs.Lists.{between, contains, insert, without}
use Rattle.dominance.specs.Renewal.{quote_at, renewed}
use Rattle.skyline.specs.Skyline.{window_start, skyline}
use Rattle.skyline.specs.Past.{lower_end, upper_end}
use Rattle.head.specs.declared.Head.{Head}
use Rattle.head.specs.declared.Desk.{Desk}
use Rattle.head.specs.Desks.{record_count, watch_of}
use Rattle.refusals.specs.declared.Refusal.TheVariants.{Settings, ColumnCount, WindowSize, TapeFull, AlreadyWatched, NoFreeRecord, NotWatched, ShortLoan, ShortOutput, WindowOrder}
use Rattle.refusals.specs.Refusals.{number, first_of, granted}
use Rattle.head.specs.Heads.{max_dimensions, max_capacity, fresh_head, settings_hold, last_position}
use Rattle.model.specs.Rows.{Row, live_rows, due_rows, due_cells}
use Rattle.model.specs.Changes.{join, pair_join, all_changes, pair_changes, frames, change_room}
use Rattle.model.specs.Shares.{desk_full}

-- what the reference model holds: the settings (zeros at first), every quote accepted since they were taken, the watches of
-- both desks, each as the number of its record, and the watched pair (0 and 0 when unset)
pub record Reference : Type 0 where
  pub dimensions : ℕ
  pub capacity : ℕ
  pub directions : ℕ
  pub quotes : List (List ℕ)
  pub watched : List ℕ
  pub n1 : ℕ
  pub n2 : ℕ

-- before any opening
abbrev pub unopened : Reference
unopened = record { dimensions = 0; capacity = 0; directions = 0; quotes = []; watched = []; n1 = 0; n2 = 0 }

module _ (s : Reference) where
  -- the newest position (01: M)
  abbrev pub newest : ℕ
  newest = length s.quotes

  -- one position is over another
  abbrev pub over : ℕ → ℕ → Bool
  over = renewed s.dimensions s.directions s.quotes

  -- the skyline of the window of n (01: the list of n)
  unfoldable pub skyline_of : ℕ → List ℕ
  skyline_of n = skyline over (window_start newest n) newest

  -- the skyline of the window that begins with that of n2 and ended n1 quotes back, with the quote at M counted (02, 1/13: the past
  -- list); empty where it ended before the first
  unfoldable pub past_of : ℕ → ℕ → List ℕ
  past_of n1 n2 = skyline over (window_start newest n2) (newest + 1 - n1)

  -- a pair is watched
  unfoldable pub paired : Bool
  paired = not (eqb s.n1 0)

  -- the past list of the watched pair; none where no pair is watched
  unfoldable pub pair_of : List ℕ
  pair_of = cond paired (past_of s.n1 s.n2) []

  -- the row at a position
  unfoldable pub row_of : ℕ → Row
  row_of p = record {
    position = p;
    lower_end = lower_end over (window_start newest s.capacity) p;
    upper_end = upper_end over newest p;
    columns = quote_at s.quotes p;
  }

  -- the rows held: one for every position of the window of N, oldest first
  unfoldable pub rows_of : List Row
  rows_of = map row_of (between (window_start newest s.capacity) newest)

  -- the head that a call hands back
  unfoldable pub head_of : Head
  head_of = record {
    dimensions = s.dimensions;
    capacity = s.capacity;
    directions = s.directions;
    newest = newest;
    live = length (live_rows rows_of);
    held = length rows_of;
    n1 = s.n1;
    n2 = s.n2;
  }

  -- the rows that are due for the past list of the watched pair; none where no pair is watched
  unfoldable pub due_of : List Row
  due_of = cond paired (due_rows newest s.n1 s.n2 rows_of) []

  -- the settings were taken by an opening
  unfoldable pub is_open : Bool
  is_open = settings_hold s.dimensions s.capacity s.directions

  -- n is 0 or above N
  unfoldable pub outside : ℕ → Bool
  outside n = not (leb 1 n && leb n s.capacity)

  -- n1 is 0, or n2 above N
  unfoldable pub outside_past : ℕ → ℕ → Bool
  outside_past n1 n2 = eqb n1 0 || ltb s.capacity n2

  -- n1 is below 2, or n2 above N
  unfoldable pub outside_pair : ℕ → ℕ → Bool
  outside_pair n1 n2 = ltb n1 2 || ltb s.capacity n2

  -- with more quotes
  abbrev pub with_quotes : List (List ℕ) → Reference
  with_quotes more = record {
    dimensions = s.dimensions;
    capacity = s.capacity;
    directions = s.directions;
    quotes = s.quotes ++ more;
    watched = s.watched;
    n1 = s.n1;
    n2 = s.n2;
  }

  -- with one more quote
  unfoldable pub with_quote : List ℕ → Reference
  with_quote x = with_quotes (x ∷ [])

  -- with these watches
  unfoldable pub with_watched : List ℕ → Reference
  with_watched ws = record {
    dimensions = s.dimensions;
    capacity = s.capacity;
    directions = s.directions;
    quotes = s.quotes;
    watched = ws;
    n1 = s.n1;
    n2 = s.n2;
  }

  -- with this pair watched; none for 0 and 0
  unfoldable pub with_pair_of : ℕ → ℕ → Reference
  with_pair_of n1 n2 = record {
    dimensions = s.dimensions;
    capacity = s.capacity;
    directions = s.directions;
    quotes = s.quotes;
    watched = s.watched;
    n1 = n1;
    n2 = n2;
  }

-- a book just opened with these settings
unfoldable pub opening : ℕ → ℕ → ℕ → Reference
opening d N directions = record { dimensions = d; capacity = N; directions = directions; quotes = []; watched = []; n1 = 0; n2 = 0 }

-- a call on a book: an opening with d, N and directions; a quote with its columns; a look with its n; a desk's watch and its end with their n;
-- a look at a past list with its n1 and n2; a watch of the pair n1 and n2, its end, and what is due; a preview of a quote with its columns; a
-- quote with its columns and, behind it, a look with its n, in one (02, 8/13)
pub data Call : Type 0 where
  Open : ℕ → ℕ → ℕ → Call
  Quote : List ℕ → Call
  Look : ℕ → Call
  Watch : Desk → ℕ → Call
  End : Desk → ℕ → Call
  Past : ℕ → ℕ → Call
  Pair : ℕ → ℕ → Call
  Unpair : Call
  Due : Call
  Preview : List ℕ → Call
  Both : List ℕ → ℕ → Call

-- the lengths of what a call is lent: the four tables, the watch records, and the outputs for frames (bytes) and for positions (cells)
pub record Lengths : Type 0 where
  pub columns : ℕ
  pub positions : ℕ
  pub lower_ends : ℕ
  pub upper_ends : ℕ
  pub watches : ℕ
  pub bytes : ℕ
  pub cells : ℕ

-- lengths that are enough for every book and every answer: 1,024 rows of six columns, eight records, 62,520 bytes, and two cells for
-- each of 1,024 rows
abbrev pub ample : Lengths
ample = record {
  columns = max_capacity * max_dimensions;
  positions = max_capacity;
  lower_ends = max_capacity;
  upper_ends = max_capacity;
  watches = record_count;
  bytes = change_room;
  cells = 2 * max_capacity;
}

-- what the model tells of a call: 0 or the number of its refusal, the head and the count handed back, what is written at the start of
-- each output, the counts handed back beside it (of a preview the live and the held rows, of a quote and look in one the positions), and the
-- model after it
pub record Told : Type 0 where
  pub number : ℕ
  pub head : Head
  pub count : ℕ
  pub bytes : List ℕ
  pub cells : List ℕ
  pub counts : List ℕ
  pub next : Reference

-- a table or the watch list is too short for these settings
unfoldable pub too_short : Lengths → ℕ → ℕ → Bool
too_short l d N = ltb l.columns (N * d) || ltb l.positions N || ltb l.lower_ends N || ltb l.upper_ends N || ltb l.watches record_count

-- a call with these refusals, tried in order: if accepted it tells the next model, the count, and what is written as bytes and as
-- cells; a refused one leaves the model as it is
unfoldable pub tells : List (Bool × ℕ) → Head → ℕ → List ℕ → List ℕ → Reference → Reference → Told
tells refusals refusedHead count bytes cells next s =
    let refusal = first_of refusals in
    record {
      number = refusal;
      head = granted refusal (head_of next) refusedHead;
      count = granted refusal count 0;
      bytes = granted refusal bytes [];
      cells = granted refusal cells [];
      counts = [];
      next = granted refusal next s;
    }

-- a preview, by what is told of the quote: its answer and what it writes, the row counts of the head that it hands back; the model stays
unfoldable pub foretells : Told → Reference → Told
foretells quoted s = record {
  number = quoted.number;
  head = head_of s;
  count = quoted.count;
  bytes = quoted.bytes;
  cells = [];
  counts = quoted.head.live ∷ quoted.head.held ∷ [];
  next = s;
}

-- what is told of a quote, its refusals in 01's order
abbrev quote_told : List ℕ → Lengths → Reference → Told
quote_told x l s =
    let next = with_quote s x in
    let written = frames (all_changes s.watched (skyline_of s) (skyline_of next) ++ pair_changes (pair_of s) (pair_of next)) in
    tells ((not (is_open s), number Settings) ∷ (not (eqb (length x) s.dimensions), number ColumnCount)
    ∷ (leb last_position (newest s), number TapeFull) ∷ (ltb l.bytes change_room, number ShortOutput) ∷ [])
    (head_of s) (length written) written [] next s

-- what is told of a look, its refusals in 01's order
abbrev look_told : ℕ → Lengths → Reference → Told
look_told n l s =
    let written = skyline_of s n in
    tells ((not (is_open s), number Settings) ∷ (outside s n, number WindowSize) ∷ (ltb l.cells (length written), number ShortOutput) ∷ [])
    (head_of s) (length written) [] written s s

-- a quote and look in one, by what is told of the quote, and of the look on the model after it: refused as the quote, then as the look, and
-- where either is refused the model stays
unfoldable pub tells_both : Told → Told → Reference → Told
tells_both quoted looked s =
    let refusal = granted quoted.number looked.number quoted.number in
    record {
      number = refusal;
      head = granted refusal quoted.head (head_of s);
      count = granted refusal quoted.count 0;
      bytes = granted refusal quoted.bytes [];
      cells = granted refusal looked.cells [];
      counts = granted refusal looked.count 0 ∷ [];
      next = granted refusal quoted.next s;
    }

-- one call of the reference model, its refusals in 01's order
unfoldable pub reference_step : Call → Lengths → Reference → Told
reference_step (Open d N directions) l s =
    tells ((not (settings_hold d N directions), number Settings) ∷ (too_short l d N, number ShortLoan) ∷ [])
    (fresh_head 0 0 0) 0 [] [] (opening d N directions) s
reference_step (Quote x) l s = quote_told x l s
reference_step (Look n) l s = look_told n l s
reference_step (Watch desk n) l s =
    let watch = watch_of desk n in
    let written = frames (map (join watch) (skyline_of s n)) in
    tells ((not (is_open s), number Settings) ∷ (outside s n, number WindowSize) ∷ (contains watch s.watched, number AlreadyWatched)
    ∷ (desk_full desk s.watched, number NoFreeRecord) ∷ (ltb l.bytes change_room, number ShortOutput) ∷ [])
    (head_of s) (length written) written [] (with_watched s (insert watch s.watched)) s
reference_step (End desk n) l s =
    let watch = watch_of desk n in
    tells ((not (is_open s), number Settings) ∷ (outside s n, number WindowSize) ∷ (not (contains watch s.watched), number NotWatched) ∷ [])
    (head_of s) 0 [] [] (with_watched s (without watch s.watched)) s
reference_step (Past n1 n2) l s =
    let written = past_of s n1 n2 in
    tells ((not (is_open s), number Settings) ∷ (outside_past s n1 n2, number WindowSize) ∷ (ltb n2 n1, number WindowOrder)
    ∷ (ltb l.cells (length written), number ShortOutput) ∷ [])
    (head_of s) (length written) [] written s s
reference_step (Pair n1 n2) l s =
    let written = frames (map pair_join (past_of s n1 n2)) in
    tells ((not (is_open s), number Settings) ∷ (outside_pair s n1 n2, number WindowSize) ∷ (ltb n2 n1, number WindowOrder)
    ∷ (paired s, number NoFreeRecord) ∷ (ltb l.bytes change_room, number ShortOutput) ∷ [])
    (head_of s) (length written) written [] (with_pair_of s n1 n2) s
reference_step Unpair l s =
    tells ((not (is_open s), number Settings) ∷ (not (paired s), number NotWatched) ∷ [])
    (head_of s) 0 [] [] (with_pair_of s 0 0) s
reference_step Due l s =
    let written = due_cells (newest s) s.n1 (due_of s) in
    tells ((not (is_open s), number Settings) ∷ (ltb l.cells (length written), number ShortOutput) ∷ [])
    (head_of s) (length (due_of s)) [] written s s
reference_step (Preview x) l s = foretells (quote_told x l s) s
reference_step (Both x n) l s = let quoted = quote_told x l s in tells_both quoted (look_told n l quoted.next) s
