-- A list of calls on one book, run by the book model and by the reference model.
use Rattle.std.specs.Prelude.{◌≡◌, ℕ, cond, List, [], ◌∷◌, map, length}
use Rattle.lists.specs.Lists.{laid, padded}
use Rattle.head.specs.declared.Head.{Head}
use Rattle.head.specs.Heads.{fresh_head}
use Rattle.head.specs.Desks.{record_count}
use Rattle.refusals.specs.Refusals.{granted}
use Rattle.head.specs.Replies.{Outcome}
use Rattle.model.specs.Rows.{Row, Tables, filled, live_rows}
use Rattle.model.specs.Reference.{Reference, unopened, Lengths, rows_of, is_open, reference_step}
pub use Rattle.model.specs.Reference.{Call, Open, Quote, Look, Watch, End, Past, Pair, Unpair, Due, Preview, Both}
use Rattle.model.specs.Book

-- what the outputs of a call hold: bytes for frames, cells for positions; a call writes into those that it uses, the other stays as lent
pub record Outputs : Type 0 where
  pub bytes : List ℕ
  pub cells : List ℕ

-- a call of a list, with what its outputs hold when they are lent
pub record Lending : Type 0 where
  pub call : Call
  pub outputs : Outputs

-- what every call is lent: the tables and the watch records
pub record Lent : Type 0 where
  pub tables : Tables
  pub watches : List ℕ

-- what is seen after a call: what it handed back, the counts handed back beside it (of a preview the live and the held rows, of a quote and look
-- in one the positions, none of any other call), its outputs, and what was lent
pub record Seen : Type 0 where
  pub outcome : Outcome
  pub counts : List ℕ
  pub outputs : Outputs
  pub lent : Lent

-- the book between two calls: the head last handed back by a call that was no refused opening, and what is lent
pub record World : Type 0 where
  pub head : Head
  pub lent : Lent

-- what is seen of a call by the book model
unfoldable pub book_seen : Call → Outputs → World → Seen
book_seen (Open d N directions) o w =
    let t = w.lent.tables in
    let ws = w.lent.watches in
    let lent : Lent = record { tables = Book.open_tables d N directions t ws; watches = Book.open_watches d N directions t ws } in
    record { outcome = Book.open_reply d N directions t ws; counts = []; outputs = o; lent = lent }
book_seen (Quote x) o w =
    let t = w.lent.tables in
    let ws = w.lent.watches in
    let outputs : Outputs = record { bytes = Book.quote_out w.head x t ws o.bytes; cells = o.cells } in
    let lent : Lent = record { tables = Book.quote_tables w.head x t ws (length o.bytes); watches = ws } in
    record { outcome = Book.quote_reply w.head x t ws (length o.bytes); counts = []; outputs = outputs; lent = lent }
book_seen (Look n) o w =
    let t = w.lent.tables in
    let outputs : Outputs = record { bytes = o.bytes; cells = Book.look_out w.head n t o.cells } in
    record { outcome = Book.look_reply w.head n t (length o.cells); counts = []; outputs = outputs; lent = w.lent }
book_seen (Watch desk n) o w =
    let t = w.lent.tables in
    let ws = w.lent.watches in
    let outputs : Outputs = record { bytes = Book.watch_out w.head desk n t ws o.bytes; cells = o.cells } in
    let lent : Lent = record { tables = t; watches = Book.watch_watches w.head desk n t ws (length o.bytes) } in
    record { outcome = Book.watch_reply w.head desk n t ws (length o.bytes); counts = []; outputs = outputs; lent = lent }
book_seen (End desk n) o w =
    let t = w.lent.tables in
    let ws = w.lent.watches in
    let lent : Lent = record { tables = t; watches = Book.end_watches w.head desk n t ws } in
    record { outcome = Book.end_reply w.head desk n t ws; counts = []; outputs = o; lent = lent }
book_seen (Past n1 n2) o w =
    let t = w.lent.tables in
    let outputs : Outputs = record { bytes = o.bytes; cells = Book.past_out w.head n1 n2 t o.cells } in
    record { outcome = Book.past_reply w.head n1 n2 t (length o.cells); counts = []; outputs = outputs; lent = w.lent }
book_seen (Pair n1 n2) o w =
    let t = w.lent.tables in
    let ws = w.lent.watches in
    let outputs : Outputs = record { bytes = Book.pair_out w.head n1 n2 t ws o.bytes; cells = o.cells } in
    record { outcome = Book.pair_reply w.head n1 n2 t ws (length o.bytes); counts = []; outputs = outputs; lent = w.lent }
book_seen Unpair o w = record { outcome = Book.unpair_reply w.head w.lent.tables w.lent.watches; counts = []; outputs = o; lent = w.lent }
book_seen Due o w =
    let t = w.lent.tables in
    let outputs : Outputs = record { bytes = o.bytes; cells = Book.due_out w.head t o.cells } in
    record { outcome = Book.due_reply w.head t (length o.cells); counts = []; outputs = outputs; lent = w.lent }
book_seen (Preview x) o w =
    let t = w.lent.tables in
    let ws = w.lent.watches in
    let room = length o.bytes in
    let outputs : Outputs = record { bytes = Book.preview_out w.head x t ws o.bytes; cells = o.cells } in
    record { outcome = Book.preview_reply w.head x t ws room; counts = Book.preview_counts w.head x t ws room; outputs = outputs; lent = w.lent }
book_seen (Both x n) o w =
    let t = w.lent.tables in
    let ws = w.lent.watches in
    let room = length o.bytes in
    let space = length o.cells in
    let outputs : Outputs = record { bytes = Book.both_out w.head x n t ws o.bytes space; cells = Book.both_cells w.head x n t ws room o.cells } in
    let lent : Lent = record { tables = Book.both_tables w.head x n t ws room space; watches = ws } in
    record { outcome = Book.both_reply w.head x n t ws room space; counts = Book.both_listed w.head x n t ws room space ∷ []; outputs = outputs; lent = lent }

-- the head that the next call gets: the one handed back, unless by a refused opening
unfoldable pub head_after : Call → Outcome → Head → Head
head_after (Open d N directions) outcome h = granted outcome.number outcome.head h
head_after (Quote x) outcome h = outcome.head
head_after (Look n) outcome h = outcome.head
head_after (Watch desk n) outcome h = outcome.head
head_after (End desk n) outcome h = outcome.head
head_after (Past n1 n2) outcome h = outcome.head
head_after (Pair n1 n2) outcome h = outcome.head
head_after Unpair outcome h = outcome.head
head_after Due outcome h = outcome.head
head_after (Preview x) outcome h = outcome.head
head_after (Both x n) outcome h = outcome.head

-- the book after a call of which this was seen
unfoldable pub world_after : Call → Seen → World → World
world_after c seen w = record { head = head_after c seen.outcome w.head; lent = seen.lent }

-- one call by the book model
unfoldable pub book_step : Call → Outputs → World → Seen × World
book_step c o w = let seen = book_seen c o w in (seen, world_after c seen w)

-- the lengths of what is lent, and of the outputs
unfoldable pub lengths_of : Lent → Outputs → Lengths
lengths_of l o = record {
  columns = length l.tables.columns;
  positions = length l.tables.positions;
  lower_ends = length l.tables.lower_ends;
  upper_ends = length l.tables.upper_ends;
  watches = length l.watches;
  bytes = length o.bytes;
  cells = length o.cells;
}

-- what is lent, filled from the reference model: from the first accepted opening on the N places of each table from its rows and
-- the eight records from its watches; all else as it was
unfoldable pub shown : Reference → Lent → Lent
shown s l =
    cond (is_open s)
    (record { tables = filled s.dimensions s.capacity (rows_of s) l.tables; watches = padded record_count s.watched l.watches })
    l

-- the reference model between two calls, with what is lent: what the book is expected to show
pub record Expected : Type 0 where
  pub reference : Reference
  pub lent : Lent

-- one call by the reference model: what is then to be seen, all past what is written as lent
unfoldable pub expected_step : Call → Outputs → Expected → Seen × Expected
expected_step c o k =
    let told = reference_step c (lengths_of k.lent o) k.reference in
    let outcome : Outcome = record { number = told.number; head = told.head; count = told.count } in
    let outputs : Outputs = record { bytes = laid told.bytes o.bytes; cells = laid told.cells o.cells } in
    let lent = shown told.next k.lent in
    (record { outcome = outcome; counts = told.counts; outputs = outputs; lent = lent }, record { reference = told.next; lent = lent })

-- what is seen after each call of a list, and where it ends
module _ {S : Type 0} (step : Call → Outputs → S → Seen × S) where
  unfoldable pub runs : List Lending → S → List Seen × S
  runs [] s = ([], s)
  runs (c ∷ cs) s =
      let one = step c.call c.outputs s in
      let rest = runs cs one.1 in
      (one.0 ∷ rest.0, rest.1)

module _ (l : Lent) where
  -- at first: a head of zeros, and anything lent
  abbrev pub world_first : World
  world_first = record { head = fresh_head 0 0 0; lent = l }

  -- at first: no opening, and the same lent
  abbrev pub expected_first : Expected
  expected_first = record { reference = unopened; lent = l }

module _ (cs : List Lending) (l : Lent) where
  -- the book at the end of a list of calls, by the book model
  abbrev pub world_at_end : World
  world_at_end = (runs book_step cs (world_first l)).1

  -- the reference model and what is lent at the end of a list of calls
  abbrev pub expected_at_end : Expected
  expected_at_end = (runs expected_step cs (expected_first l)).1

  -- the reference model at the end of a list of calls
  abbrev pub reference_at_end : Reference
  reference_at_end = expected_at_end.reference

-- the positions of the rows that the head and the tables of a book hold
abbrev pub positions_in : World → List ℕ
positions_in w = map Row.position (Book.book_rows w.head w.lent.tables)

-- the positions of those of them that are live
abbrev pub live_positions_in : World → List ℕ
live_positions_in w = map Row.position (live_rows (Book.book_rows w.head w.lent.tables))

-- a book that some list of calls leaves, from a head of zeros and anything lent
pub record Reached (w : World) : Type 0 where
  pub calls : List Lending
  pub lent : Lent
  pub ends : world_at_end calls lent ≡ w
