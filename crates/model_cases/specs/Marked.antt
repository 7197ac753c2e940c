-- 01's marked cases M1 to M10 and its worked tape as 02 has them, books with equal rows, two tapes with past lists, two with a watched pair,
-- two with two desks, quotes and looks in one, and torn records: one table of questions with their answers, and the answers that the
-- definitions give.
use Rattle.std.specs.Prelude.{ℕ, ◌+◌, ◌-◌, Bool, true, false, ◌&&◌, cond, List, [], ◌∷◌, ◌++◌, map, eqb, length, take, replicate}
use Rattle.lists.specs.Lists.{head_or, run}
use Rattle.head.specs.declared.Head.{Head}
use Rattle.head.specs.declared.Desk.TheVariants.{One, Two}
use Rattle.head.specs.Replies.{Finding, yes, no, refused}
use Rattle.head.specs.Desks.{record_of}
use Rattle.model.specs.Rows.{Row, Tables, live_rows}
use Rattle.model.specs.Changes.{change_room}
use Rattle.model.specs.Reference.{Reference, Lengths, Told, unopened, opening, skyline_of, row_of, rows_of, reference_step}
use Rattle.model.specs.Book.{torn_watches}
use Rattle.model.specs.Calls.{Call, Open, Quote, Look, Watch, End, Past, Pair, Unpair, Due, Preview, Both, Outputs, Lending, Lent, Seen, book_step, runs, world_first}
use Rattle.model_audit.specs.Audit.{audit_finding, plays}

-- the two models that calls are run by
pub data Model : Type 0 where
  ByReference : Model
  ByBook : Model

-- what a line of the table asks; its answer is a list of lists of numbers
pub data Question : Type 0 where
  -- the list of each of these n, after the first k quotes of the tape
  Lists : ℕ → List ℕ → Question
  -- the positions of the live rows, after the first k quotes of the tape
  Rows : ℕ → Question
  -- the lower end of a position, after the first k quotes of the tape
  LowerEnd : ℕ → ℕ → Question
  -- the lower and the upper ends of the rows held, after the first k quotes of the tape
  Ends : ℕ → Question
  -- the number of live rows after each quote of the tape, in a book of N
  RowCounts : ℕ → Question
  -- of each of these calls the refusal (0 for none), the newest position, the number of live rows, and what is written
  Lines : List Call → Question
  -- what the audit says of a book: 1 for yes, 0 for no
  Audit : Head → Tables → Question
  -- whether eight records are torn in a book of N, these the first, each a desk and an n, and empties behind them: 1 for torn, 0 for not
  Torn : ℕ → List (ℕ × ℕ) → Question

-- a line of the table
pub record Case : Type 0 where
  pub question : Question
  pub answer : List (List ℕ)

-- ---- 01's tape

-- its quotes
abbrev quotes : List (List ℕ)
quotes = (5 ∷ 5 ∷ []) ∷ (3 ∷ 8 ∷ []) ∷ (4 ∷ 4 ∷ []) ∷ (7 ∷ 2 ∷ []) ∷ (4 ∷ 4 ∷ []) ∷ (6 ∷ 6 ∷ []) ∷ (2 ∷ 9 ∷ []) ∷ (4 ∷ 3 ∷ []) ∷ []

-- the reference model of a book of N after the first k quotes of the tape
abbrev after : ℕ → ℕ → Reference
after N k = plays (take k quotes) (opening 2 N 0)

-- outputs with room for every answer below: as many bytes as a call that writes changes asks for
unfoldable pub roomy : Outputs
roomy = record { bytes = replicate change_room 7; cells = replicate 40 7 }

-- these calls, each with such outputs
abbrev pub lending : List Call → List Lending
lending cs = map (λ c. record { call = c; outputs = roomy }) cs

-- a quote of two columns
abbrev quote : ℕ → ℕ → Call
quote a b = Quote (a ∷ b ∷ [])

-- the calls of 01's tape
abbrev tape : List Call
tape =
    Open 2 5 0 ∷ quote 5 5 ∷ quote 3 8 ∷ quote 4 4 ∷ quote 7 2 ∷ quote 4 4 ∷ Watch One 2 ∷ quote 6 6 ∷ Look 5 ∷ quote 2 9 ∷ quote 4 3
    ∷ Look 3 ∷ []

-- tables and watch records of any content, longer than the books below ask
abbrev pub lent : Lent
lent = record {
  tables = record { columns = replicate 14 9; positions = replicate 9 9; lower_ends = replicate 9 9; upper_ends = replicate 9 9 };
  watches = replicate 9 5;
}

-- their lengths and those of the outputs
abbrev pub lengths : Lengths
lengths = record { columns = 14; positions = 9; lower_ends = 9; upper_ends = 9; watches = 9; bytes = change_room; cells = 40 }

-- each call that takes an n, at N and at N + 1, on an empty book
abbrev edges : List Call
edges = Open 2 5 0 ∷ Look 5 ∷ Look 6 ∷ Watch One 5 ∷ Watch One 6 ∷ End One 5 ∷ End One 6 ∷ []

-- N is taken, N + 1 is refused with 5, and nothing is written
abbrev edge_lines : List (List ℕ)
edge_lines = map (λ k. k ∷ 0 ∷ 0 ∷ []) (0 ∷ 0 ∷ 5 ∷ 0 ∷ 5 ∷ 0 ∷ 5 ∷ [])

-- the frame of a leave
abbrev leave : ℕ → ℕ → List ℕ
leave n p = 32 ∷ n ∷ 0 ∷ p ∷ 0 ∷ 0 ∷ 0 ∷ []

-- the frame of a join
abbrev join : ℕ → ℕ → List ℕ
join n p = 33 ∷ n ∷ 0 ∷ p ∷ 0 ∷ 0 ∷ 0 ∷ []

-- the print of the tape (02, 5/13): no refusal, newest position, rows, and what is written
abbrev print : List (List ℕ)
print =
    (0 ∷ 0 ∷ 0 ∷ [])
    ∷ (0 ∷ 1 ∷ 1 ∷ [])
    ∷ (0 ∷ 2 ∷ 2 ∷ [])
    ∷ (0 ∷ 3 ∷ 2 ∷ [])
    ∷ (0 ∷ 4 ∷ 3 ∷ [])
    ∷ (0 ∷ 5 ∷ 3 ∷ [])
    ∷ (0 ∷ 5 ∷ 3 ∷ join 2 4 ++ join 2 5)
    ∷ (0 ∷ 6 ∷ 4 ∷ leave 2 4)
    ∷ (0 ∷ 6 ∷ 4 ∷ 2 ∷ 4 ∷ 5 ∷ [])
    ∷ (0 ∷ 7 ∷ 4 ∷ leave 2 5 ++ join 2 6 ++ join 2 7)
    ∷ (0 ∷ 8 ∷ 3 ∷ leave 2 6 ++ join 2 8)
    ∷ (0 ∷ 8 ∷ 3 ∷ 7 ∷ 8 ∷ [])
    ∷ []

-- the calls of a tape with past lists
abbrev past_tape : List Call
past_tape =
    Open 2 5 0 ∷ quote 5 5 ∷ quote 3 8 ∷ quote 4 4 ∷ Past 3 3 ∷ Past 2 3 ∷ quote 7 2 ∷ quote 4 4 ∷ quote 6 6 ∷ Past 1 3 ∷ Past 2 3 ∷ Past 3 5
    ∷ quote 2 9 ∷ quote 4 3 ∷ Past 1 5 ∷ Past 2 5 ∷ Past 2 2 ∷ Past 5 5 ∷ Look 5 ∷ Past 0 5 ∷ Past 1 6 ∷ Past 6 5 ∷ Past 1 0 ∷ []

-- its print, and the refusals 5, 5, 14 and 14 behind it
abbrev past_print : List (List ℕ)
past_print =
    (0 ∷ 0 ∷ 0 ∷ [])
    ∷ (0 ∷ 1 ∷ 1 ∷ [])
    ∷ (0 ∷ 2 ∷ 2 ∷ [])
    ∷ (0 ∷ 3 ∷ 2 ∷ [])
    ∷ (0 ∷ 3 ∷ 2 ∷ 1 ∷ [])
    ∷ (0 ∷ 3 ∷ 2 ∷ 1 ∷ 2 ∷ [])
    ∷ (0 ∷ 4 ∷ 3 ∷ [])
    ∷ (0 ∷ 5 ∷ 3 ∷ [])
    ∷ (0 ∷ 6 ∷ 4 ∷ [])
    ∷ (0 ∷ 6 ∷ 4 ∷ 4 ∷ 5 ∷ [])
    ∷ (0 ∷ 6 ∷ 4 ∷ 4 ∷ 5 ∷ [])
    ∷ (0 ∷ 6 ∷ 4 ∷ 2 ∷ 3 ∷ 4 ∷ [])
    ∷ (0 ∷ 7 ∷ 4 ∷ [])
    ∷ (0 ∷ 8 ∷ 3 ∷ [])
    ∷ (0 ∷ 8 ∷ 3 ∷ 4 ∷ 7 ∷ 8 ∷ [])
    ∷ (0 ∷ 8 ∷ 3 ∷ 4 ∷ 5 ∷ 7 ∷ [])
    ∷ (0 ∷ 8 ∷ 3 ∷ 7 ∷ [])
    ∷ (0 ∷ 8 ∷ 3 ∷ 4 ∷ [])
    ∷ (0 ∷ 8 ∷ 3 ∷ 4 ∷ 7 ∷ 8 ∷ [])
    ∷ (5 ∷ 8 ∷ 3 ∷ [])
    ∷ (5 ∷ 8 ∷ 3 ∷ [])
    ∷ (14 ∷ 8 ∷ 3 ∷ [])
    ∷ (14 ∷ 8 ∷ 3 ∷ [])
    ∷ []

-- past lists whose window closed before the first quote, on an empty book and after two quotes, and one that closed with the first
abbrev closed_tape : List Call
closed_tape = Open 2 5 0 ∷ Past 1 5 ∷ quote 5 5 ∷ quote 3 8 ∷ Past 4 5 ∷ Past 3 3 ∷ Past 3 5 ∷ Past 2 5 ∷ []

-- its print: accepted, and nothing listed where b is below 1
abbrev closed_print : List (List ℕ)
closed_print =
    (0 ∷ 0 ∷ 0 ∷ [])
    ∷ (0 ∷ 0 ∷ 0 ∷ [])
    ∷ (0 ∷ 1 ∷ 1 ∷ [])
    ∷ (0 ∷ 2 ∷ 2 ∷ [])
    ∷ (0 ∷ 2 ∷ 2 ∷ [])
    ∷ (0 ∷ 2 ∷ 2 ∷ [])
    ∷ (0 ∷ 2 ∷ 2 ∷ [])
    ∷ (0 ∷ 2 ∷ 2 ∷ 1 ∷ [])
    ∷ []

-- the frame of a leave of the pair
abbrev pair_leave : ℕ → List ℕ
pair_leave p = 36 ∷ p ∷ 0 ∷ 0 ∷ 0 ∷ []

-- the frame of a join of the pair
abbrev pair_join : ℕ → List ℕ
pair_join p = 37 ∷ p ∷ 0 ∷ 0 ∷ 0 ∷ []

-- the calls of a tape with a watched pair, and what is due after each quote; behind them pairs that cannot be set, one that stands
-- already, and the end of the pair
abbrev pair_tape : List Call
pair_tape =
    Open 2 6 0 ∷ Due ∷ Pair 3 5 ∷ Due ∷ quote 3 3 ∷ Due ∷ quote 4 4 ∷ Due ∷ quote 1 5 ∷ Due ∷ quote 2 2 ∷ Due ∷ quote 9 9 ∷ Due ∷ quote 1 1 ∷ Due
    ∷ quote 5 5 ∷ Due ∷ Pair 1 5 ∷ Pair 2 7 ∷ Pair 4 3 ∷ Pair 3 5 ∷ Unpair ∷ Unpair ∷ Due ∷ Pair 2 6 ∷ []

-- its print
abbrev pair_print : List (List ℕ)
pair_print =
    (0 ∷ 0 ∷ 0 ∷ [])
    ∷ (0 ∷ 0 ∷ 0 ∷ [])
    ∷ (0 ∷ 0 ∷ 0 ∷ [])
    ∷ (0 ∷ 0 ∷ 0 ∷ [])
    ∷ (0 ∷ 1 ∷ 1 ∷ [])
    ∷ (0 ∷ 1 ∷ 1 ∷ 1 ∷ 2 ∷ [])
    ∷ (0 ∷ 2 ∷ 2 ∷ [])
    ∷ (0 ∷ 2 ∷ 2 ∷ 1 ∷ 1 ∷ [])
    ∷ (0 ∷ 3 ∷ 3 ∷ pair_join 1)
    ∷ (0 ∷ 3 ∷ 3 ∷ 3 ∷ 2 ∷ [])
    ∷ (0 ∷ 4 ∷ 2 ∷ [])
    ∷ (0 ∷ 4 ∷ 2 ∷ 3 ∷ 1 ∷ 4 ∷ 2 ∷ [])
    ∷ (0 ∷ 5 ∷ 3 ∷ pair_join 3)
    ∷ (0 ∷ 5 ∷ 3 ∷ 4 ∷ 1 ∷ [])
    ∷ (0 ∷ 6 ∷ 1 ∷ pair_leave 1 ++ pair_join 4)
    ∷ (0 ∷ 6 ∷ 1 ∷ 6 ∷ 2 ∷ [])
    ∷ (0 ∷ 7 ∷ 2 ∷ [])
    ∷ (0 ∷ 7 ∷ 2 ∷ 6 ∷ 1 ∷ [])
    ∷ (5 ∷ 7 ∷ 2 ∷ [])
    ∷ (5 ∷ 7 ∷ 2 ∷ [])
    ∷ (14 ∷ 7 ∷ 2 ∷ [])
    ∷ (9 ∷ 7 ∷ 2 ∷ [])
    ∷ (0 ∷ 7 ∷ 2 ∷ [])
    ∷ (10 ∷ 7 ∷ 2 ∷ [])
    ∷ (0 ∷ 7 ∷ 2 ∷ [])
    ∷ (0 ∷ 7 ∷ 2 ∷ pair_join 6)
    ∷ []

-- the calls of a tape with a watch beside the pair
abbrev both_tape : List Call
both_tape = Open 2 6 0 ∷ Pair 2 3 ∷ Watch One 1 ∷ quote 5 5 ∷ quote 4 6 ∷ quote 1 1 ∷ quote 2 2 ∷ []

-- its print: the pair's changes stand behind those of the watch
abbrev both_print : List (List ℕ)
both_print =
    (0 ∷ 0 ∷ 0 ∷ [])
    ∷ (0 ∷ 0 ∷ 0 ∷ [])
    ∷ (0 ∷ 0 ∷ 0 ∷ [])
    ∷ (0 ∷ 1 ∷ 1 ∷ join 1 1)
    ∷ (0 ∷ 2 ∷ 2 ∷ leave 1 1 ++ join 1 2 ++ pair_join 1)
    ∷ (0 ∷ 3 ∷ 1 ∷ leave 1 2 ++ join 1 3 ++ pair_join 2)
    ∷ (0 ∷ 4 ∷ 2 ∷ leave 1 3 ++ join 1 4 ++ pair_leave 1 ++ pair_leave 2 ++ pair_join 3)
    ∷ []

-- 02's example of two desks that share the records: 9 for desk one with 5 watches, for desk two with 3 beside them, then once the two
-- left over are both taken
abbrev shares_tape : List Call
shares_tape =
    Open 1 8 0 ∷ Watch One 1 ∷ Watch One 2 ∷ Watch One 3 ∷ Watch One 4 ∷ Watch One 5 ∷ Watch One 6 ∷ Watch Two 1 ∷ Watch Two 2 ∷ Watch Two 3 ∷ Watch Two 4
    ∷ End One 5 ∷ Watch Two 4 ∷ Watch One 5 ∷ Watch Two 5 ∷ End Two 1 ∷ Watch One 5 ∷ Watch Two 1 ∷ []

-- its refusals
abbrev shares_print : List (List ℕ)
shares_print = map (λ k. k ∷ 0 ∷ 0 ∷ []) (0 ∷ 0 ∷ 0 ∷ 0 ∷ 0 ∷ 0 ∷ 9 ∷ 0 ∷ 0 ∷ 0 ∷ 9 ∷ 0 ∷ 0 ∷ 9 ∷ 9 ∷ 0 ∷ 0 ∷ 9 ∷ [])

-- the frames of desk two's changes
abbrev leave_two : ℕ → ℕ → List ℕ
leave_two n p = 34 ∷ n ∷ 0 ∷ p ∷ 0 ∷ 0 ∷ 0 ∷ []

abbrev join_two : ℕ → ℕ → List ℕ
join_two n p = 35 ∷ n ∷ 0 ∷ p ∷ 0 ∷ 0 ∷ 0 ∷ []

-- the calls of a tape with watches of both desks, set in no order, and the pair; behind them a watch that stands at the other desk, its
-- end, and one that stands already
abbrev desks_tape : List Call
desks_tape =
    Open 2 6 0 ∷ Watch Two 2 ∷ Watch Two 1 ∷ Watch One 1 ∷ Pair 2 3 ∷ quote 5 5 ∷ quote 4 6 ∷ End One 1 ∷ quote 1 1 ∷ End One 1 ∷ Watch One 2 ∷ Watch Two 2 ∷ []

-- its print: desk one's changes, desk two's by n rising, then the pair's
abbrev desks_print : List (List ℕ)
desks_print =
    (0 ∷ 0 ∷ 0 ∷ [])
    ∷ (0 ∷ 0 ∷ 0 ∷ [])
    ∷ (0 ∷ 0 ∷ 0 ∷ [])
    ∷ (0 ∷ 0 ∷ 0 ∷ [])
    ∷ (0 ∷ 0 ∷ 0 ∷ [])
    ∷ (0 ∷ 1 ∷ 1 ∷ join 1 1 ++ join_two 1 1 ++ join_two 2 1)
    ∷ (0 ∷ 2 ∷ 2 ∷ leave 1 1 ++ join 1 2 ++ leave_two 1 1 ++ join_two 1 2 ++ join_two 2 2 ++ pair_join 1)
    ∷ (0 ∷ 2 ∷ 2 ∷ [])
    ∷ (0 ∷ 3 ∷ 1 ∷ leave_two 1 2 ++ join_two 1 3 ++ leave_two 2 1 ++ leave_two 2 2 ++ join_two 2 3 ++ pair_join 2)
    ∷ (10 ∷ 3 ∷ 1 ∷ [])
    ∷ (0 ∷ 3 ∷ 1 ∷ join 2 3)
    ∷ (8 ∷ 3 ∷ 1 ∷ [])
    ∷ []

-- quotes and looks in one beside a watch, each of the list after its quote; an n above N is refused behind the quote's own refusals, and
-- leaves no trace of the quote
abbrev in_one_tape : List Call
in_one_tape =
    Open 2 5 0 ∷ Watch One 2 ∷ Both (5 ∷ 5 ∷ []) 5 ∷ Both (3 ∷ 8 ∷ []) 1 ∷ Both (4 ∷ 4 ∷ []) 6 ∷ Both (4 ∷ []) 6 ∷ Look 5 ∷ Both (4 ∷ 4 ∷ []) 3
    ∷ Look 3 ∷ []

-- its print: the changes of the watch, and behind them the list
abbrev in_one_print : List (List ℕ)
in_one_print =
    (0 ∷ 0 ∷ 0 ∷ [])
    ∷ (0 ∷ 0 ∷ 0 ∷ [])
    ∷ (0 ∷ 1 ∷ 1 ∷ join 2 1 ++ 1 ∷ [])
    ∷ (0 ∷ 2 ∷ 2 ∷ join 2 2 ++ 2 ∷ [])
    ∷ (5 ∷ 2 ∷ 2 ∷ [])
    ∷ (4 ∷ 2 ∷ 2 ∷ [])
    ∷ (0 ∷ 2 ∷ 2 ∷ 1 ∷ 2 ∷ [])
    ∷ (0 ∷ 3 ∷ 2 ∷ leave 2 1 ++ join 2 3 ++ 2 ∷ 3 ∷ [])
    ∷ (0 ∷ 3 ∷ 2 ∷ 2 ∷ 3 ∷ [])
    ∷ []

-- ---- the audit's books

-- one column, N = 2, low, M = 2, and this many rows, all live
abbrev book : ℕ → Head
book count = record { dimensions = 1; capacity = 2; directions = 0; newest = 2; live = count; held = count; n1 = 0; n2 = 0 }

-- the same with two rows and a pair that could not be set
abbrev paired_book : Head
paired_book = record { dimensions = 1; capacity = 2; directions = 0; newest = 2; live = 2; held = 2; n1 = 2; n2 = 1 }

-- a sole row at 2
abbrev sole : ℕ → Tables
sole value = record { columns = value ∷ 0 ∷ []; positions = 2 ∷ 0 ∷ []; lower_ends = 0 ∷ 0 ∷ []; upper_ends = 0 ∷ 0 ∷ [] }

-- rows of value 3 at 1 and 5 at 2, the second with this lower end
abbrev pair : ℕ → Tables
pair end = record { columns = 3 ∷ 5 ∷ []; positions = 1 ∷ 2 ∷ []; lower_ends = 0 ∷ end ∷ []; upper_ends = 0 ∷ 0 ∷ [] }

-- two rows, the second live
abbrev renewed_book : Head
renewed_book = record { dimensions = 1; capacity = 2; directions = 0; newest = 2; live = 1; held = 2; n1 = 0; n2 = 0 }

-- rows of value 3 at 1 and at 2, the first with this upper end, the second with this lower end
abbrev equals : ℕ → ℕ → Tables
equals upper lower = record { columns = 3 ∷ 3 ∷ []; positions = 1 ∷ 2 ∷ []; lower_ends = 0 ∷ lower ∷ []; upper_ends = upper ∷ 0 ∷ [] }

-- ---- watch records

-- a record of each n from 1 up to these, of desk one and of desk two
abbrev desks_watch : ℕ → ℕ → List (ℕ × ℕ)
desks_watch one two = map (λ n. (1, n)) (run 1 one) ++ map (λ n. (2, n)) (run 1 two)

-- torn, and not
abbrev torn : List (List ℕ)
torn = (1 ∷ []) ∷ []

abbrev whole : List (List ℕ)
whole = (0 ∷ []) ∷ []

-- the numbers of these records, and empties behind them up to eight
abbrev eight : List (ℕ × ℕ) → List ℕ
eight rs = map (λ r. record_of r.0 r.1) rs ++ replicate (8 - length rs) 0

-- ---- the table

-- each marked case with its answer
abbrev pub table : List Case
table =
    -- M1
    record { question = Lists 6 (1 ∷ 2 ∷ 3 ∷ 4 ∷ []); answer = (6 ∷ []) ∷ (5 ∷ []) ∷ (4 ∷ 5 ∷ []) ∷ (4 ∷ 5 ∷ []) ∷ [] }
    -- M2
    ∷ record { question = LowerEnd 6 6; answer = (5 ∷ []) ∷ [] }
    -- M3
    ∷ record { question = Lists 7 (2 ∷ []); answer = (6 ∷ 7 ∷ []) ∷ [] }
    -- M4
    ∷ record { question = Rows 8; answer = (4 ∷ 7 ∷ 8 ∷ []) ∷ [] }
    -- M5
    ∷ record { question = RowCounts 1; answer = replicate 8 (1 ∷ []) }
    -- M6
    ∷ record { question = Lists 0 (1 ∷ 2 ∷ 3 ∷ 4 ∷ 5 ∷ []); answer = replicate 5 [] }
    -- M7, and M6 again
    ∷ record { question = Lines edges; answer = edge_lines }
    -- M8
    ∷ record { question = Audit (book 1) (sole 4294967295); answer = (0 ∷ []) ∷ [] }
    -- M9
    ∷ record { question = Audit (book 1) (sole 4294967294); answer = (0 ∷ []) ∷ [] }
    -- M10
    ∷ record { question = Audit (book 2) (pair 0); answer = (0 ∷ []) ∷ [] }
    ∷ record { question = Audit (book 2) (pair 1); answer = (1 ∷ []) ∷ [] }
    ∷ record { question = Audit (book 2) (pair 2); answer = (0 ∷ []) ∷ [] }
    -- the audit judges no pair
    ∷ record { question = Audit paired_book (pair 1); answer = (1 ∷ []) ∷ [] }
    -- of two equal rows the later one is over the earlier one, and in no other way
    ∷ record { question = Audit renewed_book (equals 2 0); answer = (1 ∷ []) ∷ [] }
    ∷ record { question = Audit (book 2) (equals 0 0); answer = (0 ∷ []) ∷ [] }
    ∷ record { question = Audit (book 2) (equals 0 1); answer = (0 ∷ []) ∷ [] }
    ∷ record { question = Audit renewed_book (equals 2 1); answer = (0 ∷ []) ∷ [] }
    ∷ record { question = Ends 7; answer = (0 ∷ 0 ∷ 0 ∷ 5 ∷ 0 ∷ []) ∷ (5 ∷ 0 ∷ 0 ∷ 0 ∷ 0 ∷ []) ∷ [] }
    -- the worked tape
    ∷ record { question = Lines tape; answer = print }
    -- the tape with past lists
    ∷ record { question = Lines past_tape; answer = past_print }
    ∷ record { question = Ends 8; answer = (0 ∷ 0 ∷ 5 ∷ 0 ∷ 0 ∷ []) ∷ (0 ∷ 8 ∷ 8 ∷ 0 ∷ 0 ∷ []) ∷ [] }
    ∷ record { question = Lines closed_tape; answer = closed_print }
    -- the tapes with a watched pair
    ∷ record { question = Lines pair_tape; answer = pair_print }
    ∷ record { question = Lines both_tape; answer = both_print }
    -- the tapes with two desks
    ∷ record { question = Lines shares_tape; answer = shares_print }
    ∷ record { question = Lines desks_tape; answer = desks_print }
    -- quotes and looks in one
    ∷ record { question = Lines in_one_tape; answer = in_one_print }
    -- desk one's by n rising, then desk two's, then empties; 5 and 3, 4 and 4
    ∷ record { question = Torn 8 []; answer = whole }
    ∷ record { question = Torn 8 ((1, 2) ∷ (1, 8) ∷ (2, 2) ∷ []); answer = whole }
    ∷ record { question = Torn 8 (desks_watch 5 3); answer = whole }
    ∷ record { question = Torn 8 (desks_watch 4 4); answer = whole }
    -- an n of 0 or above N, desk 0 or 3, desk two before desk one, n that does not rise, an empty in the middle
    ∷ record { question = Torn 8 ((1, 0) ∷ []); answer = torn }
    ∷ record { question = Torn 8 ((1, 9) ∷ []); answer = torn }
    ∷ record { question = Torn 8 ((0, 5) ∷ []); answer = torn }
    ∷ record { question = Torn 8 ((3, 5) ∷ []); answer = torn }
    ∷ record { question = Torn 8 ((2, 5) ∷ (1, 6) ∷ []); answer = torn }
    ∷ record { question = Torn 8 ((2, 5) ∷ (2, 5) ∷ []); answer = torn }
    ∷ record { question = Torn 8 ((1, 5) ∷ (0, 0) ∷ (2, 5) ∷ []); answer = torn }
    -- over the shares: 6 and none, 6 and 2, none and 6
    ∷ record { question = Torn 8 (desks_watch 6 0); answer = torn }
    ∷ record { question = Torn 8 (desks_watch 6 2); answer = torn }
    ∷ record { question = Torn 8 (desks_watch 0 6); answer = torn }
    ∷ []

-- ---- the definitions' answers

-- what the audit says, in numbers
abbrev finding_numbers : Finding → List ℕ
finding_numbers yes = 1 ∷ []
finding_numbers no = 0 ∷ []
finding_numbers (refused k) = 2 ∷ k ∷ []

-- what the reference model tells of calls; it is lent nothing but lengths
abbrev pub told_of : List Call → Reference → List Told
told_of [] s = []
told_of (c ∷ cs) s =
    let one = reference_step c lengths s in
    one ∷ told_of cs one.next

-- the refusal of a call, the newest position, the number of live rows, and what is written, as it is told
abbrev pub told_line : Told → List ℕ
told_line t = t.number ∷ t.head.newest ∷ t.head.live ∷ (t.bytes ++ t.cells)

-- what was written, by the call, its count and the counts beside it: frames, positions, for each row that is due two cells, or frames and
-- positions behind them
abbrev pub written : Call → ℕ → List ℕ → Outputs → List ℕ
written (Open d N directions) count counts o = []
written (Quote x) count counts o = take count o.bytes
written (Look n) count counts o = take count o.cells
written (Watch desk n) count counts o = take count o.bytes
written (End desk n) count counts o = []
written (Past n1 n2) count counts o = take count o.cells
written (Pair n1 n2) count counts o = take count o.bytes
written Unpair count counts o = []
written Due count counts o = take (count + count) o.cells
written (Preview x) count counts o = take count o.bytes
written (Both x n) count counts o = take count o.bytes ++ take (head_or 0 counts) o.cells

-- the refusal of a call, the newest position, the number of live rows, and what is written, as it is seen
abbrev pub line : Call → Seen → List ℕ
line c s = s.outcome.number ∷ s.outcome.head.newest ∷ s.outcome.head.live ∷ written c s.outcome.count s.counts s.outputs

-- a line for each call
abbrev pub lines : List Call → List Seen → List (List ℕ)
lines [] ss = []
lines (c ∷ cs) [] = []
lines (c ∷ cs) (s ∷ ss) = line c s ∷ lines cs ss

-- the lines of calls by a model
abbrev pub lines_by : Model → List Call → List (List ℕ)
lines_by ByReference cs = map told_line (told_of cs unopened)
lines_by ByBook cs = lines cs (runs book_step (lending cs) (world_first lent)).0

-- the answer that the definitions give
abbrev pub answer_to : Model → Question → List (List ℕ)
answer_to m (Lists k ns) = map (skyline_of (after 5 k)) ns
answer_to m (Rows k) = map Row.position (live_rows (rows_of (after 5 k))) ∷ []
answer_to m (LowerEnd k p) = ((row_of (after 5 k) p).lower_end ∷ []) ∷ []
answer_to m (Ends k) = map Row.lower_end (rows_of (after 5 k)) ∷ map Row.upper_end (rows_of (after 5 k)) ∷ []
answer_to m (RowCounts N) = map (λ k. length (live_rows (rows_of (after N k))) ∷ []) (run 1 8)
answer_to m (Lines cs) = lines_by m cs
answer_to m (Audit h t) = finding_numbers (audit_finding h t) ∷ []
answer_to m (Torn N rs) = (cond (torn_watches N (eight rs)) 1 0 ∷ []) ∷ []

-- ---- the comparison

-- two lists are the same
abbrev pub same : List ℕ → List ℕ → Bool
same [] [] = true
same [] (y ∷ ys) = false
same (x ∷ xs) [] = false
same (x ∷ xs) (y ∷ ys) = eqb x y && same xs ys

-- two lists of lists are the same
abbrev pub same_all : List (List ℕ) → List (List ℕ) → Bool
same_all [] [] = true
same_all [] (y ∷ ys) = false
same_all (x ∷ xs) [] = false
same_all (x ∷ xs) (y ∷ ys) = same x y && same_all xs ys

-- every answer of a table is that of the definitions, calls run by this model
abbrev pub all_hold : Model → List Case → Bool
all_hold m [] = true
all_hold m (c ∷ cs) = same_all (answer_to m c.question) c.answer && all_hold m cs
