-- Two books of which one was switched on late: the premise of the theorems is met.
use mathlib.Core.Path.{refl}
use Prim.Native.Nat.{ℕ}
use mathlib.Core.List.{List, [], ◌∷◌}
use lib.ListN.{replicate}
use Rattle.head.specs.Heads.{settings_hold, after_quote, torn_pair}
use Rattle.refusals.specs.Refusals.{first_of, granted}
use Rattle.lists.specs.Lists.{filter, any, last_or, flat, run, between, contains, rising, padded}
use Rattle.dominance.specs.Dominance.{higher, better, better_at, no_worse, some_better, dominates}
use Rattle.skyline.specs.Skyline.{window_start}
use Rattle.model.specs.Changes.{change_room}
use Rattle.model.specs.Rows.{row_at, rows_in, filled, is_live, live_rows, rows_after, row_after, expiring, renamed, retired_by, over_older, over_younger, lower_end_among}
use Rattle.model.specs.Shares.{above_shares, count_of}
use Rattle.model.specs.Book.{short_tables, short_loan, torn_rows, torn_watches, ordered, is_watch, standing, book_rows, pair_stands, watchful_answer, reply_of, open_answer, open_reply, open_tables, open_watches, quote_rows, quote_head, quote_answer, quote_reply, quote_tables}
use Rattle.model.specs.Calls.{Open, Quote, Outputs, Lending, Lent, World, book_seen, head_after, world_after, book_step, runs, world_first}
use Rattle.model_claims.specs.Claims.{is_opening, accepted_in}
use Rattle.model_late.specs.Feeding.{offers, quotes_after, quotes_taken}
use Rattle.model_late.specs.Late.{ByModel, Run, SwitchedOnLate}

-- calls by the book model
abbrev model_run : (cs : List Lending) (w : World) → Run ByModel w (runs book_step cs w).1
model_run cs w = record { calls = cs; seen = (runs book_step cs w).0; made_all = record { seen = refl; ends = refl } }

-- tables for two rows of one column, eight records, and an output that suffices
abbrev lent : Lent
lent = record {
  tables = record { columns = 0 ∷ 0 ∷ []; positions = 0 ∷ 0 ∷ []; lower_ends = 0 ∷ 0 ∷ []; upper_ends = 0 ∷ 0 ∷ [] };
  watches = 0 ∷ 0 ∷ 0 ∷ 0 ∷ 0 ∷ 0 ∷ 0 ∷ 0 ∷ [];
}

pub out : Outputs
out = record { bytes = replicate change_room 0; cells = [] }

-- an opening with this N, and a quote of one column
abbrev opens : ℕ → Lending
opens N = record { call = Open 1 N 0; outputs = out }

abbrev quotes : ℕ → Lending
quotes x = record { call = Quote (x ∷ []); outputs = out }

-- the calls on the first up to the split, with an earlier book, and behind it
abbrev before : List Lending
before = opens 2 ∷ quotes 9 ∷ opens 2 ∷ quotes 5 ∷ []

abbrev since : List Lending
since = quotes 3 ∷ []

-- those on the second: an earlier book, and behind its opening a refused one
abbrev earlier : List Lending
earlier = opens 1 ∷ []

abbrev late_since : List Lending
late_since = opens 0 ∷ quotes 3 ∷ []

abbrev split : World
split = (runs book_step before (world_first lent)).1

abbrev off : World
off = (runs book_step earlier (world_first lent)).1

abbrev on : World
on = (runs book_step (opens 2 ∷ []) off).1

-- one quote was missed, and one was taken since
pub switched_on : SwitchedOnLate ByModel 1 1 (runs book_step since split).1 (runs book_step late_since on).1
unfolding runs book_step book_seen world_after head_after quotes_taken quotes_after offers is_opening accepted_in granted first_of settings_hold out
    short_tables short_loan torn_rows torn_watches torn_pair ordered is_watch standing book_rows pair_stands watchful_answer reply_of
    open_answer open_reply open_tables open_watches quote_rows quote_head quote_answer quote_reply quote_tables
    filled padded rows_in row_at run rising last_or any between window_start live_rows is_live filter contains flat above_shares count_of after_quote
    rows_after row_after expiring renamed retired_by over_older over_younger lower_end_among no_worse dominates some_better better_at better higher
switched_on = record {
  lent = lent;
  split = split;
  before = model_run before (world_first lent);
  since = model_run since split;
  late_lent = lent;
  off = off;
  earlier = model_run earlier (world_first lent);
  d = 1;
  N = 2;
  directions = 0;
  seen_opening = (book_step (Open 1 2 0) out off).0;
  on = on;
  opening = record { outputs = out; made_next = record { seen = refl; ends = refl }; accepted = refl };
  late_since = model_run late_since on;
  same_dimensions = refl;
  same_capacity = refl;
  same_directions = refl;
  unopened = refl;
  late_unopened = refl;
  same_quotes = refl;
  missed = refl;
  counted = refl;
}
