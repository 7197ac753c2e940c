-- The one theorem on a list of calls: from a head of zeros and anything lent, what is seen after every call is what the reference
-- model says: answers, counts, heads, outputs past the count too, tables, records, and all else lent.
use mathlib.Core.Path.{◌≡◌, refl, ap₂}
use mathlib.Core.Logic.{inl, inr}
use mathlib.Core.List.{List, [], ◌∷◌}
use Rattle.lists.specs.Lists.{filter, laid}
use Rattle.refusals.specs.Refusals.{first_of, granted}
use Rattle.head.specs.Heads.{settings_hold}
use Rattle.model.specs.Rows.{live_rows}
use Rattle.model.specs.Reference.{Reference, unopened, head_of, is_open, tells, foretells, tells_both, reference_step}
use Rattle.model.specs.Book.{answer_of, watchful_answer, reply_of, quote_answer, quote_reply, quote_tables, quote_out, preview_reply, preview_counts, preview_out, both_answer, both_reply, both_listed, both_tables, both_out, both_cells, look_answer, look_reply, look_out, past_answer, past_reply, past_out, watch_answer, watch_reply, watch_watches, watch_out, end_answer, end_reply, end_watches, pair_answer, pair_reply, pair_out, unpair_answer, unpair_reply, due_answer, due_reply, due_out}
use Rattle.model.specs.Calls.{Call, Open, Quote, Look, Watch, End, Past, Pair, Unpair, Due, Preview, Both, Outputs, Lending, Lent, Seen, World, book_seen, head_after, world_after, book_step, lengths_of, shown, Expected, expected_step, runs, world_first, expected_first}
use Rattle.model.proofs.Sound.{rows_none}
use Rattle.model.proofs.Simulation.{Invariant, Simulation, Agree, reference_with, book_with, simulation_by}
use Rattle.model.proofs.Opening.{opens}
use Rattle.model.proofs.Quoting.{quotes, previews}
use Rattle.model.proofs.Watching.{looks, watches, ends, looks_back}
use Rattle.model.proofs.Both.{both}
use Rattle.model.proofs.Pairing.{pairs, unpairs, looks_due}

-- before the first accepted opening every call but an opening is refused by both models
unopened_agrees : (c : Call) (o : Outputs) (l : Lent) → Agree c o (reference_with unopened l) (book_with unopened l)
unfolding book_seen head_after world_after book_step expected_step reference_step tells foretells tells_both lengths_of laid shown is_open settings_hold head_of first_of granted
    answer_of watchful_answer reply_of quote_answer quote_reply quote_tables quote_out preview_reply preview_counts preview_out
    both_answer both_reply both_listed both_tables both_out both_cells
    look_answer look_reply look_out past_answer past_reply past_out
    watch_answer watch_reply watch_watches watch_out end_answer end_reply end_watches
    pair_answer pair_reply pair_out unpair_answer unpair_reply due_answer due_reply due_out
unopened_agrees (Open d N directions) o l = opens d N directions l o unopened (inl refl)
unopened_agrees (Quote x) o l = (refl, record { head = refl; lent = refl; since = inl refl })
unopened_agrees (Look n) o l = (refl, record { head = refl; lent = refl; since = inl refl })
unopened_agrees (Watch desk n) o l = (refl, record { head = refl; lent = refl; since = inl refl })
unopened_agrees (End desk n) o l = (refl, record { head = refl; lent = refl; since = inl refl })
unopened_agrees (Past n1 n2) o l = (refl, record { head = refl; lent = refl; since = inl refl })
unopened_agrees (Pair n1 n2) o l = (refl, record { head = refl; lent = refl; since = inl refl })
unopened_agrees Unpair o l = (refl, record { head = refl; lent = refl; since = inl refl })
unopened_agrees Due o l = (refl, record { head = refl; lent = refl; since = inl refl })
unopened_agrees (Preview x) o l = (refl, record { head = refl; lent = refl; since = inl refl })
unopened_agrees (Both x n) o l = (refl, record { head = refl; lent = refl; since = inl refl })

opened_agrees : (c : Call) (o : Outputs) (s : Reference) (l : Lent) → Invariant s l → Agree c o (reference_with s l) (book_with s l)
opened_agrees (Open d N directions) o s l f = opens d N directions l o s (inr f)
opened_agrees (Quote x) o s l f = quotes s l f x o
opened_agrees (Look n) o s l f = looks s l f n o
opened_agrees (Watch desk n) o s l f = watches s l f desk n o
opened_agrees (End desk n) o s l f = ends s l f desk n o
opened_agrees (Past n1 n2) o s l f = looks_back s l f n1 n2 o
opened_agrees (Pair n1 n2) o s l f = pairs s l f n1 n2 o
opened_agrees Unpair o s l f = unpairs s l f o
opened_agrees Due o s l f = looks_due s l f o
opened_agrees (Preview x) o s l f = previews s l f x o
opened_agrees (Both x n) o s l f = both s l f x n o

-- every call on a book that simulates the reference model is seen alike, and leaves such a book
pub call_agrees : (c : Call) (o : Outputs) (k : Expected) (w : World) → Simulation k w → Agree c o k w
call_agrees c o = simulation_by (Agree c o) (unopened_agrees c o) (opened_agrees c o)

-- so is a list of calls
pub run_agrees : (cs : List Lending) (k : Expected) (w : World) → Simulation k w → ((runs book_step cs w).0 ≡ (runs expected_step cs k).0) × Simulation (runs expected_step cs k).1 (runs book_step cs w).1
unfolding runs
run_agrees [] k w j = (refl, j)
run_agrees (c ∷ cs) k w j =
    let one = call_agrees c.call c.outputs k w j in
    let rest = run_agrees cs (expected_step c.call c.outputs k).1 (book_step c.call c.outputs w).1 one.1 in
    (ap₂ {C = List Seen} (λ (s : Seen) (l : List Seen). s ∷ l) one.0 rest.0, rest.1)

start : (l : Lent) → Simulation (expected_first l) (world_first l)
unfolding head_of live_rows filter
start l = record { head = rw (rows_none unopened refl); lent = refl; since = inl refl }

-- over every list of calls both models show the same
pub replay : (cs : List Lending) (l : Lent) → (runs book_step cs (world_first l)).0 ≡ (runs expected_step cs (expected_first l)).0
replay cs l = (run_agrees cs (expected_first l) (world_first l) (start l)).0

-- and the book simulates the reference model at the end
pub replay_ends : (cs : List Lending) (l : Lent) → Simulation (runs expected_step cs (expected_first l)).1 (runs book_step cs (world_first l)).1
replay_ends cs l = (run_agrees cs (expected_first l) (world_first l) (start l)).1
