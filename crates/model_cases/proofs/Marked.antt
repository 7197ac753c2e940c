-- 01's marked cases M1 to M10 and the tapes of the table, shown of the definitions: one proof over the table by the reference model, and
-- the same answers by the book model, since its calls show what the reference model tells.
use mathlib.Core.Path.{◌≡◌, refl, sym, ap, ap₂, ◌∙◌}
use mathlib.Core.Logic.{◌⊎◌, inl, inr}
use Prim.Native.Nat.{ℕ, zero, suc, ◌+◌}
use native.Mathlib.Omega.{arith}
use mathlib.Core.Bool.{Bool, true, ◌&&◌}
use mathlib.Core.List.{List, [], ◌∷◌, ◌++◌, map, append-nil}
use lib.ListN.{length, take, drop, length-replicate}
use lib.Seq.{take-append_seam}
use Rattle.lists.specs.Lists.{filter, any, head_or, last_or, flat, run, between, contains, rising, insert, without, laid}
use Rattle.dominance.specs.Dominance.{higher, better, better_at, no_worse, some_better, dominates}
use Rattle.dominance.specs.Renewal.{quote_at, equal_columns, renewed}
use Rattle.skyline.specs.Skyline.{window_start, dominated_in, skyline}
use Rattle.skyline.specs.Past.{lower_end, upper_end, covers}
use Rattle.refusals.specs.Refusals.{first_of, granted}
use Rattle.head.specs.Heads.{settings_hold}
use Rattle.head.specs.Desks.{record_of, desk_in, size_in, watch_of}
use Rattle.octets.specs.Bytes.{bytes2, bytes4}
use Rattle.frames.specs.Frames.{frame}
use Rattle.model.specs.Rows.{Row, row_at, rows_in, is_live, live_rows, due_rows, due_cells, over_older, over_younger}
use Rattle.model.specs.Changes.{leave_kind_of, join_kind_of, missing, changes_by, changes, all_changes, pair_changes, frames, change_room}
use Rattle.model.specs.Shares.{of_desk, count_of, above_shares, desk_full}
use Rattle.model.specs.Reference.{Reference, Lengths, skyline_of, past_of, paired, pair_of, row_of, rows_of, head_of, due_of, is_open, outside, outside_past, outside_pair, with_quote, with_watched, with_pair_of, opening, too_short, tells, foretells, tells_both, reference_step}
use Rattle.model.specs.Book.{short_tables, torn_rows, is_watch, ordered, standing, torn_watches, book_rows}
use Rattle.model.specs.Calls.{Call, Open, Quote, Look, Watch, End, Past, Pair, Unpair, Due, Preview, Both, Outputs, lengths_of, Expected, expected_step, runs, expected_first}
use Rattle.model_audit.specs.Audit.{zero_from, right_lower, right_upper, wrong_end, passes, finding_of, audit_finding, plays}
use Rattle.model.proofs.Both.{Taken, Left, both_told}
use Rattle.model.proofs.Replay.{replay}
use Rattle.model.proofs.Lengths.{Since, since_step, lengths_step}
use Rattle.model_cases.specs.Marked.{Model, ByReference, ByBook, Question, Case, roomy, lending, lent, lengths, told_of, told_line, written, lines, lines_by, answer_to, same_all, all_hold, table}

-- every answer of the table is that of the definitions, by the reference model
marked_reference : all_hold ByReference table ≡ true
unfolding filter any head_or last_or flat run between contains rising insert without
    higher better better_at no_worse some_better dominates quote_at equal_columns renewed
    window_start dominated_in skyline lower_end upper_end covers
    first_of granted settings_hold bytes2 bytes4 frame record_of desk_in size_in watch_of
    row_at rows_in is_live live_rows due_rows due_cells over_older over_younger
    leave_kind_of join_kind_of missing changes_by changes all_changes pair_changes frames
    of_desk count_of above_shares desk_full
    skyline_of past_of paired pair_of row_of rows_of head_of due_of is_open outside outside_past outside_pair
    with_quote with_watched with_pair_of opening too_short tells tells_both reference_step
    short_tables torn_rows is_watch ordered standing torn_watches book_rows zero_from right_lower right_upper wrong_end passes finding_of audit_finding plays
marked_reference = refl

-- ---- what a call shows is what the reference model tells

-- what is granted of nothing is nothing
granted_none : (a : ℕ) → granted {A = List ℕ} a [] [] ≡ []
unfolding granted
granted_none zero = refl
granted_none (suc k) = refl

-- what was written is at the front of an output
written_front : (a : ℕ) (w out : List ℕ) → take (granted a (length w) 0) (laid (granted a w []) out) ≡ granted a w []
unfolding granted laid
written_front zero w out = take-append_seam w (drop (length w) out)
written_front (suc k) w out = refl

-- as bytes, as cells, or not at all
written_bytes : (a : ℕ) (w out : List ℕ) → take (granted a (length w) 0) (laid (granted a w []) out) ≡ granted a w [] ++ granted a [] []
written_bytes a w out = written_front a w out ∙ rw (granted_none a) (sym (append-nil (granted a w [])))

written_cells : (a : ℕ) (w out : List ℕ) → take (granted a (length w) 0) (laid (granted a w []) out) ≡ granted a [] [] ++ granted a w []
written_cells a w out = written_front a w out ∙ rw (granted_none a)

written_none : (a : ℕ) → ◌≡◌ {A = List ℕ} [] (granted a [] [] ++ granted a [] [])
written_none a = rw (granted_none a)

-- two cells for each row that is due
due_length : (newest n1 : ℕ) (rs : List Row) → length (due_cells newest n1 rs) ≡ length rs + length rs
unfolding due_cells flat
due_length newest n1 [] = refl
due_length newest n1 (r ∷ rs) = omega (arith, due_length newest n1 rs)

written_due : (a newest n1 : ℕ) (rs : List Row) (out : List ℕ)
    → take (granted a (length rs) 0 + granted a (length rs) 0) (laid (granted a (due_cells newest n1 rs) []) out) ≡ granted a [] [] ++ granted a (due_cells newest n1 rs) []
unfolding granted
written_due zero newest n1 rs out = rw (← (due_length newest n1 rs)) (written_cells zero (due_cells newest n1 rs) out)
written_due (suc k) newest n1 rs out = refl

-- the frames of a quote, and the positions of a look
written_quote : (x : List ℕ) (l : Lengths) (s : Reference) (out : List ℕ)
    → take (reference_step (Quote x) l s).count (laid (reference_step (Quote x) l s).bytes out) ≡ (reference_step (Quote x) l s).bytes
unfolding reference_step tells
written_quote x l s out = written_front _ _ out

written_look : (n : ℕ) (l : Lengths) (s : Reference) (out : List ℕ)
    → take (reference_step (Look n) l s).count (laid (reference_step (Look n) l s).cells out) ≡ (reference_step (Look n) l s).cells
unfolding reference_step tells
written_look n l s out = written_front _ _ out

-- both, or nothing where they are refused
written_both : (x : List ℕ) (n : ℕ) (l : Lengths) (s : Reference) (o : Outputs)
    → let t = reference_step (Both x n) l s in take t.count (laid t.bytes o.bytes) ++ take (head_or 0 t.counts) (laid t.cells o.cells) ≡ t.bytes ++ t.cells
unfolding head_or
written_both x n l s o = go (both_told x n l s)
  where
    go : Taken x n l s ⊎ Left x n l s
        → let t = reference_step (Both x n) l s in take t.count (laid t.bytes o.bytes) ++ take (head_or 0 t.counts) (laid t.cells o.cells) ≡ t.bytes ++ t.cells
    go (inl t) = rw (t.count, t.bytes, t.counts, t.cells, written_quote x l s o.bytes, written_look n l (with_quote s x) o.cells)
    go (inr t) = rw (t.count, t.bytes, t.counts, t.cells)

-- what was written is what is told
written_told : (c : Call) (l : Lengths) (s : Reference) (o : Outputs)
    → let t = reference_step c l s in written c t.count t.counts (record { bytes = laid t.bytes o.bytes; cells = laid t.cells o.cells }) ≡ t.bytes ++ t.cells
unfolding reference_step tells foretells
written_told (Open d N directions) l s o = written_none _
written_told (Quote x) l s o = written_bytes _ _ o.bytes
written_told (Look n) l s o = written_cells _ _ o.cells
written_told (Watch desk n) l s o = written_bytes _ _ o.bytes
written_told (End desk n) l s o = written_none _
written_told (Past n1 n2) l s o = written_cells _ _ o.cells
written_told (Pair n1 n2) l s o = written_bytes _ _ o.bytes
written_told Unpair l s o = written_none _
written_told Due l s o = written_due _ _ _ _ o.cells
written_told (Preview x) l s o = written_front _ _ o.bytes ∙ sym (append-nil _)
written_told (Both x n) l s o = written_both x n l s o

-- a line for each call
lines_told : (cs : List Call) (k : Expected) → Since k → lengths_of k.lent roomy ≡ lengths
    → lines cs (runs expected_step (lending cs) k).0 ≡ map told_line (told_of cs k.reference)
unfolding runs expected_step
lines_told [] k f e = refl
lines_told (c ∷ cs) k f e =
    let L = lengths_of k.lent roomy in
    let s = k.reference in
    let t = reference_step c L s in
    ap₂ {C = List (List ℕ)} (λ (l : List ℕ) (ls : List (List ℕ)). l ∷ ls)
    (ap (λ (w : List ℕ). t.number ∷ t.head.newest ∷ t.head.live ∷ w) (written_told c L s roomy))
    (lines_told cs (expected_step c roomy k).1 (since_step c roomy k f) (lengths_step c roomy roomy k f ∙ e))
    ∙ ap (λ (L : Lengths). told_line (reference_step c L s) ∷ map told_line (told_of cs (reference_step c L s).next)) e

room_bytes : length roomy.bytes ≡ change_room
unfolding roomy
room_bytes = length-replicate {A = ℕ} change_room 7

room_cells : length roomy.cells ≡ 40
unfolding roomy
room_cells = length-replicate {A = ℕ} 40 7

lent_long : lengths_of lent roomy ≡ lengths
unfolding lengths_of
lent_long = rw (room_bytes, room_cells)

-- so the book model gives the same lines
lines_alike : (cs : List Call) → lines_by ByBook cs ≡ lines_by ByReference cs
lines_alike cs = ap (lines cs) (replay (lending cs) lent) ∙ lines_told cs (expected_first lent) (inl refl) lent_long

answers_alike : (q : Question) → answer_to ByBook q ≡ answer_to ByReference q
answers_alike (Question.Lists k ns) = refl
answers_alike (Question.Rows k) = refl
answers_alike (Question.LowerEnd k p) = refl
answers_alike (Question.Ends k) = refl
answers_alike (Question.RowCounts N) = refl
answers_alike (Question.Lines cs) = lines_alike cs
answers_alike (Question.Audit h t) = refl
answers_alike (Question.Torn N rs) = refl

table_alike : (cs : List Case) → all_hold ByBook cs ≡ all_hold ByReference cs
table_alike [] = refl
table_alike (c ∷ cs) = ap₂ (λ (l : List (List ℕ)) (b : Bool). same_all l c.answer && b) (answers_alike c.question) (table_alike cs)

-- every answer of the table is that of the definitions, by both models
pub marked : (m : Model) → all_hold m table ≡ true
marked ByReference = marked_reference
marked ByBook = table_alike table ∙ marked_reference
