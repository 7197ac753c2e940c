-- A look, a look at a past list, a watch and an end are answered alike by both models.
use mathlib.Core.Path.{◌≡◌, refl, sym, ap, ◌∙◌}
use mathlib.Core.Logic.{inr}
use Prim.Native.Nat.{ℕ, zero, suc}
use mathlib.Core.Bool.{Bool, false, not}
use mathlib.Core.List.{List, [], ◌∷◌, map}
use lib.Dec.{ltb, eqb}
use lib.ListN.{length}
use Rattle.lists.specs.Lists.{contains, insert, without, laid, padded}
use Rattle.lists.proofs.Writing.{length_padded, padded_again}
use Rattle.refusals.specs.declared.Refusal.TheVariants.{Settings, WindowSize, WindowOrder, AlreadyWatched, NoFreeRecord, NotWatched, ShortOutput}
use Rattle.refusals.specs.Refusals.{number, first_of, granted}
use Rattle.head.specs.declared.Desk.{Desk}
use Rattle.head.specs.Desks.{watch_of}
use Rattle.refusals.proofs.Numbers.{zero_passed, first_of_alike}
use Rattle.model.specs.Changes.{join, frames, change_room}
use Rattle.model.specs.Shares.{desk_full}
use Rattle.model.specs.Reference.{Reference, skyline_of, past_of, row_of, rows_of, head_of, is_open, outside, outside_past, with_watched, tells, reference_step}
use Rattle.model.specs.Book.{short_loan, book_rows, list_of, reply_of, out_of_range, look_cells, look_answer, look_reply, look_out, past_cells, past_answer, past_reply, past_out, watch_bytes, watch_answer, watch_reply, watch_watches, watch_out, end_answer, end_reply, end_watches}
use Rattle.model.specs.Calls.{Look, Watch, End, Past, Outputs, Lent, book_seen, head_after, world_after, book_step, lengths_of, shown, expected_step}
use Rattle.model.proofs.Records.{Records, eight_records_lem, records_insert, records_filter}
use Rattle.model.proofs.Simulation.{Invariant, Simulation, bounded, Agree, reference_with, book_with, long_records, in_range, in_unit, in_past_range, simulation, shown_opened, shown_still, watches_read, skyline_read, past_read, judged, judged_watchful}

-- the watches are no part of the head
head_rewatched : (s : Reference) (ws : List ℕ) → head_of (with_watched s ws) ≡ head_of s
unfolding head_of with_watched rows_of row_of
head_rewatched s ws = refl

module _ (s : Reference) (l : Lent) (f : Invariant s l) (n : ℕ) where
  -- the output is too short for these positions
  abbrev pub short : List ℕ → List ℕ → List (Bool × ℕ)
  short out cells = (ltb (length out) (length cells), number ShortOutput) ∷ []

  list_read : outside s n ≡ false → list_of (head_of s) (book_rows (head_of s) l.tables) n ≡ skyline_of s n
  list_read e = let r = in_range s n e in skyline_read s l f n r.0 r.1

  -- ---- look

  module _ (o : Outputs) where
    -- the reference model's answer
    abbrev pub look_answer_lem : ℕ
    look_answer_lem = first_of ((not (is_open s), number Settings) ∷ (outside s n, number WindowSize) ∷ short o.cells (skyline_of s n))

    pub look_cells_lem : outside s n ≡ false → look_cells (head_of s) n l.tables ≡ skyline_of s n
    unfolding look_cells
    look_cells_lem = list_read

    pub look_answers : look_answer (head_of s) n l.tables (length o.cells) ≡ look_answer_lem
    unfolding look_answer out_of_range head_of outside
    look_answers =
        judged s l f ((outside s n, number WindowSize) ∷ short o.cells (look_cells (head_of s) n l.tables)) ((outside s n, number WindowSize) ∷ short o.cells (skyline_of s n))
        (first_of_alike (outside s n) (number WindowSize) (short o.cells (look_cells (head_of s) n l.tables)) (short o.cells (skyline_of s n)) (λ e. ap (λ (c : List ℕ). first_of (short o.cells c)) (look_cells_lem e)))

    -- the look is seen alike
    pub looks : Agree (Look n) o (reference_with s l) (book_with s l)
    unfolding book_seen head_after world_after book_step expected_step reference_step tells lengths_of look_reply look_out reply_of granted laid
    looks = go look_answer_lem refl
      where
        go : (a : ℕ) → look_answer_lem ≡ a → Agree (Look n) o (reference_with s l) (book_with s l)
        go zero e = rw (look_answers, e, look_cells_lem (zero_passed _ _ _ (zero_passed _ _ _ e).1).0, shown_still s l f) (refl, simulation s l f)
        go (suc k) e = rw (look_answers, e, shown_still s l f) (refl, simulation s l f)

-- ---- other watches

module _ (s : Reference) (l : Lent) (f : Invariant s l) (ws : List ℕ) (records : Records s.capacity ws) where
  -- what is lent, with these watches in the records
  abbrev relent : Lent
  relent = record { tables = l.tables; watches = padded 8 ws l.watches }

  -- the invariant holds with other watches
  rewatched : Invariant (with_watched s ws) relent
  unfolding with_watched is_open rows_of row_of head_of short_loan
  rewatched =
      let bounded = eight_records_lem records in
      record {
        settings = f.settings;
        wide = f.wide;
        within = f.within;
        long = rw (length_padded 8 ws l.watches bounded (long_records l.tables l.watches s.dimensions s.capacity f.long)) f.long;
        tables = f.tables;
        records = padded_again 8 ws ws l.watches bounded;
        watches = records;
        pair = f.pair;
      }

  shown_rewatched : shown (with_watched s ws) l ≡ relent
  unfolding with_watched is_open rows_of row_of
  shown_rewatched = shown_opened (with_watched s ws) l f.settings ∙ rw f.tables

  simulation_rewatched : Simulation (reference_with (with_watched s ws) relent) (book_with s relent)
  simulation_rewatched = record { head = sym (head_rewatched s ws); lent = refl; since = inr rewatched }

module _ (s : Reference) (l : Lent) (f : Invariant s l) (desk : Desk) (n : ℕ) where
  -- the number of the watch
  abbrev watch : ℕ
  watch = watch_of desk n

  -- ---- watch

  module _ (o : Outputs) where
    -- the refusals of a watch
    abbrev refusals : List (Bool × ℕ)
    refusals =
        (outside s n, number WindowSize) ∷ (contains watch s.watched, number AlreadyWatched) ∷ (desk_full desk s.watched, number NoFreeRecord)
        ∷ (ltb (length o.bytes) change_room, number ShortOutput) ∷ []

    -- the reference model's answer
    abbrev watch_answer_lem : ℕ
    watch_answer_lem = first_of ((not (is_open s), number Settings) ∷ refusals)

    watch_bytes_lem : outside s n ≡ false → watch_bytes (head_of s) desk n l.tables l.watches ≡ frames (map (join watch) (skyline_of s n))
    unfolding watch_bytes
    watch_bytes_lem e = rw (list_read s l f n e)

    watch_answers : watch_answer (head_of s) desk n l.tables l.watches (length o.bytes) ≡ watch_answer_lem
    unfolding watch_answer out_of_range head_of outside
    watch_answers = rw (watches_read s l f) (judged_watchful s l f refusals refusals refl)

    -- the watch is seen alike
    pub watches : Agree (Watch desk n) o (reference_with s l) (book_with s l)
    unfolding book_seen head_after world_after book_step expected_step reference_step tells lengths_of watch_reply watch_watches watch_out reply_of granted laid
    watches = go watch_answer_lem refl
      where
        more : List ℕ
        more = insert watch s.watched

        go : (a : ℕ) → watch_answer_lem ≡ a → Agree (Watch desk n) o (reference_with s l) (book_with s l)
        go zero e =
            let a = zero_passed _ _ _ (zero_passed _ _ _ e).1 in
            let r = in_range s n a.0 in
            let b = zero_passed _ _ _ a.1 in
            let small = in_unit s n (bounded s l (inr f)) a.0 in
            let records = records_insert f.watches desk n small r.0 r.1 b.0 (zero_passed _ _ _ b.1).0 in
            rw (watch_answers, e, watch_bytes_lem a.0, watches_read s l f, shown_rewatched s l f more records, head_rewatched s more)
            (refl, simulation_rewatched s l f more records)
        go (suc k) e = rw (watch_answers, e, shown_still s l f) (refl, simulation s l f)

  -- ---- end

  -- the refusals of an end
  abbrev end_refusals : List (Bool × ℕ)
  end_refusals = (outside s n, number WindowSize) ∷ (not (contains watch s.watched), number NotWatched) ∷ []

  -- the reference model's answer
  abbrev end_answer_lem : ℕ
  end_answer_lem = first_of ((not (is_open s), number Settings) ∷ end_refusals)

  end_answers : end_answer (head_of s) desk n l.tables l.watches ≡ end_answer_lem
  unfolding end_answer out_of_range head_of outside
  end_answers = rw (watches_read s l f) (judged_watchful s l f end_refusals end_refusals refl)

  -- the end of a watch is seen alike
  pub ends : (o : Outputs) → Agree (End desk n) o (reference_with s l) (book_with s l)
  unfolding book_seen head_after world_after book_step expected_step reference_step tells lengths_of end_reply end_watches reply_of granted laid without
  ends o = go end_answer_lem refl
    where
      less : List ℕ
      less = without watch s.watched

      records : Records s.capacity less
      records = records_filter f.watches (λ m. not (eqb watch m))

      go : (a : ℕ) → end_answer_lem ≡ a → Agree (End desk n) o (reference_with s l) (book_with s l)
      go zero e =
          rw (end_answers, e, watches_read s l f, shown_rewatched s l f less records, head_rewatched s less)
          (refl, simulation_rewatched s l f less records)
      go (suc k) e = rw (end_answers, e, shown_still s l f) (refl, simulation s l f)

-- ---- past look

module _ (s : Reference) (l : Lent) (f : Invariant s l) (n1 n2 : ℕ) (o : Outputs) where
  -- the refusals behind 5, with these positions to write
  abbrev behind : List ℕ → List (Bool × ℕ)
  behind cells = (ltb n2 n1, number WindowOrder) ∷ (ltb (length o.cells) (length cells), number ShortOutput) ∷ []

  -- the reference model's answer
  abbrev past_answer_lem : ℕ
  past_answer_lem = first_of ((not (is_open s), number Settings) ∷ (outside_past s n1 n2, number WindowSize) ∷ behind (past_of s n1 n2))

  past_cells_lem : outside_past s n1 n2 ≡ false → ltb n2 n1 ≡ false → past_cells (head_of s) n1 n2 l.tables ≡ past_of s n1 n2
  unfolding past_cells
  past_cells_lem e g = let r = in_past_range s n1 n2 e g in past_read s l f n1 n2 r.0 r.1 r.2

  past_answers : past_answer (head_of s) n1 n2 l.tables (length o.cells) ≡ past_answer_lem
  unfolding past_answer outside_past head_of
  past_answers =
      judged s l f ((outside_past s n1 n2, number WindowSize) ∷ behind cells) ((outside_past s n1 n2, number WindowSize) ∷ behind (past_of s n1 n2))
      (first_of_alike (outside_past s n1 n2) (number WindowSize) (behind cells) (behind (past_of s n1 n2))
      (λ e. first_of_alike (ltb n2 n1) (number WindowOrder) (short cells) (short (past_of s n1 n2)) (λ g. ap (λ (c : List ℕ). first_of (short c)) (past_cells_lem e g))))
    where
      cells : List ℕ
      cells = past_cells (head_of s) n1 n2 l.tables

      short : List ℕ → List (Bool × ℕ)
      short c = (ltb (length o.cells) (length c), number ShortOutput) ∷ []

  -- the past look is seen alike
  pub looks_back : Agree (Past n1 n2) o (reference_with s l) (book_with s l)
  unfolding book_seen head_after world_after book_step expected_step reference_step tells lengths_of past_reply past_out reply_of granted laid
  looks_back = go past_answer_lem refl
    where
      go : (a : ℕ) → past_answer_lem ≡ a → Agree (Past n1 n2) o (reference_with s l) (book_with s l)
      go zero e =
          let a = zero_passed _ _ _ (zero_passed _ _ _ e).1 in
          rw (past_answers, e, past_cells_lem a.0 (zero_passed _ _ _ a.1).0, shown_still s l f) (refl, simulation s l f)
      go (suc k) e = rw (past_answers, e, shown_still s l f) (refl, simulation s l f)
