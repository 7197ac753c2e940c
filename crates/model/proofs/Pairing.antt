-- A watch of the pair, its end and a look at what is due are answered alike by both models.
use mathlib.Core.Path.{◌≡◌, refl, sym, ap}
use mathlib.Core.Logic.{inr}
use Prim.Native.Nat.{ℕ, zero, suc}
use native.Mathlib.Omega.{arith}
use mathlib.Core.Bool.{Bool, false, not}
use mathlib.Core.List.{List, [], ◌∷◌, map}
use lib.Dec.{ltb}
use lib.ListN.{length}
use Rattle.lists.specs.Lists.{laid}
use Rattle.refusals.specs.declared.Refusal.TheVariants.{Settings, WindowSize, WindowOrder, NoFreeRecord, NotWatched, ShortOutput}
use Rattle.refusals.specs.Refusals.{number, first_of, granted}
use Rattle.head.specs.Heads.{with_pair, torn_pair}
use Rattle.refusals.proofs.Numbers.{zero_passed}
use Rattle.model.specs.Rows.{Row, due_cells}
use Rattle.model.specs.Changes.{pair_join, frames, change_room}
use Rattle.model.specs.Reference.{Reference, newest, past_of, paired, row_of, rows_of, head_of, due_of, is_open, outside_pair, with_pair_of, tells, reference_step}
use Rattle.model.specs.Book.{pair_stands, reply_of, pair_bytes, pair_answer, pair_reply, pair_out, unpair_answer, unpair_reply, due_written, due_answer, due_reply, due_out}
use Rattle.model.specs.Calls.{Pair, Unpair, Due, Outputs, Lent, World, book_seen, head_after, world_after, book_step, lengths_of, expected_step}
use Rattle.model.proofs.Torn.{within_untorn}
use Rattle.model.proofs.Simulation.{Invariant, Simulation, Agree, reference_with, book_with, in_pair_range, simulation, shown_still, past_read, due_read, judged, judged_watchful}

module _ (s : Reference) (l : Lent) (f : Invariant s l) where
  -- ---- another pair

  module _ (n1 n2 : ℕ) where
    -- the head with the pair is that of the reference model with it
    head_repaired : head_of (with_pair_of s n1 n2) ≡ with_pair (head_of s) n1 n2
    unfolding head_of with_pair_of with_pair rows_of row_of
    head_repaired = refl

    module _ (fine : torn_pair (with_pair (head_of s) n1 n2) ≡ false) where
      -- the invariant holds with another pair
      repaired : Invariant (with_pair_of s n1 n2) l
      unfolding with_pair_of is_open rows_of row_of
      repaired = record {
        settings = f.settings;
        wide = f.wide;
        within = f.within;
        long = f.long;
        tables = f.tables;
        records = f.records;
        watches = f.watches;
        pair = rw head_repaired fine;
      }

      -- the book with the head that is handed back
      abbrev repaired_book : World
      repaired_book = record { head = with_pair (head_of s) n1 n2; lent = l }

      simulation_repaired : Simulation (reference_with (with_pair_of s n1 n2) l) repaired_book
      simulation_repaired = record { head = sym head_repaired; lent = refl; since = inr repaired }

  -- ---- watch of the pair

  module _ (n1 n2 : ℕ) (o : Outputs) where
    -- what the reference model writes
    abbrev joins : List ℕ
    joins = frames (map pair_join (past_of s n1 n2))

    -- the refusals of a watch of the pair
    abbrev refusals : List (Bool × ℕ)
    refusals =
        (outside_pair s n1 n2, number WindowSize) ∷ (ltb n2 n1, number WindowOrder) ∷ (paired s, number NoFreeRecord)
        ∷ (ltb (length o.bytes) change_room, number ShortOutput) ∷ []

    -- the reference model's answer
    abbrev pair_answer_lem : ℕ
    pair_answer_lem = first_of ((not (is_open s), number Settings) ∷ refusals)

    pair_bytes_lem : outside_pair s n1 n2 ≡ false → ltb n2 n1 ≡ false → pair_bytes (head_of s) n1 n2 l.tables l.watches ≡ joins
    unfolding pair_bytes
    pair_bytes_lem e g =
        let r = in_pair_range s n1 n2 e g in
        let two = r.two in
        rw (past_read s l f n1 n2 (omega arith) r.order r.most)

    pair_answers : pair_answer (head_of s) n1 n2 l.tables l.watches (length o.bytes) ≡ pair_answer_lem
    unfolding pair_answer outside_pair head_of pair_stands paired
    pair_answers = judged_watchful s l f refusals refusals refl

    pair_fine : outside_pair s n1 n2 ≡ false → ltb n2 n1 ≡ false → torn_pair (with_pair (head_of s) n1 n2) ≡ false
    unfolding with_pair head_of
    pair_fine e g = within_untorn (with_pair (head_of s) n1 n2) (in_pair_range s n1 n2 e g)

    -- the watch of the pair is seen alike
    pub pairs : Agree (Pair n1 n2) o (reference_with s l) (book_with s l)
    unfolding book_seen head_after world_after book_step expected_step reference_step tells lengths_of pair_reply pair_out reply_of granted laid
    pairs = go pair_answer_lem refl
      where
        go : (a : ℕ) → pair_answer_lem ≡ a → Agree (Pair n1 n2) o (reference_with s l) (book_with s l)
        go zero e =
            let a = zero_passed _ _ _ (zero_passed _ _ _ e).1 in
            let b = zero_passed _ _ _ a.1 in
            let fine = pair_fine a.0 b.0 in
            rw (pair_answers, e, pair_bytes_lem a.0 b.0, head_repaired n1 n2, shown_still (with_pair_of s n1 n2) l (repaired n1 n2 fine))
            (refl, simulation_repaired n1 n2 fine)
        go (suc k) e = rw (pair_answers, e, shown_still s l f) (refl, simulation s l f)

  -- ---- end of the pair

  module _ (o : Outputs) where
    -- the reference model's answer
    abbrev unpair_answer_lem : ℕ
    unpair_answer_lem = first_of ((not (is_open s), number Settings) ∷ (not (paired s), number NotWatched) ∷ [])

    unpair_answers : unpair_answer (head_of s) l.tables l.watches ≡ unpair_answer_lem
    unfolding unpair_answer head_of pair_stands paired
    unpair_answers = judged_watchful s l f ((not (paired s), number NotWatched) ∷ []) _ refl

    none_fine : torn_pair (with_pair (head_of s) 0 0) ≡ false
    unfolding torn_pair with_pair
    none_fine = refl

    -- the end of the pair is seen alike
    pub unpairs : Agree Unpair o (reference_with s l) (book_with s l)
    unfolding book_seen head_after world_after book_step expected_step reference_step tells lengths_of unpair_reply reply_of granted laid
    unpairs = go unpair_answer_lem refl
      where
        go : (a : ℕ) → unpair_answer_lem ≡ a → Agree Unpair o (reference_with s l) (book_with s l)
        go zero e =
            rw (unpair_answers, e, head_repaired 0 0, shown_still (with_pair_of s 0 0) l (repaired 0 0 none_fine))
            (refl, simulation_repaired 0 0 none_fine)
        go (suc k) e = rw (unpair_answers, e, shown_still s l f) (refl, simulation s l f)

  -- ---- due

  module _ (o : Outputs) where
    -- what the reference model writes
    abbrev dues : List ℕ
    dues = due_cells (newest s) s.n1 (due_of s)

    -- the output is too short for these cells
    abbrev short : List ℕ → List (Bool × ℕ)
    short cells = (ltb (length o.cells) (length cells), number ShortOutput) ∷ []

    -- the reference model's answer
    abbrev due_answer_lem : ℕ
    due_answer_lem = first_of ((not (is_open s), number Settings) ∷ short dues)

    due_written_lem : due_written (head_of s) l.tables ≡ dues
    unfolding due_written head_of
    due_written_lem = ap (λ (rs : List Row). due_cells (newest s) s.n1 rs) (due_read s l f)

    due_answers : due_answer (head_of s) l.tables (length o.cells) ≡ due_answer_lem
    unfolding due_answer
    due_answers =
        judged s l f (short (due_written (head_of s) l.tables)) (short dues) (ap (λ (c : List ℕ). first_of (short c)) due_written_lem)

    -- the look at what is due is seen alike
    pub looks_due : Agree Due o (reference_with s l) (book_with s l)
    unfolding book_seen head_after world_after book_step expected_step reference_step tells lengths_of due_reply due_out reply_of granted laid
    looks_due = go due_answer_lem refl
      where
        go : (a : ℕ) → due_answer_lem ≡ a → Agree Due o (reference_with s l) (book_with s l)
        go zero e = rw (due_answers, e, due_written_lem, due_read s l f, shown_still s l f) (refl, simulation s l f)
        go (suc k) e = rw (due_answers, e, shown_still s l f) (refl, simulation s l f)
