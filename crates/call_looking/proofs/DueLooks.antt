-- The look at what is due: the rows of a book that passed, read off the lower ends, and what the look leaves.
use mathlib.Core.Path.{◌≡◌, refl, ap, ◌∙◌}
use Prim.Native.Nat.{ℕ, ◌+◌, ◌-◌, ◌*◌, ◌≤◌, ◌<◌}
use native.Mathlib.Omega.{arith}
use mathlib.Core.Bool.{true}
use mathlib.Core.List.{List, [], ◌∷◌, map}
use lib.Dec.{ltb}
use lib.ListN.{length}
use borrow.Author.Tests.{ne_eqb}
use Rattle.lists.specs.Lists.{flat, laid}
use Rattle.skyline.specs.Skyline.{window_start}
use Rattle.head.specs.declared.Head.{Head}
use Rattle.head.specs.declared.replies.Reply.{Reply}
use Rattle.std.specs.Prelude.{Result, Ok, Err}
use Rattle.head.specs.Replies.{refusing, accepting}
use Rattle.refusals.specs.declared.Refusal.{Refusal}
use Rattle.refusals.specs.declared.Refusal.TheVariants.{ShortOutput}
use Rattle.refusals.specs.Refusals.{number, number_of}
use Rattle.refusals.proofs.Numbers.{accepted_number}
use Rattle.model.specs.Rows.{Tables, due_rows, due_cells}
use Rattle.model.specs.Book.{answer_of, book_rows, pair_stands, due_in, due_written, due_answer, due_reply, due_out}
use Rattle.model.specs.Promises.{DueLooked}
use Rattle.model.proofs.Replying.{refused_reply, refused_left}
use Rattle.model.proofs.Torn.{PairWithin, pair_within}
use Rattle.table_listing.specs.declared.window.RowWindow.{RowWindow}
use Rattle.table_listing.specs.Picked.{Window}
use Rattle.table_listing.specs.Due.{due_positions, due_of}
use Rattle.table_listing.proofs.Listing.{whole_consecutive}
use Rattle.table_listing.proofs.DueRows.{due_count, due_written_lem, due_length}
use Rattle.call_judging.proofs.Answering.{Passed, rows_stand, answer_passed, stays}
use Rattle.call_looking.specs.Shown.{room_answer, Written, WindowOf}
use Rattle.call_looking.specs.Due.{due_on, due_cells_on}
use Rattle.call_looking.proofs.Listing.{first, filled, behind, shown_reply, shown_none, shown_all}

-- two cells for each position
pub due_cells_lem : (h : Head) (lowers : List ℕ) → length (due_cells_on h lowers) ≡ 2 * length (due_on h lowers)
unfolding due_cells_on
due_cells_lem h lowers = due_length h.newest h.n1 (due_on h lowers)

-- the rows counted and written by a window from n1 - 1 positions before the newest on
module _ (h : Head) (t : Tables) (out : List ℕ) {w : RowWindow} (s : WindowOf h 1 (h.n1 - 1) t w) {c : ℕ} (g : c ≡ window_start h.newest h.n2)
    {count : ℕ} (n : count ≡ length (due_positions w.start w.end c w.first w.lower_ends.now)) where
  pub ends : w.end ≡ h.newest
  ends = omega (arith, s.end)

  counted : count ≡ length (due_on h t.lower_ends)
  unfolding due_on
  counted = n ∙ rw (ends, s.first, s.start, s.lower_ends, g)

  written : flat (map (due_of w.end h.n1) (due_positions w.start w.end c w.first w.lower_ends.now)) ≡ due_cells_on h t.lower_ends
  unfolding due_cells_on due_on
  written = rw (ends, s.first, s.start, s.lower_ends, g)

  pub rows_none : {r : Reply} → length out < 2 * count → r ≡ refusing ShortOutput h → Written h (due_cells_on h t.lower_ends) (length (due_on h t.lower_ends)) out r out
  rows_none l f = rw f (shown_none h (due_cells_on h t.lower_ends) out (length (due_on h t.lower_ends)) (rw (due_cells_lem h t.lower_ends, ← counted) l))

  pub rows_all : {r : Reply} {after : List ℕ} → 2 * count ≤ length out → after ≡ laid (flat (map (due_of w.end h.n1) (due_positions w.start w.end c w.first w.lower_ends.now))) out
      → r ≡ accepting h count → Written h (due_cells_on h t.lower_ends) (length (due_on h t.lower_ends)) out r after
  rows_all l d f =
      rw f (shown_all h (due_cells_on h t.lower_ends) out (rw (due_cells_lem h t.lower_ends, ← counted) l) counted (d ∙ ap (λ (cells : List ℕ). laid cells out) written))

module _ (h : Head) (t : Tables) where
  -- what is known of a book that passed and whose pair stands
  pub record Standing : Type 0 where
    pub passed : Passed h t
    pub pair : PairWithin h.n1 h.n2 h.capacity
    pub stands : pair_stands h ≡ true

  pub due_passed : {a : Result (Unit {0}) Refusal} → number_of a ≡ answer_of h t [] → a ≡ Ok tt → (h.n1 ≡ 0 → ⊥) → Standing
  unfolding pair_stands
  due_passed {a} e f some =
      let p = (answer_passed h t [] (accepted_number a e f)).0 in
      let stands : pair_stands h ≡ true = rw (ne_eqb h.n1 0 some) in
      record { passed = p; pair = pair_within h p.pair_untorn stands; stands = stands }

  -- the rows that can be due lie within the cells
  pub due_window : Standing → Window (first h t) (window_start h.newest (h.n1 - 1)) (h.newest + 1 - 1) t.lower_ends t.upper_ends
  unfolding window_start
  due_window s =
      let stand = rows_stand h t s.passed in
      let full = filled h t s.passed in
      let w = s.pair in
      record { starts = omega arith; low = omega arith; near = omega arith; lower_room = omega arith; upper_room = omega arith }

  -- what is due where no pair is watched
  module _ (none : h.n1 ≡ 0) where
    none_due : due_in h t ≡ []
    unfolding due_in pair_stands
    none_due = rw none

    none_written : due_written h t ≡ []
    unfolding due_written due_cells flat
    none_written = rw none_due

  -- and where the pair stands
  module _ (s : Standing) where
    stands_due : due_in h t ≡ due_rows h.newest h.n1 h.n2 (book_rows h t)
    unfolding due_in
    stands_due = rw s.stands

    starts : 1 ≤ first h t
    unfolding window_start
    starts = omega arith

    some : 1 ≤ h.n1
    some = let two = s.pair.two in omega arith

    stands_count : length (due_in h t) ≡ length (due_on h t.lower_ends)
    unfolding book_rows due_on
    stands_count =
        let p = s.passed in
        rw stands_due
        (due_count (first h t) h.dimensions h.held t (whole_consecutive h t p.whole).0 h.newest h.n1 h.n2 starts some (filled h t p))

    stands_written : due_written h t ≡ due_cells_on h t.lower_ends
    unfolding due_written book_rows due_cells_on due_on
    stands_written =
        let p = s.passed in
        rw stands_due
        (due_written_lem (first h t) h.dimensions h.held t (whole_consecutive h t p.whole).0 h.newest h.n1 h.n2 starts some (filled h t p))

  module _ (out : List ℕ) {a : Result (Unit {0}) Refusal} (e : number_of a ≡ answer_of h t []) where
    -- what a refused look leaves
    pub due_refused : {k : Refusal} {r : Reply} → a ≡ Err k → r ≡ refusing k h → DueLooked h t out r out
    unfolding due_reply due_out due_answer answer_of
    due_refused {k} f w =
        let g : number_of (Err k) ≡ due_answer h t (length out) = rw f at (stays _ ((ltb (length out) (length (due_written h t)), number ShortOutput) ∷ []) e f refl) in
        record { reply = rw w (refused_reply g refl h h (length (due_in h t))); out = refused_left g refl out (laid (due_written h t) out) }

    -- what is left where these cells are written of what is due
    due_by : {cells : List ℕ} {count : ℕ} {r : Reply} {after : List ℕ} → a ≡ Ok tt → due_written h t ≡ cells → length (due_in h t) ≡ count
        → Written h cells count out r after → DueLooked h t out r after
    unfolding due_reply due_out due_answer answer_of room_answer
    due_by f c n v =
        let q = shown_reply h t (behind h t _ _ refl (accepted_number a e f)) c n v in
        record { reply = q.0; out = q.1 }

    -- nothing is due where no pair is watched
    pub due_none : {r : Reply} → a ≡ Ok tt → h.n1 ≡ 0 → r ≡ accepting h 0 → DueLooked h t out r out
    unfolding laid
    due_none f none w = rw w (due_by f (none_written none) (ap length (none_due none)) (shown_all h [] out (omega arith) refl refl))

    -- what an accepted look leaves
    pub due_done : {r : Reply} {after : List ℕ} → a ≡ Ok tt → Standing → Written h (due_cells_on h t.lower_ends) (length (due_on h t.lower_ends)) out r after
        → DueLooked h t out r after
    due_done f s v = due_by f (stands_written s) (stands_count s) v
