-- A quote on a book: what is known once it is accepted and its rows are compared with it, and what it leaves.
use Rattle.std.specs.Prelude.{Result, Ok, Err}
use mathlib.Core.Path.{◌≡◌, refl, sym, ap, ap₂, ◌∙◌}
use Prim.Native.Nat.{ℕ, ◌+◌, ◌-◌, ◌≤◌}
use native.Mathlib.Omega.{arith}
use mathlib.Core.Bool.{false}
use mathlib.Core.List.{List, ◌++◌}
use lib.Dec.{eqb}
use lib.ListN.{length, take, drop, length-drop}
use lib.Seq.{take_all}
use borrow.Author.Tests.{ltb-false, leb-false, eqb-true, not-false}
use Rattle.lists.specs.Lists.{laid}
use Rattle.skyline.specs.Skyline.{window_start}
use Rattle.head.specs.declared.Head.{Head}
use Rattle.refusals.specs.declared.Refusal.{Refusal}
use Rattle.head.specs.declared.replies.Reply.{Reply}
use Rattle.head.specs.Heads.{last_position, after_quote}
use Rattle.refusals.specs.Refusals.{number_of}
use Rattle.head.specs.Replies.{outcome}
use Rattle.refusals.proofs.Numbers.{zero_passed}
use Rattle.model.specs.Rows.{Row, Tables, filled, rows_after}
use Rattle.model.specs.Changes.{all_changes, pair_changes, change_room}
use Rattle.model.specs.Book.{torn_watches, book_rows, standing, list_of, pair_list_of, quote_rows, quote_head, quote_bytes, quote_answer, quote_reply, quote_tables, quote_out}
use Rattle.model.specs.Promises.{Quoted}
use Rattle.model.proofs.Replying.{refused_reply, refused_left, accepted_reply_lem, accepted_left}
use Rattle.model.proofs.ChangeFrames.{frames_append}
use Rattle.model.proofs.ChangesFit.{changes_fit}
use Rattle.table_finding.specs.Found.{Rows}
use Rattle.call_settling.specs.declared.Finding.{Finding}
use Rattle.call_settling.specs.Findings.{expired_places, held_rows, Finds}
use Rattle.call_settling.proofs.Standing.{Admitted, within, long, whole, held_is, places}
use Rattle.call_settling.proofs.Findings.{rows_fit, found_lower, found_live, found_held}
use Rattle.call_settling.specs.Settled.{uppers_put}
use Rattle.call_settling.proofs.Settled.{retired_below}
use Rattle.table_cells.specs.Marked.{Below}
use Rattle.table_changes.specs.Watches.{all_frames}
use Rattle.table_changes.proofs.Quoting.{quote_frames}
use Rattle.table_pair_changes.proofs.Pairs.{pair_frames_lem, paired}
use Rattle.call_judging.proofs.Answering.{watchful_passed, lent_all, lent_enough}
use Rattle.call_writing.specs.Bytes.{change_bytes, Writable, accepted_reply}

-- what is known where a quote is accepted
pub record Taken (h : Head) (x : List ℕ) (t : Tables) (ws : List ℕ) (room : ℕ) : Type 0 where
  pub admitted : Admitted h x t
  pub untorn : torn_watches h.capacity ws ≡ false
  pub wide : change_room ≤ room

pub taken : (h : Head) (x : List ℕ) (t : Tables) (ws : List ℕ) (room : ℕ) → quote_answer h x t ws room ≡ 0 → Taken h x t ws room
unfolding quote_answer
taken h x t ws room e =
    let p = watchful_passed h t ws _ e in
    let c = zero_passed _ _ _ p.2 in
    let f = zero_passed _ _ _ c.1 in
    record {
      admitted = record {
        passed = p.0;
        wide = eqb-true (length x) h.dimensions (not-false (eqb (length x) h.dimensions) c.0);
        below = leb-false last_position h.newest f.0;
      };
      untorn = p.1;
      wide = ltb-false room change_room (zero_passed _ _ _ f.1).0;
    }

-- then all of the eight records whose numbers these are were lent
pub quote_lent : (h : Head) (x : List ℕ) (t : Tables) (ws : List ℕ) (lent room : ℕ) → length ws ≡ 8 → quote_answer h x t (take lent ws) room ≡ 0 → take lent ws ≡ ws
unfolding quote_answer
quote_lent h x t ws lent room eight e = lent_all ws lent eight (lent_enough ws lent eight h t _ e)

-- at most 1,024 rows are held
pub bounded_held : {h : Head} {x : List ℕ} {t : Tables} → Admitted h x t → h.held ≤ 1024
bounded_held a = omega (arith, (places a).2, (within a).small_capacity)

-- ---- once the rows are compared with the quote
pub record Entering (h : Head) (x : List ℕ) (t : Tables) (ws : List ℕ) (room : ℕ) (f : Finding) (ps : List ℕ) : Type 0 where
  pub accepted : quote_answer h x t ws room ≡ 0
  pub eight : length ws ≡ 8
  pub finds : Finds h x t.columns t.upper_ends ps f

module _ {h : Head} {x : List ℕ} {t : Tables} {ws : List ℕ} {room : ℕ} {f : Finding} {ps : List ℕ} (v : Entering h x t ws room f ps) where
  abbrev pub book : Admitted h x t
  book = (taken h x t ws room v.accepted).admitted

  abbrev rows : Rows
  rows = held_rows h x t.columns t.upper_ends

  -- the changes of every watch and of the pair, by what was found
  abbrev bytes : List ℕ
  bytes = change_bytes h f.lower t.lower_ends rows ws

  bytes_are : bytes ≡ quote_bytes h x t ws
  unfolding change_bytes quote_bytes
  bytes_are =
      ap₂ {C = List ℕ} (λ (k l : List ℕ). k ++ l)
      (ap (all_frames h t.lower_ends rows f.lower) (sym (take_all 8 ws (omega (arith, v.eight))))
      ∙ quote_frames h t x f.lower (whole book) book.below (within book).some_capacity (found_lower book v.finds) ws (taken h x t ws room v.accepted).untorn)
      (pair_frames_lem h t (whole book) book.passed.pair_untorn book.below x ws)
      ∙ sym (frames_append (all_changes (standing ws) (list_of h (book_rows h t)) (list_of next rest)) (pair_changes (pair_list_of h (book_rows h t)) (pair_list_of next rest)))
    where
      next : Head
      next = quote_head h x t ws

      rest : List Row
      rest = quote_rows h x t ws

  -- the rows fill the window of N
  window_filled : (h.newest + 1 ≡ window_start h.newest h.capacity + h.held) × (window_start h.newest h.capacity + expired_places h ≡ window_start (h.newest + 1) h.capacity)
  unfolding window_start expired_places
  window_filled = omega (arith, held_is book, (within book).some_capacity)

  -- the part of the places that lists the retired rows
  abbrev retired : List ℕ
  retired = take (length ps - f.at) (drop f.at ps)

  pub retired_is : retired ≡ drop f.at ps
  retired_is = take_all (length ps - f.at) (drop f.at ps) (omega (arith, length-drop f.at ps))

  -- what is asked before the changes are written
  pub writable : Writable h f.lower retired t.lower_ends rows ws room
  writable = record {
    bounded = omega (arith, (within book).small_capacity);
    untorn = (taken h x t ws room v.accepted).untorn;
    full = record {
      fits = rows_fit book;
      lower_room = omega (arith, (places book).2, (long book).lower_ends);
      filled = window_filled.0;
      space = book.below;
    };
    outdone = record { from = expired_places h; stays = window_filled.1; listed = retired_is ∙ v.finds.listed };
    paired = paired h t (whole book) book.passed.pair_untorn book.below (omega (arith, (places book).2, (long book).lower_ends)) (omega (arith, (places book).2, (long book).upper_ends));
    fits =
        rw bytes_are
        (omega (
          arith,
          (changes_fit h x t ws book.passed.held book.passed.untorn book.passed.pair_untorn).bytes_most,
          (taken h x t ws room v.accepted).wide,
        ));
  }

  -- the retired places are those of rows held
  pub retired_low : Below retired h.held
  retired_low = rw retired_is (retired_below book v.finds)

  -- the upper ends settled by them
  pub uppers_settled_lem : {us : List ℕ} → us ≡ uppers_put h f.by retired t.upper_ends → us ≡ uppers_put h f.by (drop f.at ps) t.upper_ends
  uppers_settled_lem e = e ∙ rw retired_is

  -- an accepted quote is answered with no number
  answered : number_of (Ok tt) ≡ quote_answer h x t ws room
  answered = sym v.accepted

  -- what is handed back once so many bytes are written is the quote's reply
  pub reply_is : {count : ℕ} {r : Reply} → count ≡ length bytes → r ≡ accepted_reply h f.live f.held count → outcome r ≡ quote_reply h x t ws room
  unfolding quote_reply quote_head quote_rows
  reply_is c e =
      ap outcome e
      ∙ accepted_reply_lem answered refl h (rw (found_live book v.finds, found_held book v.finds)) (rw bytes_are at c)

-- and the output is as the quote leaves it
pub out_is : {h : Head} {x : List ℕ} {t : Tables} {ws : List ℕ} {f : Finding} {ps : List ℕ} (out : List ℕ) {after : List ℕ} → (v : Entering h x t ws (length out) f ps)
    → after ≡ laid (change_bytes h f.lower t.lower_ends (held_rows h x t.columns t.upper_ends) ws) out → after ≡ quote_out h x t ws out
unfolding quote_out
out_is out v l = accepted_left (answered v) refl out (rw (bytes_are v) at l)

-- the rows after the quote fill the tables
pub quote_done : {h : Head} {x : List ℕ} {t : Tables} {ws : List ℕ} {f : Finding} {ps : List ℕ} (out : List ℕ) {after : List ℕ} {count : ℕ} {r : Reply} {t' : Tables} → (v : Entering h x t ws (length out) f ps)
    → count ≡ length (change_bytes h f.lower t.lower_ends (held_rows h x t.columns t.upper_ends) ws) → r ≡ accepted_reply h f.live f.held count
    → after ≡ laid (change_bytes h f.lower t.lower_ends (held_rows h x t.columns t.upper_ends) ws) out
    → t' ≡ filled h.dimensions h.capacity (rows_after h.dimensions h.directions h.capacity h.newest x (book_rows h t)) t → Quoted h x t ws out r t' after
unfolding quote_tables quote_rows
quote_done {t = t} out v c e o l = record { reply = reply_is v c e; lent = accepted_left (answered v) refl t l; out = out_is out v o }

-- a quote that is refused leaves everything as it was
pub quote_refused : (h : Head) (x : List ℕ) (t : Tables) (ws out : List ℕ) {a : Result (Unit {0}) Refusal} {k : Refusal} → number_of a ≡ quote_answer h x t ws (length out) → a ≡ Err k
    → Quoted h x t ws out (record { answer = a; head = h; count = 0 }) t out
unfolding quote_reply quote_tables quote_out
quote_refused h x t ws out e f = record { reply = refused_reply e f h _ _; lent = refused_left e f t _; out = refused_left e f out _ }
