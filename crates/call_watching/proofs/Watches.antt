-- A watch on a book and its end: what is known where a watch is accepted, the joins of its list, and what both leave.
use mathlib.Core.Path.{◌≡◌, refl, sym, ap, ◌∙◌}
use Prim.Native.Nat.{ℕ, ◌≤◌, ◌<◌}
use native.Mathlib.Omega.{arith}
use mathlib.Core.Bool.{not}
use mathlib.Core.List.{List, [], ◌∷◌, map}
use lib.Dec.{ltb}
use lib.ListN.{length, take}
use borrow.Author.Tests.{ltb-false}
use Rattle.lists.specs.Lists.{contains, insert, without, laid, padded}
use Rattle.head.specs.declared.Head.{Head}
use Rattle.head.specs.declared.Desk.{Desk}
use Rattle.std.specs.Prelude.{Result, Ok, Err}
use Rattle.head.specs.declared.replies.Reply.{Reply}
use Rattle.head.specs.Replies.{Outcome, refusing, accepting}
use Rattle.refusals.specs.declared.Refusal.{Refusal}
use Rattle.refusals.specs.declared.Refusal.TheVariants.{WindowSize, AlreadyWatched, NoFreeRecord, NotWatched, ShortOutput}
use Rattle.head.specs.Desks.{desk_unit, watch_of}
use Rattle.refusals.specs.Refusals.{number, number_of}
use Rattle.refusals.proofs.Numbers.{zero_passed, accepted_number}
use Rattle.model.specs.Rows.{Tables}
use Rattle.model.specs.Changes.{join, frames, change_room}
use Rattle.model.specs.Shares.{desk_full}
use Rattle.model.specs.Book.{standing, reply_of, list_of, watchful_answer, out_of_range, watch_bytes, watch_answer, watch_reply, watch_watches, watch_out, end_answer, end_reply, end_watches}
use Rattle.model.specs.Promises.{Watched, Ended}
use Rattle.model.proofs.ChangesFit.{watch_fits}
use Rattle.model.proofs.Replying.{refused_reply, refused_left, accepted_reply_lem, accepted_left}
use Rattle.table_listing.specs.declared.Follower.TheVariants.{Watch}
use Rattle.table_listing.specs.declared.window.RowWindow.{RowWindow}
use Rattle.table_listing.specs.Listed.{on_list}
use Rattle.table_listing.specs.Joins.{join_of}
use Rattle.table_listing.proofs.Joins.{watch_joins}
use Rattle.watch_numbers.specs.Vacancy.{Vacant}
use Rattle.watch_numbers.proofs.Vacancy.{vacant}
use Rattle.call_judging.proofs.Answering.{Passed, InRange, in_range, watchful_passed, lent_asked}
use Rattle.call_watching.specs.Judged.{WatchJudged, EndJudged}
use Rattle.call_looking.specs.Shown.{WindowOf}
use Rattle.call_looking.proofs.Listing.{size_list}

-- what is known where a watch is accepted
pub record Free (h : Head) (n : ℕ) (t : Tables) (ws : List ℕ) (room : ℕ) : Type 0 where
  pub passed : Passed h t
  pub range : InRange h n
  pub vacant : Vacant ws
  pub wide : change_room ≤ room

module _ (h : Head) (desk : Desk) (n : ℕ) (t : Tables) (ws : List ℕ) where
  pub watch_free : (room : ℕ) → watch_answer h desk n t ws room ≡ 0 → Free h n t ws room
  unfolding watch_answer
  watch_free room e =
      let p = watchful_passed h t ws _ e in
      let s = zero_passed _ _ _ p.2 in
      let w = zero_passed _ _ _ s.1 in
      let r = zero_passed _ _ _ w.1 in
      record {
        passed = p.0;
        range = in_range h n s.0;
        vacant = vacant h.capacity desk ws p.1 r.0;
        wide = ltb-false room change_room (zero_passed _ _ _ r.1).0;
      }

-- what is asked of the numbers of eight records is asked of those that are lent
module _ (h : Head) (desk : Desk) (n : ℕ) (t : Tables) (ws : List ℕ) (lent : ℕ) (eight : length ws ≡ 8) where
  pub watch_asked : (room : ℕ) {r : ℕ} → r ≡ watchful_answer h t (take lent ws) ((out_of_range h n, number WindowSize) ∷ (contains (watch_of desk n) (standing ws), number AlreadyWatched)
      ∷ (desk_full desk (standing ws), number NoFreeRecord) ∷ (ltb room change_room, number ShortOutput) ∷ []) → r ≡ watch_answer h desk n t (take lent ws) room
  unfolding watch_answer
  watch_asked room e =
      e ∙ lent_asked ws lent eight h t (λ l. (out_of_range h n, number WindowSize) ∷ (contains (watch_of desk n) (standing l), number AlreadyWatched)
      ∷ (desk_full desk (standing l), number NoFreeRecord) ∷ (ltb room change_room, number ShortOutput) ∷ [])

  pub end_asked : {r : ℕ} → r ≡ watchful_answer h t (take lent ws) ((out_of_range h n, number WindowSize) ∷ (not (contains (watch_of desk n) (standing ws)), number NotWatched) ∷ [])
      → r ≡ end_answer h desk n t (take lent ws)
  unfolding end_answer
  end_asked e = e ∙ lent_asked ws lent eight h t (λ l. (out_of_range h n, number WindowSize) ∷ (not (contains (watch_of desk n) (standing l)), number NotWatched) ∷ [])

module _ (h : Head) (n : ℕ) (t : Tables) {ws : List ℕ} {room : ℕ} (v : Free h n t ws room) {w : RowWindow} (s : WindowOf h 1 n t w) where
  -- a desk's joins of the list of n, by the cells of the tables
  joins_are : (desk : Desk) → frames (map (join_of (Watch desk n)) (on_list w)) ≡ watch_bytes h desk n t ws
  unfolding watch_bytes list_of
  joins_are desk =
      let small : n < desk_unit = omega (arith, v.range, v.passed.settings) in
      watch_joins desk n small (on_list w) ∙ sym (ap (λ (l : List ℕ). frames (map (join (watch_of desk n)) l)) (size_list h t v.passed n v.range s))

  -- which find room
  pub joins_room : (desk : Desk) → length (frames (map (join_of (Watch desk n)) (on_list w))) ≤ room
  joins_room desk = rw (joins_are desk) (omega (arith, watch_fits h t v.passed.held v.passed.untorn desk n ws, v.wide))

-- ---- before the watches change
module _ (h : Head) (desk : Desk) (n : ℕ) (t : Tables) (ws : List ℕ) where
  module _ (out : List ℕ) {a : Result (Unit {0}) Refusal} (e : number_of a ≡ watch_answer h desk n t ws (length out)) where
    -- what a refused watch leaves
    pub watch_refused : {k : Refusal} {r : Reply} → a ≡ Err k → r ≡ refusing k h → WatchJudged h desk n t ws out r out
    unfolding watch_reply watch_out
    watch_refused {k} f g =
        let judged : number_of (Err k) ≡ watch_answer h desk n t ws (length out) = rw f at e in
        record {
          reply = rw g (refused_reply judged refl h h (length (watch_bytes h desk n t ws)));
          out = refused_left judged refl out (laid (watch_bytes h desk n t ws) out);
        }

    -- what an accepted one leaves
    pub watch_set : {count : ℕ} {w : RowWindow} {r : Reply} {after : List ℕ} → a ≡ Ok tt → Free h n t ws (length out) → WindowOf h 1 n t w
        → count ≡ length (frames (map (join_of (Watch desk n)) (on_list w))) → after ≡ laid (frames (map (join_of (Watch desk n)) (on_list w))) out → r ≡ accepting h count
        → WatchJudged h desk n t ws out r after
    unfolding watch_reply watch_out
    watch_set f v s c l g =
        let judged : number_of (Ok tt) ≡ watch_answer h desk n t ws (length out) = rw f at e in
        let bytes = joins_are h n t v s desk in
        record { reply = rw g (accepted_reply_lem judged refl h refl (rw bytes at c)); out = accepted_left judged refl out (rw bytes at l) }

  -- what an end leaves
  module _ {a : Result (Unit {0}) Refusal} (e : number_of a ≡ end_answer h desk n t ws) where
    pub end_refused : {k : Refusal} {r : Reply} → a ≡ Err k → r ≡ refusing k h → EndJudged h desk n t ws r
    unfolding end_reply
    end_refused {k} f g =
        let judged : number_of (Err k) ≡ end_answer h desk n t ws = rw f at e in
        record { reply = rw g (refused_reply judged refl h h 0) }

    pub end_accepted : {r : Reply} → a ≡ Ok tt → r ≡ accepting h 0 → EndJudged h desk n t ws r
    unfolding end_reply
    end_accepted f g =
        let judged : number_of (Ok tt) ≡ end_answer h desk n t ws = rw f at e in
        record { reply = rw g (accepted_reply_lem judged refl h refl refl) }

-- ---- once they are changed, or left
module _ {h : Head} {desk : Desk} {n : ℕ} {t : Tables} {ws : List ℕ} where
  module _ {before after : List ℕ} {r : Reply} (m : WatchJudged h desk n t ws before r after) where
    answered : number_of r.answer ≡ watch_answer h desk n t ws (length before)
    unfolding watch_reply reply_of
    answered = ap Outcome.number m.reply

    pub watch_accepted : r.answer ≡ Ok tt → watch_answer h desk n t ws (length before) ≡ 0
    watch_accepted f = accepted_number r.answer answered f

    pub watch_inserted : r.answer ≡ Ok tt → {ws' : List ℕ} → ws' ≡ padded 8 (insert (watch_of desk n) (standing ws)) ws → Watched h desk n t ws before r ws' after
    unfolding watch_watches
    watch_inserted f i = record { reply = m.reply; watches = accepted_left answered f ws i; out = m.out }

    pub watch_left : {k : Refusal} → r.answer ≡ Err k → Watched h desk n t ws before r ws after
    unfolding watch_watches
    watch_left f = record { reply = m.reply; watches = refused_left answered f ws _; out = m.out }

  module _ {r : Reply} (m : EndJudged h desk n t ws r) where
    ended : number_of r.answer ≡ end_answer h desk n t ws
    unfolding end_reply reply_of
    ended = ap Outcome.number m.reply

    pub end_accepted_is : r.answer ≡ Ok tt → end_answer h desk n t ws ≡ 0
    end_accepted_is f = accepted_number r.answer ended f

    pub end_removed : r.answer ≡ Ok tt → {ws' : List ℕ} → ws' ≡ padded 8 (without (watch_of desk n) (standing ws)) ws → Ended h desk n t ws r ws'
    unfolding end_watches
    end_removed f i = record { reply = m.reply; watches = accepted_left ended f ws i }

    pub end_left : {k : Refusal} → r.answer ≡ Err k → Ended h desk n t ws r ws
    unfolding end_watches
    end_left f = record { reply = m.reply; watches = refused_left ended f ws _ }
