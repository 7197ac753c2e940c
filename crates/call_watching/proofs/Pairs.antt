-- A watch of the pair on a book: what is known where it is accepted, the joins of its past list, and what it leaves.
use mathlib.Core.Path.{◌≡◌, refl, sym, ap}
use Prim.Native.Nat.{ℕ, ◌≤◌}
use native.Mathlib.Omega.{arith}
use mathlib.Core.Bool.{Bool, true, false, not}
use mathlib.Core.List.{List, [], map}
use lib.Dec.{ltb}
use lib.ListN.{length}
use borrow.Author.Tests.{ltb-false}
use Rattle.lists.specs.Lists.{laid}
use Rattle.lists.proofs.Booleans.{none_left, none_right}
use Rattle.head.specs.declared.Head.{Head}
use Rattle.std.specs.Prelude.{Result, Ok, Err}
use Rattle.head.specs.declared.replies.Reply.{Reply}
use Rattle.head.specs.Replies.{refusing, accepting}
use Rattle.refusals.specs.declared.Refusal.{Refusal}
use Rattle.head.specs.Heads.{with_pair}
use Rattle.refusals.specs.Refusals.{number_of}
use Rattle.refusals.proofs.Numbers.{zero_passed, accepted_number}
use Rattle.model.specs.Rows.{Tables}
use Rattle.model.specs.Changes.{pair_join, frames, change_room}
use Rattle.model.specs.Book.{past_list_of, pair_bytes, pair_answer, pair_reply, pair_out, unpair_answer, unpair_reply}
use Rattle.model.specs.Promises.{Paired, Unpaired}
use Rattle.model.proofs.ChangesFit.{pair_fits}
use Rattle.model.proofs.Replying.{refused_reply, refused_left, accepted_reply_lem, accepted_left}
use Rattle.table_listing.specs.declared.Follower.TheVariants.{Pair}
use Rattle.table_listing.specs.declared.window.RowWindow.{RowWindow}
use Rattle.table_listing.specs.Listed.{on_list}
use Rattle.table_listing.specs.Joins.{join_of}
use Rattle.call_judging.proofs.Answering.{Passed, watchful_passed}
use Rattle.call_looking.specs.Shown.{WindowOf}
use Rattle.call_looking.proofs.Listing.{sizes_list}

-- no pair stands where n1 is 0
pub not_twice : (b : Bool) → b ≡ not (not b)
not_twice true = refl
not_twice false = refl

-- what is known where a watch of the pair is accepted
pub record FreePair (h : Head) (n1 n2 : ℕ) (t : Tables) (room : ℕ) : Type 0 where
  pub passed : Passed h t
  pub two : 2 ≤ n1
  pub order : n1 ≤ n2
  pub most : n2 ≤ h.capacity
  pub wide : change_room ≤ room

module _ (h : Head) (n1 n2 : ℕ) (t : Tables) (ws : List ℕ) where
  pub pair_free : (room : ℕ) {a : Result (Unit {0}) Refusal} → number_of a ≡ pair_answer h n1 n2 t ws room → a ≡ Ok tt → FreePair h n1 n2 t room
  unfolding pair_answer
  pair_free room {a} e f =
      let p = watchful_passed h t ws _ (accepted_number a e f) in
      let s = zero_passed _ _ _ p.2 in
      let o = zero_passed _ _ _ s.1 in
      let r = zero_passed _ _ _ o.1 in
      record {
        passed = p.0;
        two = ltb-false n1 2 (none_left (ltb n1 2) (ltb h.capacity n2) s.0);
        order = ltb-false n2 n1 o.0;
        most = ltb-false h.capacity n2 (none_right (ltb n1 2) (ltb h.capacity n2) s.0);
        wide = ltb-false room change_room (zero_passed _ _ _ r.1).0;
      }

module _ (h : Head) (n1 n2 : ℕ) (t : Tables) {room : ℕ} (v : FreePair h n1 n2 t room) {w : RowWindow} (s : WindowOf h n1 n2 t w) where
  -- the joins of its past list, by the cells of the tables
  joins_are : (ws : List ℕ) → frames (map (join_of Pair) (on_list w)) ≡ pair_bytes h n1 n2 t ws
  unfolding pair_bytes past_list_of join_of
  joins_are ws =
      let two = v.two in
      let some : 1 ≤ n1 = omega arith in
      sym (ap (λ (l : List ℕ). frames (map pair_join l)) (sizes_list h t v.passed n1 n2 some v.order v.most s))

  -- which find room
  pub joins_room : length (frames (map (join_of Pair) (on_list w))) ≤ room
  joins_room = rw (joins_are []) (omega (arith, pair_fits h t v.passed.held v.passed.untorn n1 n2 [], v.wide))

module _ (h : Head) (n1 n2 : ℕ) (t : Tables) (ws : List ℕ) where
  module _ (out : List ℕ) {a : Result (Unit {0}) Refusal} (e : number_of a ≡ pair_answer h n1 n2 t ws (length out)) where
    -- what a refused watch of the pair leaves
    pub pair_refused : {k : Refusal} {r : Reply} → a ≡ Err k → r ≡ refusing k h → Paired h n1 n2 t ws out r out
    unfolding pair_reply pair_out
    pair_refused {k} f g =
        let judged : number_of (Err k) ≡ pair_answer h n1 n2 t ws (length out) = rw f at e in
        record {
          reply = rw g (refused_reply judged refl h (with_pair h n1 n2) (length (pair_bytes h n1 n2 t ws)));
          out = refused_left judged refl out (laid (pair_bytes h n1 n2 t ws) out);
        }

    -- what an accepted one leaves
    pub pair_set : {count : ℕ} {w : RowWindow} {next : Head} {r : Reply} {after : List ℕ} → a ≡ Ok tt → FreePair h n1 n2 t (length out) → WindowOf h n1 n2 t w
        → count ≡ length (frames (map (join_of Pair) (on_list w))) → after ≡ laid (frames (map (join_of Pair) (on_list w))) out → next ≡ with_pair h n1 n2 → r ≡ accepting next count
        → Paired h n1 n2 t ws out r after
    unfolding pair_reply pair_out
    pair_set f v s c l i g =
        let judged : number_of (Ok tt) ≡ pair_answer h n1 n2 t ws (length out) = rw f at e in
        let bytes = joins_are h n1 n2 t v s ws in
        record { reply = rw g (accepted_reply_lem judged refl h i (rw bytes at c)); out = accepted_left judged refl out (rw bytes at l) }

-- what the end of the pair leaves
module _ (h : Head) (t : Tables) (ws : List ℕ) {a : Result (Unit {0}) Refusal} (e : number_of a ≡ unpair_answer h t ws) {r : Reply} where
  pub unpair_refused : {k : Refusal} → a ≡ Err k → r ≡ refusing k h → Unpaired h t ws r
  unfolding unpair_reply
  unpair_refused {k} f g =
      let judged : number_of (Err k) ≡ unpair_answer h t ws = rw f at e in
      record { reply = rw g (refused_reply judged refl h _ _) }

  pub unpair_done : {next : Head} → a ≡ Ok tt → next ≡ with_pair h 0 0 → r ≡ accepting next 0 → Unpaired h t ws r
  unfolding unpair_reply
  unpair_done f i g =
      let judged : number_of (Ok tt) ≡ unpair_answer h t ws = rw f at e in
      record { reply = rw g (accepted_reply_lem judged refl h i refl) }
