-- Rooms: the changes that an accepted call wrote fit the bytes that it was lent, which have the room that is asked for.
use mathlib.Core.Path.{◌≡◌}
use Prim.Native.Nat.{ℕ, suc, ◌≤◌}
use native.Mathlib.Nat.{le_trans}
use native.Mathlib.Omega.{arith}
use mathlib.Core.Bool.{Bool}
use mathlib.Core.List.{List, [], ◌∷◌}
use lib.Dec.{ltb}
use lib.ListN.{length}
use borrow.Author.Tests.{ltb-false}
use Rattle.head.specs.declared.Desk.{Desk}
use Rattle.head.specs.declared.Head.{Head}
use Rattle.head.specs.declared.replies.Reply.{Reply}
use Rattle.refusals.proofs.Numbers.{zero_passed}
use Rattle.model.specs.Rows.{Tables}
use Rattle.model.specs.Changes.{change_room}
use Rattle.model.specs.Book.{reply_of, quote_bytes, quote_answer, quote_reply, watch_bytes, watch_answer, watch_reply, pair_bytes, pair_answer, pair_reply, watchful_answer}
use Rattle.model.specs.Promises.{Quoted, Watched, Paired}
use Rattle.model.proofs.ChangesFit as fit
use Rattle.call_judging.proofs.Answering.{Passed, watchful_passed}
use Rattle.tape_calls.proofs.CellRooms.{counted, same_count}

-- the room is there, where it is the third test that a call adds
third_room : (h : Head) (t : Tables) (ws : List ℕ) (a b : Bool) (i j k : ℕ) (room : ℕ)
    → watchful_answer h t ws ((a, suc i) ∷ (b, suc j) ∷ (ltb room change_room, suc k) ∷ []) ≡ 0 → Passed h t × (change_room ≤ room)
third_room h t ws a b i j k room e =
    let p = watchful_passed h t ws _ e in
    (p.0, ltb-false room change_room (zero_passed _ _ _ (zero_passed _ _ _ (zero_passed _ _ _ p.2).1).1).0)

-- and where it is the fourth
fourth_room : (h : Head) (t : Tables) (ws : List ℕ) (a b c : Bool) (i j k l : ℕ) (room : ℕ)
    → watchful_answer h t ws ((a, suc i) ∷ (b, suc j) ∷ (c, suc k) ∷ (ltb room change_room, suc l) ∷ []) ≡ 0 → Passed h t × (change_room ≤ room)
fourth_room h t ws a b c i j k l room e =
    let p = watchful_passed h t ws _ e in
    (p.0, ltb-false room change_room (zero_passed _ _ _ (zero_passed _ _ _ (zero_passed _ _ _ (zero_passed _ _ _ p.2).1).1).1).0)

module _ {h : Head} {t : Tables} {r : Reply} {before after : List ℕ} where
  -- the changes of a quote fit its output
  pub quote_fits : {x ws : List ℕ} {t' : Tables} → Quoted h x t ws before r t' after → r.count ≤ length before
  unfolding quote_reply reply_of quote_answer
  quote_fits {x} {ws} q =
      let room = length before in
      omega (
        arith,
        same_count q.reply,
        counted (quote_answer h x t ws room) (length (quote_bytes h x t ws)) room
            (λ e.
            let p = third_room h t ws _ _ _ _ _ room e in
            le_trans (fit.changes_fit h x t ws p.0.held p.0.untorn p.0.pair_untorn).bytes_most p.1),
      )

  -- the joins of a watch fit its output
  pub watch_fits : {desk : Desk} {n : ℕ} {ws ws' : List ℕ} → Watched h desk n t ws before r ws' after → r.count ≤ length before
  unfolding watch_reply reply_of watch_answer
  watch_fits {desk} {n} {ws} w =
      let room = length before in
      omega (
        arith,
        same_count w.reply,
        counted (watch_answer h desk n t ws room) (length (watch_bytes h desk n t ws)) room
            (λ e.
            let p = fourth_room h t ws _ _ _ _ _ _ _ room e in
            le_trans (fit.watch_fits h t p.0.held p.0.untorn desk n ws) p.1),
      )

  -- and so do those of a pair
  pub pair_fits : {n1 n2 : ℕ} {ws : List ℕ} → Paired h n1 n2 t ws before r after → r.count ≤ length before
  unfolding pair_reply reply_of pair_answer
  pair_fits {n1} {n2} {ws} p =
      let room = length before in
      omega (
        arith,
        same_count p.reply,
        counted (pair_answer h n1 n2 t ws room) (length (pair_bytes h n1 n2 t ws)) room
            (λ e.
            let p = fourth_room h t ws _ _ _ _ _ _ _ room e in
            le_trans (fit.pair_fits h t p.0.held p.0.untorn n1 n2 ws) p.1),
      )
