-- A quote and look in one, made on a reachable book: both are taken and their lines stand in the text, or all is as it was.
use Rattle.std.specs.Prelude.{Result, Ok, Err}
use mathlib.Core.Path.{◌≡◌, refl, sym, ap, subst, ◌∙◌}
use Prim.Native.Nat.{ℕ, zero, suc, ◌+◌, ◌≤◌}
use native.Mathlib.Numerals.{add-one}
use native.Mathlib.Omega.{arith}
use mathlib.Core.Bool.{Bool, true, false, ◌&&◌, not, true≢false}
use mathlib.Core.List.{List, [], ◌∷◌, ◌++◌, append-nil}
use lib.Dec.{eqb}
use lib.ListN.{length, take, drop, replicate, length-append, length-drop}
use borrow.Author.Tests.{ne_eqb, not-true, not-false}
use Rattle.lists.specs.Lists.{laid}
use Rattle.head.specs.declared.Head.{Head}
use Rattle.refusals.specs.declared.Refusal.{Refusal}
use Rattle.refusals.specs.Refusals.{number, number_of, granted}
use Rattle.refusals.proofs.Numbers.{number_above}
use Rattle.head.specs.Replies.{Outcome}
use Rattle.model.specs.Rows.{Tables}
use Rattle.model.specs.Book.{reply_of, quote_answer, quote_reply, quote_tables, both_list, both_answer, both_reply, both_listed, both_out, both_cells, both_tables}
use Rattle.model.specs.Calls.{book_seen}
use Rattle.model.specs.Promises.{Quoted, QuotedLooked}
use Rattle.model.proofs.Replying.{refused_left}
use Rattle.call_quoting.specs.Entered.{Slid}
use Rattle.call_quote_looking.specs.declared.BothEntered.{BothEntered}
use Rattle.call_quote_looking.specs.Made.{BothMade}
use Rattle.text.specs.Text.{line, Laid}
use Rattle.line_changes.specs.Printed.{changes_text}
use Rattle.tape_model.specs.Play.{Player}
use Rattle.line_answers.specs.declared.Turn.{Turn}
use Rattle.line_answers.specs.Turns.{player, Effect, Turned}
use Rattle.line_answers.proofs.InOne.{both_turned}
use Rattle.tape_calls.proofs.Rooms.{quote_fits}
use Rattle.tape_turns.specs.Making.{Makes}
use Rattle.tape_both.specs.declared.BothTurn.{BothTurn}
use Rattle.tape_both.specs.Tried.{takes_both, BothTried}

-- a turn on a reachable book, by what the book model leaves
made_so : {one : Effect} {before : List ℕ} {turn : Turn} {u t' : Tables} {by : ℕ} {bytes' after : List ℕ} → Turned one before turn u bytes' after → Slid turn.head u t' by
    → Makes true one before (record { turn = turn; by = by }) t' bytes' after
made_so {one} {before} {turn} {t' = t'} {by = by} {bytes' = bytes'} {after = after} v s = record {
  turned = subst (λ (q : Tables). Turned one before turn q bytes' after) v.lent v;
  moved = λ e. absurd (true≢false e);
  slides = λ _. subst (λ (q : Tables). Slid turn.head q t' by) v.lent s;
}

-- the number of a refusal is not 0
not_zero : (refusal : Refusal) → eqb (number refusal) 0 ≡ false
not_zero refusal = ne_eqb (number refusal) 0 (λ z. omega (arith, number_above refusal, z))

-- where the first of two answers, or else the second, is none, the first is none
first_none : (a b : ℕ) → granted a b a ≡ 0 → a ≡ 0
unfolding granted
first_none zero b e = refl
first_none (suc j) b e = e

-- what is laid over cells of the same length fits them
list_fits : (list cells : List ℕ) {after : List ℕ} → after ≡ laid list cells → length after ≡ length cells → length list ≤ length cells
unfolding laid
list_fits list cells e same = omega (arith, ap length e, length-append list (drop (length list) cells), length-drop (length list) cells)

module _ (h : Head) (t : Tables) (ws bytes x : List ℕ) (n : ℕ) where
  -- the player before the call
  abbrev k : Player
  k = player h t ws bytes

  -- they do not stand there
  pub tried_none : (found : Bool) {before : List ℕ} {r : BothTurn} → not found ≡ true → r.taken ≡ false → BothTried found x n k before r t bytes before
  tried_none found f e = record {
    taken = e ∙ sym (rw (not-true found f));
    turn = λ z. absurd (true≢false (sym z ∙ e));
    left = λ _. (refl, refl, refl);
  }

  module _ {s : BothEntered} {t' : Tables} {bytes' cells : List ℕ} (m : BothMade true h x n t ws bytes (replicate 1024 0) s t' bytes' cells) where
    abbrev q : QuotedLooked h x n t ws bytes (replicate 1024 0) s.both (both_tables h x n t ws (length bytes) 1024) bytes' cells
    q = m.made

    abbrev answer : Result (Unit {0}) Refusal
    answer = s.both.reply.answer

    number_is : number_of answer ≡ both_answer h x n t ws (length bytes) 1024
    unfolding both_reply reply_of
    number_is = ap Outcome.number q.reply

    taken_is : (found : Bool) → not found ≡ false → (found && takes_both x n k) ≡ eqb (number_of answer) 0
    unfolding takes_both book_seen
    taken_is found f = rw (not-false found f) (ap (λ (o : Outcome). eqb o.number 0) (sym q.reply))

    -- the call refuses
    pub tried_refused : (found : Bool) {before : List ℕ} {r : BothTurn} {refusal : Refusal} → not found ≡ false → answer ≡ Err refusal → r.taken ≡ false
        → BothTried found x n k before r t' bytes' before
    unfolding both_out
    tried_refused found {refusal = refusal} f e g = record {
      taken = g ∙ sym (taken_is found f ∙ rw e (not_zero refusal));
      turn = λ z. absurd (true≢false (sym z ∙ g));
      left = λ _. (m.behind refl ∙ sym (refused_left number_is e t _), q.out ∙ sym (refused_left number_is e bytes _), refl);
    }

    -- the call takes both
    module _ (e : answer ≡ Ok tt) where
      zero_there : both_answer h x n t ws (length bytes) 1024 ≡ 0
      zero_there = sym number_is ∙ ap number_of e

      quote_zero : quote_answer h x t ws (length bytes) ≡ 0
      unfolding both_answer
      quote_zero = first_none _ _ zero_there

      -- the quote is taken
      quoted : Quoted h x t ws bytes s.both.reply (quote_tables h x t ws (length bytes)) bytes'
      unfolding both_reply quote_reply both_out granted
      quoted = record {
        reply = q.reply ∙ rw (zero_there, quote_zero);
        lent = refl;
        out = q.out ∙ rw zero_there;
      }

      -- its changes fit the bytes, and the positions the cells
      pub changes_fit : s.both.reply.count ≤ length bytes
      changes_fit = quote_fits quoted

      pub listed_fit : length cells ≡ 1024 → s.both.listed ≤ 1024
      unfolding both_listed both_cells granted
      listed_fit c =
          let list = both_list h x n t ws (length bytes) in
          let wrote : cells ≡ laid list (replicate 1024 0) = q.positions ∙ rw zero_there in
          let count : s.both.listed ≡ length list = q.listed ∙ rw zero_there in
          omega (arith, count, list_fits list (replicate 1024 0) wrote c)

      -- and both lines stand in the text
      pub tried_taken : (found : Bool) {before after : List ℕ} {count : ℕ} → not found ≡ false
          → Laid ((line 81 (s.both.reply.head.newest ∷ s.both.reply.head.live ∷ []) ++ changes_text (take s.both.reply.count bytes'))
          ++ line 76 (take (s.both.listed + 1) (n ∷ (cells ++ [])))) before count after
          → BothTried found x n k before
          (record { taken = true; made = record { turn = record { answer = answer; count = count; head = s.both.reply.head; watches = ws }; by = s.by } })
          t' bytes' after
      tried_taken found {before} {after} {count} f l =
          let same : Laid ((line 81 (s.both.reply.head.newest ∷ s.both.reply.head.live ∷ []) ++ changes_text (take s.both.reply.count bytes')) ++ line 76 (n ∷ take s.both.listed cells)) before count after =
          rw (add-one s.both.listed, append-nil cells) at l in
          record {
            taken = sym (taken_is found f ∙ rw e);
            turn = λ _. made_so (both_turned h t ws bytes x n q (ap number_of e) same) (m.slides refl);
            left = λ z. absurd (true≢false z);
          }
