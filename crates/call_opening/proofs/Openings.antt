-- An opening that is lent so many watch records: its answer, and what it leaves.
use mathlib.Core.Path.{◌≡◌, refl, sym, ◌∙◌}
use Prim.Native.Nat.{ℕ, ◌*◌, ◌≤◌}
use native.Mathlib.Omega.{arith}
use mathlib.Core.List.{List, [], ◌∷◌}
use lib.ListN.{length, take, drop, drop_of_length-le, length-take}
use Rattle.lists.specs.Lists.{flat, padded}
use Rattle.head.specs.declared.Head.{Head}
use Rattle.std.specs.Prelude.{Result, Ok, Err}
use Rattle.head.specs.declared.replies.Reply.{Reply}
use Rattle.refusals.specs.declared.Refusal.{Refusal}
use Rattle.head.specs.Heads.{fresh_head}
use Rattle.head.specs.Replies.{refusing, accepting}
use Rattle.refusals.specs.Refusals.{number_of}
use Rattle.refusals.proofs.Numbers.{accepted_number}
use Rattle.head.proofs.Settings.{Within}
use Rattle.model.specs.Rows.{Tables, filled}
use Rattle.model.specs.Book.{short_loan, open_answer, open_reply, open_tables, open_watches}
use Rattle.model.specs.Promises.{Opened}
use Rattle.model.proofs.Replying.{refused_reply, refused_left, accepted_reply_lem, accepted_left}
use Rattle.call_judging.specs.Answers.{loan_answer}
use Rattle.call_judging.proofs.Answering.{Long, loan_passed, lent_all, lent_short}

-- eight empty watches
abbrev pub empties : List ℕ
empties = 0 ∷ 0 ∷ 0 ∷ 0 ∷ 0 ∷ 0 ∷ 0 ∷ 0 ∷ []

-- the loan is judged as the opening's
loan_opens : (d N directions : ℕ) (t : Tables) {h : Head} (ws : List ℕ) (lent : ℕ) → h ≡ fresh_head d N directions → length ws ≡ 8 → loan_answer h t lent ≡ open_answer d N directions t (take lent ws)
unfolding loan_answer open_answer short_loan
loan_opens d N directions t ws lent fresh eight = rw (fresh, lent_short ws lent eight)

module _ (d N directions : ℕ) (t : Tables) (lent : ℕ) {h : Head} {a : Result (Unit {0}) Refusal} (fresh : h ≡ fresh_head d N directions) (e : number_of a ≡ loan_answer h t lent) where
  -- what is known where an opening is accepted
  pub open_passed : a ≡ Ok tt → Within d N × Long t d N × (8 ≤ lent)
  open_passed f = loan_passed (fresh_head d N directions) t lent (rw fresh at (accepted_number a e f))

  module _ (ws : List ℕ) (eight : length ws ≡ 8) where
    -- what a refused opening leaves
    pub open_refused : {k : Refusal} {none : Head} {r : Reply} → a ≡ Err k → none ≡ fresh_head 0 0 0 → r ≡ refusing k none
        → Opened d N directions t (take lent ws) r t (take lent ws)
    unfolding open_reply open_tables open_watches
    open_refused {k} f z g =
        let judged : number_of (Err k) ≡ open_answer d N directions t (take lent ws) = rw f at (e ∙ loan_opens d N directions t ws lent fresh eight) in
        record {
          reply = rw (g, z) (refused_reply judged refl (fresh_head 0 0 0) (fresh_head d N directions) 0);
          lent = refused_left judged refl t (filled d N [] t);
          watches = refused_left judged refl (take lent ws) (padded 8 [] (take lent ws));
        }

    -- what an accepted opening leaves
    pub open_done : {cs ps ls us : List ℕ} {r : Reply} → a ≡ Ok tt → r ≡ accepting h 0 → cs ≡ padded (N * d) (take 0 t.columns) t.columns → ps ≡ padded N (take 0 t.positions) t.positions
        → ls ≡ padded N (take 0 t.lower_ends) t.lower_ends → us ≡ padded N (take 0 t.upper_ends) t.upper_ends
        → Opened d N directions t (take lent ws) r (record { columns = cs; positions = ps; lower_ends = ls; upper_ends = us }) (take lent empties)
    unfolding open_reply open_tables open_watches filled flat padded
    open_done f g c p l u =
        let judged : number_of (Ok tt) ≡ open_answer d N directions t (take lent ws) = rw f at (e ∙ loan_opens d N directions t ws lent fresh eight) in
        let beyond : drop 8 (take lent ws) ≡ [] = drop_of_length-le (take lent ws) {i = 8} (omega (arith, length-take lent ws)) in
        record {
          reply = rw g (accepted_reply_lem judged refl (fresh_head 0 0 0) fresh refl);
          lent = accepted_left judged refl t (rw (c, p, l, u));
          watches = accepted_left judged refl (take lent ws) (lent_all empties lent refl (open_passed f).2 ∙ sym (rw beyond));
        }
