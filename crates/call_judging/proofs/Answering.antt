-- What the calls answer by their first judgements, and what is known of a head, tables and watches that pass them.
use mathlib.Core.Path.{◌≡◌, refl, sym, ap, ◌∙◌}
use Prim.Native.Nat.{ℕ, zero, suc, ◌*◌, ◌≤◌}
use mathlib.Core.Bool.{Bool, true, false, ◌&&◌, ◌||◌, not, or-false}
use mathlib.Core.List.{List, [], ◌∷◌, ◌++◌}
use lib.Dec.{ltb, leb}
use lib.ListN.{length, take, length-map, length-take}
use lib.Seq.{take_all}
use native.Mathlib.Omega.{arith}
use borrow.Author.Tests.{ltb-true, ltb-false, lt-ltb, le-ltb, leb-true, not-false}
use Rattle.lists.proofs.Booleans.{and_left, and_right, none_left, none_right}
use Rattle.head.specs.declared.Head.{Head}
use Rattle.std.specs.Prelude.{Result, Ok, Err}
use Rattle.std.specs.Result.{IsErr, IsErrAnd}
use Rattle.refusals.specs.declared.Refusal.{Refusal}
use Rattle.refusals.specs.declared.Refusal.TheVariants.{Settings, ShortLoan, Torn}
use Rattle.refusals.specs.Refusals.{number, number_of, first_of, granted}
use Rattle.head.specs.Heads.{fresh_head, settings_hold, torn_pair}
use Rattle.refusals.proofs.Numbers.{zero_passed, first_of_append, number_above, handed_refusal, accepted_number, refused_number, granted_refused, refused_granted, accepted_granted, positive}
use Rattle.head.proofs.Settings.{Within, settings_within}
use Rattle.model.specs.Rows.{Row, Tables}
use Rattle.model.specs.Book.{short_tables, short_loan, torn_rows, torn_watches, book_rows, answer_of, watchful_answer, open_answer, out_of_range}
use Rattle.model.proofs.Tables.{length_read}
use Rattle.model.proofs.Torn.{Whole, untorn_whole, window_bounded}
use Rattle.call_judging.specs.Answers.{loan_answer, rows_answer, short_loan_answer}

-- ---- tests in order

-- before any test a call is accepted
pub begun : 0 ≡ first_of []
unfolding first_of
begun = refl

module _ (cs : List (Bool × ℕ)) where
  -- an answer with more tests behind it is that of the longer list
  pub tested_more : (more : List (Bool × ℕ)) {a r : ℕ} → a ≡ first_of cs → r ≡ granted a (first_of more) a → positive cs ≡ true → r ≡ first_of (cs ++ more)
  tested_more more e f p = f ∙ rw e (sym (first_of_append cs more p))

  -- an acceptance leaves the answer to the tests behind
  pub goes_on : (more : List (Bool × ℕ)) {a : Result (Unit {0}) Refusal} {r : ℕ} → number_of a ≡ first_of cs → a ≡ Ok tt → r ≡ first_of more → positive cs ≡ true → r ≡ first_of (cs ++ more)
  goes_on more {a} e f g p = tested_more more e (g ∙ sym (accepted_granted (number_of a) (ap number_of f) (first_of more) (number_of a))) p

  -- so it does to one more
  pub tested : (b : Bool) (n : ℕ) {a : Result (Unit {0}) Refusal} {r : ℕ} {test : Bool} → number_of a ≡ first_of cs → a ≡ Ok tt → test ≡ b → r ≡ first_of ((test, n) ∷ []) → positive cs ≡ true
      → r ≡ first_of (cs ++ ((b, n) ∷ []))
  tested b n e ok t f p = goes_on ((b, n) ∷ []) e ok (rw t at f) p

  -- a refusal is the answer, whatever tests are added
  pub stays : (more : List (Bool × ℕ)) {a : Result (Unit {0}) Refusal} {k : Refusal} → number_of a ≡ first_of cs → a ≡ Err k → positive cs ≡ true → number_of a ≡ first_of (cs ++ more)
  stays more {a} {k} e f p =
      let above : 1 ≤ first_of cs = rw (refused_number a k e f) (number_above k) in
      e ∙ sym (first_of_append cs more p ∙ granted_refused (first_of cs) above (first_of more) (first_of cs))

  -- so is it where a function hands on the refusal of another
  pub handed_on : (more : List (Bool × ℕ)) {a : Result (Unit {0}) Refusal} (r : Result (Unit {0}) Refusal) {k : Refusal} → number_of a ≡ first_of cs → a ≡ Err k
      → IsErr r × IsErrAnd r (λ j. j ≡ k) → positive cs ≡ true → number_of r ≡ first_of (cs ++ more)
  handed_on more r e f g p = ap number_of (handed_refusal r g ∙ sym f) ∙ stays more e f p

-- tests behind an answer, and one more behind them, are a longer list
pub tested_again : (a : ℕ) (ps : List (Bool × ℕ)) (q : Bool × ℕ) {b r : ℕ} → b ≡ granted a (first_of ps) a → r ≡ granted b (first_of (q ∷ [])) b → positive ps ≡ true
    → r ≡ granted a (first_of (ps ++ (q ∷ []))) a
unfolding granted
tested_again zero ps q e f above = tested_more ps (q ∷ []) e f above
tested_again (suc n) ps q e f above = f ∙ rw e

-- ---- the tests on the tables
module _ (h : Head) (t : Tables) where
  abbrev held : Bool
  held = settings_hold h.dimensions h.capacity h.directions

  abbrev short : Bool
  short = short_tables t h.dimensions h.capacity

  abbrev torn : Bool
  torn = torn_rows h (book_rows h t) || torn_pair h

-- a call on the tables alone lacks no record
pub alone_judged : (h : Head) (t : Tables) {r : ℕ} → r ≡ rows_answer h t 8 → r ≡ answer_of h t []
unfolding rows_answer answer_of
alone_judged h t e = e ∙ rw or-false

-- fewer than eight records are refused whatever else is asked
module _ (ws : List ℕ) (lacking : ltb (length ws) 8 ≡ true) where
  three_short : (s l : Bool) (rest : List (Bool × ℕ)) → first_of ((not s, number Settings) ∷ (l || true, number ShortLoan) ∷ rest) ≡ first_of ((not s, number Settings) ∷ (true, number ShortLoan) ∷ [])
  unfolding first_of
  three_short true true rest = refl
  three_short true false rest = refl
  three_short false l rest = refl

  pub short_watchful : (h : Head) (t : Tables) (more : List (Bool × ℕ)) → watchful_answer h t ws more ≡ short_loan_answer h
  unfolding watchful_answer short_loan short_loan_answer
  short_watchful h t more = rw lacking (three_short (held h t) (short h t) _)

  pub short_open : (d N directions : ℕ) (t : Tables) → open_answer d N directions t ws ≡ short_loan_answer (fresh_head d N directions)
  unfolding open_answer short_loan short_loan_answer
  short_open d N directions t = rw lacking (three_short (settings_hold d N directions) (short_tables t d N) [])

-- ---- the numbers of eight records, of which so many are lent
module _ (ws : List ℕ) (lent : ℕ) (eight : length ws ≡ 8) where
  -- of eight or more that are lent they are all
  pub lent_all : 8 ≤ lent → take lent ws ≡ ws
  lent_all enough = take_all lent ws (omega arith)

  -- else they are too few
  pub lent_short : ltb (length (take lent ws)) 8 ≡ ltb lent 8
  lent_short = go (ltb lent 8) refl
    where
      go : (b : Bool) → ltb lent 8 ≡ b → ltb (length (take lent ws)) 8 ≡ b
      go true e = lt-ltb (length (take lent ws)) 8 (omega (arith, length-take lent ws, ltb-true lent 8 e))
      go false e = le-ltb (length (take lent ws)) 8 (omega (arith, length-take lent ws, ltb-false lent 8 e))

  -- they are judged behind the rows
  judged_behind : (h : Head) (t : Tables) {a r : ℕ} {test : Bool} → a ≡ rows_answer h t lent → test ≡ torn_watches h.capacity ws
      → r ≡ granted a (first_of ((test, number Torn) ∷ [])) a → r ≡ watchful_answer h t (take lent ws) []
  unfolding rows_answer watchful_answer short_loan granted first_of
  judged_behind h t e w f =
      f ∙ rw (e, w, lent_short)
      (go (held h t) (short h t) (torn h t) (ltb lent 8) (torn_watches h.capacity ws) (λ b. ap (torn_watches h.capacity) (lent_all (ltb-false lent 8 b))))
    where
      three : Bool → Bool → Bool → ℕ
      three s l r = first_of ((not s, number Settings) ∷ (l, number ShortLoan) ∷ (r, number Torn) ∷ [])

      go : (s l r b w : Bool) {w' : Bool} → (b ≡ false → w' ≡ w) → granted (three s (l || b) r) (first_of ((w, number Torn) ∷ [])) (three s (l || b) r) ≡ three s (l || b) (r || w')
      go true true r b w same = refl
      go true false r true w same = refl
      go true false true false w same = refl
      go true false false false w same = ap (λ (b : Bool). first_of ((b, number Torn) ∷ [])) (sym (same refl))
      go false l r b w same = refl

  -- a refusal of the rows is the answer
  pub watchful_refused : (h : Head) (t : Tables) {a : Result (Unit {0}) Refusal} {k : Refusal} → number_of a ≡ rows_answer h t lent → a ≡ Err k → number k ≡ watchful_answer h t (take lent ws) []
  watchful_refused h t {a} {k} e f = sym (ap number_of f) ∙ judged_behind h t e refl (sym (rw f (refused_granted k _ _)))

  -- an acceptance leaves it to the watches
  pub watchful_judged : (h : Head) (t : Tables) {a : Result (Unit {0}) Refusal} {r : ℕ} {test : Bool} → number_of a ≡ rows_answer h t lent → a ≡ Ok tt → test ≡ torn_watches h.capacity ws
      → r ≡ first_of ((test, number Torn) ∷ []) → r ≡ watchful_answer h t (take lent ws) []
  watchful_judged h t {a} e f w g = judged_behind h t e w (g ∙ sym (accepted_granted (number_of a) (ap number_of f) _ _))

  -- an accepted call was lent eight
  pub lent_enough : (h : Head) (t : Tables) (more : List (Bool × ℕ)) → watchful_answer h t (take lent ws) more ≡ 0 → 8 ≤ lent
  unfolding watchful_answer short_loan
  lent_enough h t more e =
      let l = (zero_passed _ _ _ (zero_passed _ _ _ e).1).0 in
      ltb-false lent 8 (sym lent_short ∙ none_right (short h t) (ltb (length (take lent ws)) 8) l)

  -- what a call asks of the eight behind its judgement it asks of those that are lent
  pub lent_asked : (h : Head) (t : Tables) (more : List ℕ → List (Bool × ℕ)) → watchful_answer h t (take lent ws) (more ws) ≡ watchful_answer h t (take lent ws) (more (take lent ws))
  lent_asked h t more = go (ltb lent 8) refl
    where
      go : (b : Bool) → ltb lent 8 ≡ b → watchful_answer h t (take lent ws) (more ws) ≡ watchful_answer h t (take lent ws) (more (take lent ws))
      go true e = short_watchful (take lent ws) (lent_short ∙ e) h t (more ws) ∙ sym (short_watchful (take lent ws) (lent_short ∙ e) h t (more (take lent ws)))
      go false e = ap (λ (l : List ℕ). watchful_answer h t (take lent ws) (more l)) (sym (lent_all (ltb-false lent 8 e)))

-- ---- what passed tests say

-- tables that are long enough for these settings
pub record Long (t : Tables) (d N : ℕ) : Type 0 where
  pub columns : N * d ≤ length t.columns
  pub positions : N ≤ length t.positions
  pub lower_ends : N ≤ length t.lower_ends
  pub upper_ends : N ≤ length t.upper_ends

pub long_enough : (t : Tables) (d N : ℕ) → short_tables t d N ≡ false → Long t d N
unfolding short_tables
long_enough t d N e =
    let c = ltb (length t.columns) (N * d) in
    let p = ltb (length t.positions) N in
    let l = ltb (length t.lower_ends) N in
    let u = ltb (length t.upper_ends) N in
    let three = none_left (c || p || l) u e in
    let two = none_left (c || p) l three in
    record {
      columns = ltb-false (length t.columns) (N * d) (none_left c p two);
      positions = ltb-false (length t.positions) N (none_right c p two);
      lower_ends = ltb-false (length t.lower_ends) N (none_right (c || p) l three);
      upper_ends = ltb-false (length t.upper_ends) N (none_right (c || p || l) u e);
    }

-- a head and tables that passed 3, 11 and 12
pub record Passed (h : Head) (t : Tables) : Type 0 where
  pub held : settings_hold h.dimensions h.capacity h.directions ≡ true
  pub settings : Within h.dimensions h.capacity
  pub long : Long t h.dimensions h.capacity
  pub untorn : torn_rows h (book_rows h t) ≡ false
  pub pair_untorn : torn_pair h ≡ false
  pub whole : Whole h (book_rows h t)
  pub bounded_held : h.held ≤ h.capacity

-- the n of a call that passed 5
pub record InRange (h : Head) (n : ℕ) : Type 0 where
  pub low : 1 ≤ n
  pub high : n ≤ h.capacity

pub in_range : (h : Head) (n : ℕ) → out_of_range h n ≡ false → InRange h n
unfolding out_of_range
in_range h n e =
    let both = not-false (leb 1 n && leb n h.capacity) e in
    record { low = leb-true 1 n (and_left (leb 1 n) (leb n h.capacity) both); high = leb-true n h.capacity (and_right (leb 1 n) (leb n h.capacity) both) }

module _ (h : Head) (t : Tables) where
  -- a loan that was accepted
  pub loan_passed : (lent : ℕ) → loan_answer h t lent ≡ 0 → Within h.dimensions h.capacity × Long t h.dimensions h.capacity × (8 ≤ lent)
  unfolding loan_answer
  loan_passed lent e =
      let s = zero_passed _ _ _ e in
      let l = zero_passed _ _ _ s.1 in (
        settings_within h.dimensions h.capacity h.directions (not-false (held h t) s.0),
        long_enough t h.dimensions h.capacity (none_left (short h t) (ltb lent 8) l.0),
        ltb-false lent 8 (none_right (short h t) (ltb lent 8) l.0),
      )

  -- the rows of a book that passed stand in its cells
  pub rows_stand : Passed h t → (h.held ≤ length t.positions) × (h.held ≤ length t.lower_ends) × (h.held ≤ length t.upper_ends)
  rows_stand p = omega arith

  -- as many rows are held as are read
  pub rows_counted : h.held ≡ length (book_rows h t)
  unfolding book_rows
  rows_counted = sym (length_read h.dimensions h.held t)

  passed : held h t ≡ true → short h t ≡ false → torn h t ≡ false → Passed h t
  passed s l r =
      let within = settings_within h.dimensions h.capacity h.directions s in
      let untorn = none_left (torn_rows h (book_rows h t)) (torn_pair h) r in
      let whole = untorn_whole h (book_rows h t) rows_counted within.some_capacity untorn in
      let as_many = rows_counted ∙ sym (length-map (book_rows h t) Row.position) ∙ ap length whole.window in
      record {
        held = s;
        settings = within;
        long = long_enough t h.dimensions h.capacity l;
        untorn = untorn;
        pair_untorn = none_right (torn_rows h (book_rows h t)) (torn_pair h) r;
        whole = whole;
        bounded_held = omega (arith, as_many, window_bounded h.capacity within.some_capacity h.newest);
      }

  -- an accepted call on the tables alone
  pub answer_passed : (more : List (Bool × ℕ)) → answer_of h t more ≡ 0 → Passed h t × (first_of more ≡ 0)
  unfolding answer_of
  answer_passed more e =
      let s = zero_passed _ _ _ e in
      let l = zero_passed _ _ _ s.1 in
      let r = zero_passed _ _ _ l.1 in
      (passed (not-false (held h t) s.0) l.0 r.0, r.1)

  -- an accepted call on the tables and the watches
  pub watchful_passed : (ws : List ℕ) (more : List (Bool × ℕ)) → watchful_answer h t ws more ≡ 0 → Passed h t × (torn_watches h.capacity ws ≡ false) × (first_of more ≡ 0)
  unfolding watchful_answer short_loan
  watchful_passed ws more e =
      let lacking = ltb (length ws) 8 in
      let unordered = torn_watches h.capacity ws in
      let s = zero_passed _ _ _ e in
      let l = zero_passed _ _ _ s.1 in
      let r = zero_passed _ _ _ l.1 in
      (passed (not-false (held h t) s.0) (none_left (short h t) lacking l.0) (none_left (torn h t) unordered r.0), none_right (torn h t) unordered r.0, r.1)
