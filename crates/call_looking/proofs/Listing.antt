-- The lists of a book that passed, read off the cells, and the looks: what they answer and leave.
use mathlib.Core.Path.{◌≡◌, refl, sym, ap, ◌∙◌}
use Prim.Native.Nat.{ℕ, ◌+◌, ◌-◌, ◌≤◌, ◌<◌}
use native.Mathlib.Omega.{arith}
use mathlib.Core.Bool.{Bool, true, false}
use mathlib.Core.List.{List, [], ◌∷◌, ◌++◌}
use lib.Dec.{ltb, eqb}
use lib.ListN.{length, length-map}
use borrow.Author.Tests.{ltb-true, ltb-false, eqb-true, eqb-false, eq-eqb, lt-ltb, le-ltb}
use Rattle.lists.specs.Lists.{filter, run, laid}
use Rattle.lists.proofs.Booleans.{agree, none_left, none_right}
use Rattle.lists.proofs.Filters.{length_filter}
use Rattle.lists.proofs.Runs.{length_run, filter_from}
use Rattle.skyline.specs.Skyline.{window_start}
use Rattle.head.specs.declared.Head.{Head}
use Rattle.head.specs.declared.replies.Reply.{Reply}
use Rattle.std.specs.Prelude.{Result, Ok, Err}
use Rattle.refusals.specs.declared.Refusal.{Refusal}
use Rattle.refusals.specs.declared.Refusal.TheVariants.{ShortOutput}
use Rattle.refusals.specs.Refusals.{number, number_of, first_of, granted}
use Rattle.head.specs.Replies.{outcome, refusing, accepting}
use Rattle.refusals.proofs.Numbers.{zero_passed, accepted_number, first_of_append, accepted_granted, positive}
use Rattle.model.specs.Rows.{Tables, listed}
use Rattle.model.specs.Book.{answer_of, book_rows, list_of, past_list_of, reply_of, look_cells, look_answer, look_reply, look_out, past_cells, past_answer, past_reply, past_out}
use Rattle.model.specs.Promises.{Looked, PastLooked}
use Rattle.model.proofs.Replying.{refused_reply, refused_left}
use Rattle.table_listing.specs.declared.window.RowWindow.{RowWindow}
use Rattle.table_listing.specs.Listed.{on_list}
use Rattle.table_listing.specs.Picked.{picked, listed_at, listed_in, Window}
use Rattle.table_listing.proofs.Listing.{listed_early, whole_consecutive, listed_rows}
use Rattle.call_judging.proofs.Answering.{Passed, InRange, in_range, rows_stand, answer_passed, stays}
use Rattle.call_looking.specs.Shown.{room_answer, Written, Shown, WindowOf, size_answer, sizes_answer}

-- 5 of a past look asks whether n1 is 0
pub below_one : (n : ℕ) → ltb n 1 ≡ eqb n 0
below_one n = agree (ltb n 1) (eqb n 0) (λ t. eq-eqb n 0 (omega (arith, ltb-true n 1 t))) (λ t. lt-ltb n 1 (omega (arith, eqb-true n 0 t)))

-- a list has no more positions than its window
list_most : (a b first : ℕ) (lowers uppers : List ℕ) → first ≤ a → a ≤ b + 1 → length (listed_in a b first lowers uppers) ≤ b + 1 - a
unfolding listed_in picked
list_most a b first lowers uppers low near =
    let cut : b + 1 - first ≡ (a - first) + (b + 1 - a) = omega arith in
    let test = listed_at a b first lowers uppers in
    let from = run (0 + (a - first)) (b + 1 - a) in
    rw (
      length-map (filter test (run 0 (b + 1 - first))) (λ i. first + i),
      cut,
      filter_from test 0 (a - first) (b + 1 - a) (λ q _ l. listed_early first a b lowers uppers q (omega arith)),
    )
    (omega (arith, length_filter test from, length_run (0 + (a - first)) (b + 1 - a)))

-- so with space for all of its window nothing is short
pub wide_enough : (a b first : ℕ) (lowers uppers : List ℕ) {space : ℕ} → first ≤ a → a ≤ b + 1 → b + 1 - a ≤ space
    → false ≡ ltb space (length (listed_in a b first lowers uppers))
wide_enough a b first lowers uppers {space} low near l =
    sym (le-ltb space (length (listed_in a b first lowers uppers)) (omega (arith, list_most a b first lowers uppers low near)))

module _ (h : Head) (t : Tables) where
  -- the first position held
  abbrev pub first : ℕ
  first = window_start h.newest h.capacity

  -- the list of the window from a to b, by the cells of the tables
  abbrev pub cells_of : ℕ → ℕ → List ℕ
  cells_of a b = listed_in a b first t.lower_ends t.upper_ends

  module _ (p : Passed h t) where
    pub filled : h.newest + 1 ≡ first + h.held
    filled = (whole_consecutive h t p.whole).1

    -- a window of held positions lies within the cells
    pub window_in : (a b : ℕ) → first ≤ a → a ≤ b + 1 → b ≤ h.newest → Window first a b t.lower_ends t.upper_ends
    unfolding window_start
    window_in a b u v w =
        let stand = rows_stand h t p in
        record { starts = omega arith; low = u; near = v; lower_room = omega (arith, filled); upper_room = omega (arith, filled) }

    -- and its list is that of the rows
    pub list_cells : (a b : ℕ) → first ≤ a → a ≤ b + 1 → b ≤ h.newest → listed a b (book_rows h t) ≡ cells_of a b
    unfolding book_rows
    list_cells a b u v w =
        listed_rows first h.dimensions h.held t (whole_consecutive h t p.whole).0 a b (omega arith) (omega (arith, filled))

    -- the window of n
    pub start_in : {n a : ℕ} → InRange h n → a ≡ window_start h.newest n → (first ≤ a) × (a ≤ h.newest + 1)
    unfolding window_start
    start_in r e = (omega arith, omega arith)

    -- the window of n1 and n2
    pub pair_in_lem : {n1 n2 a b : ℕ} → 1 ≤ n1 → n1 ≤ n2 → n2 ≤ h.capacity → a ≡ window_start h.newest n2 → b ≡ h.newest + 1 - n1
        → (first ≤ a) × (a ≤ b + 1) × (b ≤ h.newest)
    unfolding window_start
    pair_in_lem u v w e f = (omega arith, omega arith, omega arith)

    -- the window of the list of n
    pub list_window : {n : ℕ} → InRange h n → Window first (window_start h.newest n) (h.newest + 1 - 1) t.lower_ends t.upper_ends
    list_window r = let w = start_in r refl in window_in _ _ w.0 (omega (arith, w.1)) (omega arith)

    -- and that of the past list of n1 and n2
    pub past_window : {n1 n2 : ℕ} → 1 ≤ n1 → n1 ≤ n2 → n2 ≤ h.capacity → Window first (window_start h.newest n2) (h.newest + 1 - n1) t.lower_ends t.upper_ends
    past_window u v w = let i = pair_in_lem u v w refl refl in window_in _ _ i.0 i.1 i.2

  -- what is on the list of such a window
  pub window_list : {n1 n2 : ℕ} {w : RowWindow} → WindowOf h n1 n2 t w → on_list w ≡ cells_of (window_start h.newest n2) (h.newest + 1 - n1)
  window_list w = rw (w.first, w.start, w.end, w.lower_ends, w.upper_ends)

  module _ (p : Passed h t) {w : RowWindow} where
    -- the list of n is that of its window
    pub size_list : (n : ℕ) → InRange h n → WindowOf h 1 n t w → list_of h (book_rows h t) n ≡ on_list w
    unfolding list_of
    size_list n r s =
        let start = window_start h.newest n in
        let i = start_in p r refl in
        let last : h.newest + 1 - 1 ≡ h.newest = omega arith in
        list_cells p start h.newest i.0 i.1 (omega arith) ∙ sym (window_list s ∙ ap (cells_of start) last)

    -- and the past list of n1 and n2
    pub sizes_list : (n1 n2 : ℕ) → 1 ≤ n1 → n1 ≤ n2 → n2 ≤ h.capacity → WindowOf h n1 n2 t w → past_list_of h (book_rows h t) n1 n2 ≡ on_list w
    unfolding past_list_of
    sizes_list n1 n2 x y z s =
        let i = pair_in_lem p x y z refl refl in
        list_cells p (window_start h.newest n2) (h.newest + 1 - n1) i.0 i.1 i.2 ∙ sym (window_list s)

  -- ---- answers

  -- what passed the tests before is answered by those behind
  pub behind : (cs more : List (Bool × ℕ)) → positive cs ≡ true → first_of cs ≡ 0 → first_of (cs ++ more) ≡ first_of more
  behind cs more f e = first_of_append cs more f ∙ accepted_granted (first_of cs) e (first_of more) (first_of cs)

  -- what a look at these cells leaves, the other tests passed
  pub shown_reply : {answer : ℕ} {wanted cells before after : List ℕ} {asked count : ℕ} {r : Reply} → answer ≡ room_answer (length before) wanted → wanted ≡ cells → asked ≡ count
      → Written h cells count before r after → (outcome r ≡ reply_of answer h h asked) × (after ≡ granted answer (laid wanted before) before)
  shown_reply e f g s = rw (e, f, g) (s.reply, s.out)

  module _ (n : ℕ) where
    -- an accepted look at the list of n
    pub size_passed : {a : Result (Unit {0}) Refusal} → number_of a ≡ size_answer h n t → a ≡ Ok tt → Passed h t × InRange h n
    unfolding size_answer
    size_passed {a} e f =
        let p = answer_passed h t _ (accepted_number a e f) in
        (p.0, in_range h n (zero_passed _ _ _ p.1).0)

    module _ (out : List ℕ) {a : Result (Unit {0}) Refusal} (e : number_of a ≡ size_answer h n t) where
      -- what a refused look leaves
      pub look_refused : {k : Refusal} {r : Reply} → a ≡ Err k → r ≡ refusing k h → Looked h n t out r out
      unfolding look_reply look_out look_answer size_answer answer_of
      look_refused {k} f w =
          let g : number_of (Err k) ≡ look_answer h n t (length out) = rw f at (stays _ ((ltb (length out) (length (look_cells h n t)), number ShortOutput) ∷ []) e f refl) in
          record { reply = rw w (refused_reply g refl h h (length (look_cells h n t))); out = refused_left g refl out (laid (look_cells h n t) out) }

      -- what an accepted look leaves
      pub look_done : {w : RowWindow} {r : Reply} {after : List ℕ} → a ≡ Ok tt → WindowOf h 1 n t w → Shown h (on_list w) out r after → Looked h n t out r after
      unfolding look_reply look_out look_answer look_cells size_answer answer_of room_answer
      look_done f s v =
          let p = size_passed e f in
          let cells = size_list p.0 n p.1 s in
          let q = shown_reply (behind _ _ refl (accepted_number a e f)) cells (ap length cells) v in
          record { reply = q.0; out = q.1 }

  module _ (n1 n2 : ℕ) where
    -- an accepted look at the past list of n1 and n2
    pub sizes_passed : {a : Result (Unit {0}) Refusal} → number_of a ≡ sizes_answer h n1 n2 t → a ≡ Ok tt → Passed h t × (1 ≤ n1) × (n1 ≤ n2) × (n2 ≤ h.capacity)
    unfolding sizes_answer
    sizes_passed {a} e f =
        let p = answer_passed h t _ (accepted_number a e f) in
        let s = zero_passed _ _ _ p.1 in
        let o = zero_passed _ _ _ s.1 in
        let some : (n1 ≡ 0) → ⊥ = eqb-false n1 0 (none_left (eqb n1 0) (ltb h.capacity n2) s.0) in
        (p.0, omega (arith, some), ltb-false n2 n1 o.0, ltb-false h.capacity n2 (none_right (eqb n1 0) (ltb h.capacity n2) s.0))

    module _ (out : List ℕ) {a : Result (Unit {0}) Refusal} (e : number_of a ≡ sizes_answer h n1 n2 t) where
      -- what a refused look at a past list leaves
      pub past_refused : {k : Refusal} {r : Reply} → a ≡ Err k → r ≡ refusing k h → PastLooked h n1 n2 t out r out
      unfolding past_reply past_out past_answer sizes_answer answer_of
      past_refused {k} f w =
          let g : number_of (Err k) ≡ past_answer h n1 n2 t (length out) = rw f at (stays _ ((ltb (length out) (length (past_cells h n1 n2 t)), number ShortOutput) ∷ []) e f refl) in
          record { reply = rw w (refused_reply g refl h h (length (past_cells h n1 n2 t))); out = refused_left g refl out (laid (past_cells h n1 n2 t) out) }

      -- what an accepted one leaves
      pub past_done : {w : RowWindow} {r : Reply} {after : List ℕ} → a ≡ Ok tt → WindowOf h n1 n2 t w → Shown h (on_list w) out r after → PastLooked h n1 n2 t out r after
      unfolding past_reply past_out past_answer past_cells sizes_answer answer_of room_answer
      past_done f s v =
          let p = sizes_passed e f in
          let cells = sizes_list p.0 n1 n2 p.1 p.2 p.3 s in
          let q = shown_reply (behind _ _ refl (accepted_number a e f)) cells (ap length cells) v in
          record { reply = q.0; out = q.1 }

-- ---- cells and their room

module _ (h : Head) (cells out : List ℕ) where
  -- cells that do not fit
  pub shown_none : (count : ℕ) → length out < length cells → Written h cells count out (refusing ShortOutput h) out
  unfolding room_answer first_of reply_of granted
  shown_none count l = let short = lt-ltb (length out) (length cells) l in record { reply = rw short; out = rw short }

  -- cells written
  pub shown_all : {count n : ℕ} {after : List ℕ} → length cells ≤ length out → n ≡ count → after ≡ laid cells out
      → Written h cells count out (accepting h n) after
  unfolding room_answer first_of reply_of granted
  shown_all l c e = let fits = le-ltb (length out) (length cells) l in record { reply = rw (fits, c); out = rw fits e }
