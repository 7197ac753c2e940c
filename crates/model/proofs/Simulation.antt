-- How the two models stand between two calls of a list, and what the book model then reads and judges.
use mathlib.Core.Path.{◌≡◌, refl, sym, ap, ap₂, ◌∙◌}
use mathlib.Core.Logic.{◌⊎◌, inl, inr}
use Prim.Native.Nat.{ℕ, ◌≤◌, ◌<◌}
use native.Mathlib.Omega.{arith}
use mathlib.Core.Bool.{Bool, true, false, ◌&&◌, not, cond}
use mathlib.Core.List.{List, [], ◌∷◌}
use lib.Dec.{ltb, leb, eqb}
use lib.ListN.{length}
use borrow.Author.Tests.{ltb-false, leb-true, eqb-false, not-false}
use Rattle.lists.specs.Lists.{run, padded}
use Rattle.lists.proofs.Booleans.{and_left, and_right, none_left, none_right}
use Rattle.head.specs.declared.Head.{Head}
use Rattle.refusals.specs.declared.Refusal.TheVariants.{Settings}
use Rattle.refusals.specs.Refusals.{number, first_of}
use Rattle.head.specs.Heads.{settings_hold, last_position, torn_pair}
use Rattle.head.specs.Desks.{desk_unit}
use Rattle.head.proofs.Settings.{settings_within}
use Rattle.model.specs.Rows.{Row, Tables, rows_in, filled, due_rows}
use Rattle.model.specs.Reference.{Reference, unopened, newest, skyline_of, past_of, paired, pair_of, rows_of, head_of, due_of, is_open, outside, outside_past, outside_pair}
use Rattle.model.specs.Book.{short_tables, short_loan, torn_rows, torn_watches, standing, book_rows, past_list_of, list_of, pair_stands, pair_list_of, answer_of, watchful_answer, due_in}
use Rattle.model.specs.Calls.{Call, Outputs, Lent, World, book_step, shown, Expected, expected_step}
use Rattle.model.proofs.Quotes.{past_listed, skyline_listed}
use Rattle.model.proofs.Tables.{rows_filled}
use Rattle.model.proofs.Torn.{PairWithin, pair_within}
use Rattle.model.proofs.Records.{Records, no_records}
use Rattle.model.proofs.Sound.{Wide, rows_none, rows_bounded, rows_wide, rows_sound, standing_padded, watches_sound}

-- from the first accepted opening on: what is lent is filled from the reference model, whose settings hold, whose quotes have d
-- columns each and are not too many, whose watches rise, are a desk's of n from 1 to N and are within the shares, and whose pair is not
-- torn
pub record Invariant (s : Reference) (l : Lent) : Type 0 where
  pub settings : is_open s ≡ true
  pub wide : Wide s
  pub within : newest s ≤ last_position
  pub long : short_loan l.tables l.watches s.dimensions s.capacity ≡ false
  pub tables : filled s.dimensions s.capacity (rows_of s) l.tables ≡ l.tables
  pub records : padded 8 s.watched l.watches ≡ l.watches
  pub watches : Records s.capacity s.watched
  pub pair : torn_pair (head_of s) ≡ false

-- between two calls: the head is the reference model's, both models are lent the same, and either no opening was accepted or what
-- is lent keeps the invariant
pub record Simulation (k : Expected) (w : World) : Type 0 where
  pub head : w.head ≡ head_of k.reference
  pub lent : w.lent ≡ k.lent
  pub since : (k.reference ≡ unopened) ⊎ Invariant k.reference k.lent

-- a reference model whose positions and n fit the frames of changes, whose watches rise, are a desk's of n from 1 to N and are within
-- the shares, and whose pair is not torn
pub record Bounded (s : Reference) : Type 0 where
  pub short : newest s ≤ last_position
  pub small : s.capacity ≤ 1024
  pub watches : Records s.capacity s.watched
  pub pair : torn_pair (head_of s) ≡ false

-- the reference model is bounded wherever a book simulates it
pub bounded : (s : Reference) (l : Lent) → (s ≡ unopened) ⊎ Invariant s l → Bounded s
unfolding is_open head_of torn_pair
bounded s l (inl e) = rw e (record { short = omega arith; small = omega arith; watches = no_records 0; pair = refl })
bounded s l (inr f) = record {
  short = f.within;
  small = (settings_within s.dimensions s.capacity s.directions f.settings).small_capacity;
  watches = f.watches;
  pair = f.pair;
}

-- what is lent is long enough: the tables
pub long_tables : (t : Tables) (ws : List ℕ) (d N : ℕ) → short_loan t ws d N ≡ false → short_tables t d N ≡ false
unfolding short_loan
long_tables t ws d N e = none_left (short_tables t d N) (ltb (length ws) 8) e

-- and the records
pub long_records : (t : Tables) (ws : List ℕ) (d N : ℕ) → short_loan t ws d N ≡ false → 8 ≤ length ws
unfolding short_loan
long_records t ws d N e = ltb-false (length ws) 8 (none_right (short_tables t d N) (ltb (length ws) 8) e)

-- what is seen of a call is the same in both models, and the book simulates the reference model after it
abbrev pub Agree : Call → Outputs → Expected → World → Type 0
Agree c o k w = ((book_step c o w).0 ≡ (expected_step c o k).0) × Simulation (expected_step c o k).1 (book_step c o w).1

-- the reference model, with what is lent
abbrev pub reference_with : Reference → Lent → Expected
reference_with s l = record { reference = s; lent = l }

-- the book with the reference model's head, and the same lent
abbrev pub book_with : Reference → Lent → World
book_with s l = record { head = head_of s; lent = l }

-- an n that is not refused with 5 is from 1 to N
pub in_range : (s : Reference) (n : ℕ) → outside s n ≡ false → (1 ≤ n) × (n ≤ s.capacity)
unfolding outside
in_range s n e =
    let t = not-false (leb 1 n && leb n s.capacity) e in
    (leb-true 1 n (and_left (leb 1 n) (leb n s.capacity) t), leb-true n s.capacity (and_right (leb 1 n) (leb n s.capacity) t))

-- and far below what a desk counts for in a record
pub in_unit : (s : Reference) (n : ℕ) → Bounded s → outside s n ≡ false → n < desk_unit
in_unit s n ok e = let r = in_range s n e in omega (arith, r.1, ok.small)

-- n1 and n2 that are refused neither with 5 nor with 14 have 1 ≤ n1 ≤ n2 ≤ N
pub in_past_range : (s : Reference) (n1 n2 : ℕ) → outside_past s n1 n2 ≡ false → ltb n2 n1 ≡ false → (1 ≤ n1) × (n1 ≤ n2) × (n2 ≤ s.capacity)
unfolding outside_past
in_past_range s n1 n2 e f =
    let z = eqb-false n1 0 (none_left (eqb n1 0) (ltb s.capacity n2) e) in
    (omega arith, ltb-false n2 n1 f, ltb-false s.capacity n2 (none_right (eqb n1 0) (ltb s.capacity n2) e))

-- those that a watch of the pair does not refuse so have 2 ≤ n1 ≤ n2 ≤ N
pub in_pair_range : (s : Reference) (n1 n2 : ℕ) → outside_pair s n1 n2 ≡ false → ltb n2 n1 ≡ false → PairWithin n1 n2 s.capacity
unfolding outside_pair
in_pair_range s n1 n2 e f = record {
  two = ltb-false n1 2 (none_left (ltb n1 2) (ltb s.capacity n2) e);
  order = ltb-false n2 n1 f;
  most = ltb-false s.capacity n2 (none_right (ltb n1 2) (ltb s.capacity n2) e);
}

-- a pair that is watched and not torn has 2 ≤ n1 ≤ n2 ≤ N
pub watched_pair : (s : Reference) → torn_pair (head_of s) ≡ false → paired s ≡ true → PairWithin s.n1 s.n2 s.capacity
unfolding paired head_of pair_stands
watched_pair s e f = pair_within (head_of s) e f

-- a list that stands only where a test passes
pub alike_where : {A : Type 0} (b : Bool) {l m : List A} → (b ≡ true → l ≡ m) → cond b l [] ≡ cond b m []
alike_where true f = f refl
alike_where false f = refl

-- the book model's list of n of a reference model's rows
pub list_is : (s : Reference) (n : ℕ) → 1 ≤ n → n ≤ s.capacity → list_of (head_of s) (rows_of s) n ≡ skyline_of s n
unfolding list_of head_of
list_is s n h k = skyline_listed s n h k

-- and its past list of the pair
pub pair_is : (s : Reference) → torn_pair (head_of s) ≡ false → pair_list_of (head_of s) (rows_of s) ≡ pair_of s
unfolding pair_list_of pair_stands past_list_of pair_of paired head_of
pair_is s e = alike_where (paired s) (λ t. let w = watched_pair s e t in past_listed s s.n1 s.n2 (let h = w.two in omega arith) w.order w.most)

-- what is lent, as an opened reference model shows it
pub shown_opened : (s : Reference) (l : Lent) → is_open s ≡ true
    → shown s l ≡ record { tables = filled s.dimensions s.capacity (rows_of s) l.tables; watches = padded 8 s.watched l.watches }
unfolding shown
shown_opened s l e = rw e

module _ (s : Reference) (l : Lent) (f : Invariant s l) where
  -- then the book simulates the reference model
  pub simulation : Simulation (reference_with s l) (book_with s l)
  simulation = record { head = refl; lent = refl; since = inr f }

  -- what is lent is as the reference model shows it
  pub shown_still : shown s l ≡ l
  shown_still = rw (shown_opened s l f.settings, f.tables, f.records)

  pub some_capacity : 1 ≤ s.capacity
  unfolding is_open
  some_capacity = (settings_within s.dimensions s.capacity s.directions f.settings).some_capacity

  -- the book model reads the rows of the reference model
  pub rows_read : book_rows (head_of s) l.tables ≡ rows_of s
  unfolding book_rows head_of
  rows_read =
      ap (rows_in s.dimensions (length (rows_of s))) (sym f.tables)
      ∙ rows_filled s.dimensions s.capacity (rows_of s) l.tables (rows_bounded s some_capacity) (rows_wide s f.wide)

  -- and its watches
  pub watches_read : standing l.watches ≡ s.watched
  watches_read = ap standing (sym f.records) ∙ standing_padded s.capacity s.watched l.watches f.watches

  -- and its skylines
  pub skyline_read : (n : ℕ) → 1 ≤ n → n ≤ s.capacity → list_of (head_of s) (book_rows (head_of s) l.tables) n ≡ skyline_of s n
  skyline_read n h k = rw rows_read (list_is s n h k)

  -- and its past lists
  pub past_read : (n1 n2 : ℕ) → 1 ≤ n1 → n1 ≤ n2 → n2 ≤ s.capacity → past_list_of (head_of s) (book_rows (head_of s) l.tables) n1 n2 ≡ past_of s n1 n2
  unfolding past_list_of head_of
  past_read n1 n2 h j k = rw rows_read (past_listed s n1 n2 h j k)

  -- and its rows that are due
  pub due_read : due_in (head_of s) l.tables ≡ due_of s
  unfolding due_in due_of pair_stands paired head_of
  due_read = ap (λ (rs : List Row). cond (paired s) (due_rows (newest s) s.n1 s.n2 rs) []) rows_read

  rows_whole : torn_rows (head_of s) (rows_of s) ≡ false
  rows_whole = rows_sound s some_capacity f.within

  watches_whole : torn_watches s.capacity l.watches ≡ false
  watches_whole = ap (torn_watches s.capacity) (sym f.records) ∙ watches_sound s.capacity s.watched l.watches f.watches

  -- neither 3 nor 11 nor 12 is said: the answer is by what the call adds
  pub judged : (more more' : List (Bool × ℕ)) → first_of more ≡ first_of more' → answer_of (head_of s) l.tables more ≡ first_of ((not (is_open s), number Settings) ∷ more')
  unfolding answer_of first_of head_of is_open
  judged more more' e = rw (f.settings, long_tables l.tables l.watches s.dimensions s.capacity f.long, rows_read, rows_whole, f.pair) e

  -- and no more so if the watches are judged too
  pub judged_watchful : (more more' : List (Bool × ℕ)) → first_of more ≡ first_of more' → watchful_answer (head_of s) l.tables l.watches more ≡ first_of ((not (is_open s), number Settings) ∷ more')
  unfolding watchful_answer first_of head_of is_open
  judged_watchful more more' e = rw (f.settings, f.long, rows_read, rows_whole, f.pair, watches_whole) e

-- what holds before any opening and by the invariant holds of every simulation
pub simulation_by : (P : Expected → World → Type 0) → ((l : Lent) → P (reference_with unopened l) (book_with unopened l))
    → ((s : Reference) (l : Lent) → Invariant s l → P (reference_with s l) (book_with s l)) → (k : Expected) (w : World) → Simulation k w → P k w
simulation_by P before after k w j = rw same (go k.reference j.since)
  where
    same : w ≡ book_with k.reference k.lent
    same = ap₂ (λ (h : Head) (l : Lent). let v : World = record { head = h; lent = l } in v) j.head j.lent

    go : (s : Reference) → (s ≡ unopened) ⊎ Invariant s k.lent → P (reference_with s k.lent) (book_with s k.lent)
    go s (inl e) = rw e (before k.lent)
    go s (inr f) = after s k.lent f

-- what is lent is as the reference model shows it, opened or not
pub shown_same : (s : Reference) (l : Lent) → (s ≡ unopened) ⊎ Invariant s l → shown s l ≡ l
unfolding shown is_open settings_hold
shown_same s l (inl e) = rw e
shown_same s l (inr f) = shown_still s l f

-- the book model reads the reference model's rows, opened or not
pub simulation_rows : (k : Expected) (w : World) → Simulation k w → book_rows w.head w.lent.tables ≡ rows_of k.reference
unfolding book_rows head_of rows_in run
simulation_rows = simulation_by (λ k w. book_rows w.head w.lent.tables ≡ rows_of k.reference) (λ l. rw (rows_none unopened refl)) rows_read
