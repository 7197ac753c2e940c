-- A book switched on late beside one on since the morning (02, 13/13): when two books are so, and what they then show alike.
use Rattle.std.specs.Prelude.{◌≡◌, ℕ, ◌≤◌, true, List, [], ◌∷◌, map, length}
use Rattle.lists.specs.Lists.{contains}
use Rattle.head.specs.declared.Desk.{Desk}
use Rattle.head.specs.Desks.{watch_of}
use Rattle.model.specs.Book.{standing, look_cells, past_cells}
use Rattle.model.specs.Calls.{Call, Open, Watch, Pair, Outputs, Lending, Lent, Seen, World, book_step, runs, world_first}
use Rattle.model_watcher.specs.Watcher.{OfSize, OfPair}
use Rattle.model_claims.specs.Claims.{is_opening, accepted_in}
use Rattle.model_late.specs.Shift.{moved, shifted, moved_change, LiftedTables}
use Rattle.model_late.specs.Feeding.{offers, quotes_taken, changes_for}

-- ---- calls

-- how a list of calls is made on a book: it leaves this to be seen after each, and this book at the end
abbrev pub Making : Type 1
Making = List Lending → World → List Seen → World → Type 0

-- calls made by the book model; those made by the code are `AllMade` of crate model_claims
pub record ByModel (cs : List Lending) (w : World) (ss : List Seen) (end : World) : Type 0 where
  pub seen : ss ≡ (runs book_step cs w).0
  pub ends : end ≡ (runs book_step cs w).1

-- ---- two books

module _ (made : Making) where
  -- calls that were made on a book and left another, and what was seen after each
  pub record Run (from to : World) : Type 0 where
    pub calls : List Lending
    pub seen : List Seen
    pub made_all : made calls from seen to

  -- this is the next call on a book, it is accepted, and this is seen of it
  pub record Accepts (c : Call) (from : World) (s : Seen) (to : World) : Type 0 where
    pub outputs : Outputs
    pub made_next : made (record { call = c; outputs = outputs } ∷ []) from (s ∷ []) to
    pub accepted : s.outcome.number ≡ 0

  -- the next call on a book is accepted and takes the quote x; this is seen of it
  pub record Takes (x : List ℕ) (from : World) (s : Seen) : Type 0 where
    pub to : World
    pub call : Call
    pub accepts : Accepts call from s to
    pub offered : offers call ≡ x ∷ []

  -- the quotes that calls put into a book
  abbrev pub taken : {from to : World} → Run from to → List (List ℕ)
  taken r = quotes_taken r.calls r.seen []

  -- none of them is an accepted opening
  abbrev pub Unopened : {from to : World} → Run from to → Type 0
  Unopened r = accepted_in is_opening r.calls r.seen ≡ 0

  -- a book on since the morning, and one switched on at the split, m quotes after the last accepted opening of the first: now, after k quotes
  -- that both took
  pub record SwitchedOnLate (m k : ℕ) (morning late : World) : Type 0 where
    -- the calls on the first from a head of zeros up to the split, earlier books among them, and those behind it
    pub lent : Lent
    pub split : World
    pub before : Run (world_first lent) split
    pub since : Run split morning
    -- the calls on the second from a head of zeros, earlier books among them, its opening, and those behind it
    pub late_lent : Lent
    pub off : World
    pub earlier : Run (world_first late_lent) off
    pub d : ℕ
    pub N : ℕ
    pub directions : ℕ
    pub seen_opening : Seen
    pub on : World
    pub opening : Accepts (Open d N directions) off seen_opening on
    pub late_since : Run on late
    -- equal settings
    pub same_dimensions : split.head.dimensions ≡ d
    pub same_capacity : split.head.capacity ≡ N
    pub same_directions : split.head.directions ≡ directions
    -- since then neither accepted an opening, and both accepted the same quotes
    pub unopened : Unopened since
    pub late_unopened : Unopened late_since
    pub same_quotes : taken since ≡ taken late_since
    -- how many quotes the second missed, and how many it took
    pub missed : length (taken before) ≡ m
    pub counted : length (taken late_since) ≡ k

  -- what the two books show alike, the late one's positions m quotes further on
  pub record ShownAlike (m k : ℕ) (morning late : World) : Type 0 where
    -- positions
    pub newest_late : late.head.newest ≡ k
    pub newest_morning : morning.head.newest ≡ moved m k
    -- the list of n, once n quotes are in
    pub lists : (n : ℕ) → 1 ≤ n → n ≤ late.head.capacity → n ≤ k
        → look_cells morning.head n morning.lent.tables ≡ shifted m (look_cells late.head n late.lent.tables)
    -- the past list of n1 and n2, once n2 are in
    pub pasts : (n1 n2 : ℕ) → 1 ≤ n1 → n1 ≤ n2 → n2 ≤ late.head.capacity → n2 ≤ k
        → past_cells morning.head n1 n2 morning.lent.tables ≡ shifted m (past_cells late.head n1 n2 late.lent.tables)
    -- the N places of the four tables and both counts, once N are in
    pub tables : late.head.capacity ≤ k → LiftedTables m late.head.dimensions late.head.capacity morning.lent.tables late.lent.tables
    pub live : late.head.capacity ≤ k → morning.head.live ≡ late.head.live
    pub held : late.head.capacity ≤ k → morning.head.held ≡ late.head.held
    -- the changes of a watch of n that stands on both, of whichever desk on either, with the next quote, once n are in
    pub changes : (desk other : Desk) (n : ℕ)
        → contains (watch_of desk n) (standing morning.lent.watches) ≡ true → contains (watch_of other n) (standing late.lent.watches) ≡ true
        → n ≤ k → (x : List ℕ) (s t : Seen) → Takes x morning s → Takes x late t
        → changes_for (OfSize desk n) s ≡ map (moved_change m) (changes_for (OfSize other n) t)
    -- those of a pair n1 and n2 that stands on both, once n2 are in
    pub pair_changes_lem : 1 ≤ late.head.n1 → morning.head.n1 ≡ late.head.n1 → morning.head.n2 ≡ late.head.n2
        → late.head.n2 ≤ k → (x : List ℕ) (s t : Seen) → Takes x morning s → Takes x late t
        → changes_for OfPair s ≡ map (moved_change m) (changes_for OfPair t)
    -- the joins that setting a watch of n writes on both, of whichever desk on either, once n are in, and those of a pair, once n2 are in
    pub watch_joins : (desk other : Desk) (n : ℕ) → n ≤ k
        → (s t : Seen) (v w : World) → Accepts (Watch desk n) morning s v → Accepts (Watch other n) late t w
        → changes_for (OfSize desk n) s ≡ map (moved_change m) (changes_for (OfSize other n) t)
    pub pair_joins : (n1 n2 : ℕ) → n2 ≤ k
        → (s t : Seen) (v w : World) → Accepts (Pair n1 n2) morning s v → Accepts (Pair n1 n2) late t w
        → changes_for OfPair s ≡ map (moved_change m) (changes_for OfPair t)
