-- What stands beyond the places of a book does not matter: a book that calls left is left by calls on all tables that agree with its own in
-- those places, however long they are. No call but an opening asks how long tables and records are.
use mathlib.Core.Path.{◌≡◌, refl, sym, ap, ◌∙◌}
use mathlib.Core.Logic.{◌⊎◌, inl, inr}
use Prim.Native.Nat.{ℕ, ◌*◌, ◌≤◌}
use native.Mathlib.Nat.{mul-le-mul_right}
use mathlib.Core.Bool.{true, false}
use mathlib.Core.List.{List, [], ◌∷◌, ◌++◌, map, append_assoc}
use lib.ListN.{length, take, drop, length-map, take-append-drop}
use borrow.Author.Tests.{le-ltb, not-false}
use Rattle.lists.specs.Lists.{flat, padded}
use Rattle.lists.proofs.Booleans.{clash}
use Rattle.lists.proofs.Writing.{length_padded, padded_again, take_padded}
use Rattle.head.specs.declared.Head.{Head}
use Rattle.refusals.specs.Refusals.{first_of, granted}
use Rattle.head.specs.Heads.{settings_hold}
use Rattle.refusals.proofs.Numbers.{zero_passed}
use Rattle.model.specs.Rows.{Row, Tables, filled}
use Rattle.model_claims.specs.Places.{SameFront, SamePlaces}
use Rattle.model.specs.Reference.{Reference, unopened, Lengths, rows_of, head_of, is_open, with_quote, with_watched, with_pair_of, opening, too_short, tells, foretells, tells_both, reference_step}
use Rattle.model.specs.Book.{short_tables, short_loan}
use Rattle.model.specs.Calls.{Call, Open, Quote, Look, Watch, End, Past, Pair, Unpair, Due, Preview, Both, Outputs, Lending, Lent, World, book_step, lengths_of, shown, Expected, expected_step, runs, world_first, expected_first, Reached}
use Rattle.model.specs.Promises.{world}
use Rattle.model_claims.specs.Claims.{is_opening}
use Rattle.model.proofs.Tables.{Fit, cells_counted, filled_again, filled_long}
use Rattle.model.proofs.Records.{eight_records_lem}
use Rattle.model.proofs.Sound.{rows_bounded, rows_wide}
use Rattle.model.proofs.Simulation.{Invariant, Simulation, reference_with, book_with, simulation_by, long_tables, long_records, some_capacity, shown_opened, shown_still}
use Rattle.model.proofs.Replay.{call_agrees, replay_ends}
use Rattle.model.proofs.Lengths.{either_way, Since, since_step}
use Rattle.model.proofs.Reached.{reached_first, reached_step, expected, reached_simulation}

-- ---- one call

-- the reference model tells the same of a call that is no opening, whatever lengths it is lent, if those of the outputs are the same
pub lengths_unread : (c : Call) → is_opening c ≡ false → (n n' : Lengths) → n.bytes ≡ n'.bytes → n.cells ≡ n'.cells → (s : Reference)
    → reference_step c n s ≡ reference_step c n' s
unfolding reference_step is_opening
lengths_unread (Open d N directions) i n n' e f s = absurd (clash true refl i)
lengths_unread (Quote x) i n n' e f s = rw e
lengths_unread (Look k) i n n' e f s = rw f
lengths_unread (Watch desk k) i n n' e f s = rw e
lengths_unread (End desk k) i n n' e f s = refl
lengths_unread (Past n1 n2) i n n' e f s = rw f
lengths_unread (Pair n1 n2) i n n' e f s = rw e
lengths_unread Unpair i n n' e f s = refl
lengths_unread Due i n n' e f s = rw f
lengths_unread (Preview x) i n n' e f s = rw e
lengths_unread (Both x k) i n n' e f s = rw (e, f)

-- so it tells the same whatever tables and records are lent
lent_unread : (c : Call) → is_opening c ≡ false → (l l' : Lent) (o : Outputs) (s : Reference) → reference_step c (lengths_of l o) s ≡ reference_step c (lengths_of l' o) s
unfolding lengths_of
lent_unread c i l l' o s = lengths_unread c i (lengths_of l o) (lengths_of l' o) refl refl s

-- two reference models have the same settings
abbrev SameSettings : Reference → Reference → Type 0
SameSettings s next = (next.dimensions ≡ s.dimensions) × (next.capacity ≡ s.capacity) × (next.directions ≡ s.directions)

same : (s : Reference) → SameSettings s s
same s = (refl, refl, refl)

-- no call but an opening changes the settings
settings_kept : (c : Call) → is_opening c ≡ false → (n : Lengths) (s : Reference) → SameSettings s (reference_step c n s).next
unfolding reference_step tells foretells tells_both is_opening with_quote with_watched with_pair_of
settings_kept (Open d N directions) i n s = absurd (clash true refl i)
settings_kept (Quote x) i n s = either_way (SameSettings s) _ (with_quote s x) s (λ _. same s) (same s)
settings_kept (Look k) i n s = either_way (SameSettings s) _ s s (λ _. same s) (same s)
settings_kept (Watch desk k) i n s = either_way (SameSettings s) _ (with_watched s _) s (λ _. same s) (same s)
settings_kept (End desk k) i n s = either_way (SameSettings s) _ (with_watched s _) s (λ _. same s) (same s)
settings_kept (Past n1 n2) i n s = either_way (SameSettings s) _ s s (λ _. same s) (same s)
settings_kept (Pair n1 n2) i n s = either_way (SameSettings s) _ (with_pair_of s n1 n2) s (λ _. same s) (same s)
settings_kept Unpair i n s = either_way (SameSettings s) _ (with_pair_of s 0 0) s (λ _. same s) (same s)
settings_kept Due i n s = either_way (SameSettings s) _ s s (λ _. same s) (same s)
settings_kept (Preview x) i n s = same s
settings_kept (Both x k) i n s = either_way (SameSettings s) _ _ s (λ _. either_way (SameSettings s) _ (with_quote s x) s (λ _. same s) (same s)) (same s)

-- so it leaves them taken, or not
pub opened_kept : (c : Call) → is_opening c ≡ false → (n : Lengths) (s : Reference) → is_open (reference_step c n s).next ≡ is_open s
unfolding is_open
opened_kept c i n s = let e = settings_kept c i n s in rw (e.0, e.1, e.2)

-- ---- what is lent

-- a list that was written over the front of another stands at the front of every one that agrees in its n places
front_alike : (n : ℕ) (l a b : List ℕ) → length l ≤ n → padded n l a ≡ a → SameFront n a b → padded n l b ≡ b
unfolding padded
front_alike n l a b bounded e p =
    sym (append_assoc l _ (drop n b))
    ∙ ap (λ (r : List ℕ). r ++ drop n b) (sym (take_padded n l a bounded) ∙ ap (take n) e ∙ sym p.same)
    ∙ take-append-drop n b

module _ (s : Reference) (l : Lent) (f : Invariant s l) where
  -- the settings, and the rows of the reference model
  abbrev d : ℕ
  d = s.dimensions

  abbrev N : ℕ
  N = s.capacity

  abbrev rs : List Row
  rs = rows_of s

  bounded : length rs ≤ N
  bounded = rows_bounded s (some_capacity s l f)

  fit : Fit d rs
  fit = rows_wide s f.wide

  -- the invariant holds of all tables that agree in the places
  pub invariant_alike : (u : Tables) → SamePlaces d N l.tables u → Invariant s (record { tables = u; watches = l.watches })
  unfolding short_loan short_tables filled
  invariant_alike u p = record {
    settings = f.settings;
    wide = f.wide;
    within = f.within;
    long = rw (
      le-ltb (length u.columns) (N * d) p.columns.long,
      le-ltb (length u.positions) N p.positions.long,
      le-ltb (length u.lower_ends) N p.lower_ends.long,
      le-ltb (length u.upper_ends) N p.upper_ends.long,
      le-ltb (length l.watches) 8 (long_records l.tables l.watches d N f.long),
    );
    tables = rw (
      front_alike (N * d) (flat (map Row.columns rs)) l.tables.columns u.columns (rw (cells_counted d rs fit) (mul-le-mul_right d bounded))
          (ap Tables.columns f.tables) p.columns,
      front_alike N (map Row.position rs) l.tables.positions u.positions (rw length-map bounded) (ap Tables.positions f.tables) p.positions,
      front_alike N (map Row.lower_end rs) l.tables.lower_ends u.lower_ends (rw length-map bounded) (ap Tables.lower_ends f.tables) p.lower_ends,
      front_alike N (map Row.upper_end rs) l.tables.upper_ends u.upper_ends (rw length-map bounded) (ap Tables.upper_ends f.tables) p.upper_ends,
    );
    records = f.records;
    watches = f.watches;
    pair = f.pair;
  }

  module _ (u : Lent) (enough : short_loan u.tables u.watches d N ≡ false) where
    -- it holds of anything that is long enough, once the reference model is shown in it
    invariant_shown : Invariant s (shown s u)
    unfolding short_loan
    invariant_shown = rw (shown_opened s u f.settings) record {
      settings = f.settings;
      wide = f.wide;
      within = f.within;
      long = rw (
        filled_long d N rs u.tables bounded fit (long_tables u.tables u.watches d N enough) d N,
        length_padded 8 s.watched u.watches (eight_records_lem f.watches) (long_records u.tables u.watches d N enough),
      ) enough;
      tables = filled_again d N rs u.tables bounded fit rs;
      records = padded_again 8 s.watched s.watched u.watches (eight_records_lem f.watches);
      watches = f.watches;
      pair = f.pair;
    }

    -- what is filled in last counts
    filled_over : {d' N' : ℕ} → d' ≡ d → N' ≡ N → (rows : List Row) → filled d' N' rows (filled d N rs u.tables) ≡ filled d' N' rows u.tables
    filled_over e g rows = rw (e, g) (filled_again d N rs u.tables bounded fit rows)

    -- so what is shown last counts
    shown_again : (next : Reference) → is_open next ≡ true → SameSettings s next → shown next (shown s u) ≡ shown next u
    shown_again next o e =
        rw (
          shown_opened s u f.settings,
          shown_opened next u o,
          shown_opened next (record { tables = filled d N rs u.tables; watches = padded 8 s.watched u.watches }) o,
          filled_over e.0 e.1 (rows_of next),
          padded_again 8 next.watched s.watched u.watches (eight_records_lem f.watches),
        )

-- ---- calls on other tables

-- before any opening none was accepted
pub not_opened : is_open unopened ≡ false
unfolding is_open settings_hold
not_opened = refl

-- a book that simulates a reference model has its head, and is lent the same
reached_with : (k : Expected) (w : World) → Simulation k w → Reached w → Reached (book_with k.reference k.lent)
reached_with = simulation_by (λ k w. Reached w → Reached (book_with k.reference k.lent)) (λ l r. r) (λ s l f r. r)

-- calls leave the book of a reference model on anything lent that is long enough, once the model is shown in it
abbrev Shows : Reference → Type 0
Shows s = (u : Lent) → is_open s ≡ true → short_loan u.tables u.watches s.dimensions s.capacity ≡ false → Reached (book_with s (shown s u))

-- one call more
shows_more : (c : Call) (o : Outputs) (s : Reference) (l : Lent) → (s ≡ unopened) ⊎ Invariant s l → Reached (book_with s l)
    → let next = (reference_step c (lengths_of l o) s).next in Reached (book_with next (shown next l))
unfolding expected_step
shows_more c o s l since r =
    reached_with (expected_step c o (reference_with s l)).1 (book_step c o (book_with s l)).1
    (call_agrees c o (reference_with s l) (book_with s l) (record { head = refl; lent = refl; since = since })).1 (reached_step c o r)

module _ (d N directions : ℕ) (holds : settings_hold d N directions ≡ true) where
  -- an opening is accepted where everything lent is long enough
  opening_next : (l : Lent) (o : Outputs) (s : Reference) → short_loan l.tables l.watches d N ≡ false
      → (reference_step (Open d N directions) (lengths_of l o) s).next ≡ opening d N directions
  unfolding reference_step tells first_of granted too_short lengths_of short_loan short_tables
  opening_next l o s enough = rw (holds, enough)

  opening_shows : Shows (opening d N directions)
  unfolding opening runs
  opening_shows u o enough =
      rw (opening_next u none unopened enough) at (shows_more (Open d N directions) none unopened u (inl refl) (reached_with (expected_first u) (world_first u) (replay_ends [] u) (reached_first u)))
    where
      none : Outputs
      none = record { bytes = []; cells = [] }

module _ (o : Outputs) (k : Expected) (since : Since k) (shows : Shows k.reference) where
  abbrev s : Reference
  s = k.reference

  -- a call that is no opening
  other_shows : (c : Call) → is_opening c ≡ false → Shows (reference_step c (lengths_of k.lent o) s).next
  other_shows c i u taken enough = go since
    where
      next : Reference
      next = (reference_step c (lengths_of k.lent o) s).next

      kept : SameSettings s next
      kept = settings_kept c i (lengths_of k.lent o) s

      go : Since k → Reached (book_with next (shown next u))
      go (inl e) = absurd (clash (is_open s) (sym (opened_kept c i (lengths_of k.lent o) s) ∙ taken) (rw e not_opened))
      go (inr f) =
          let long = rw (kept.0, kept.1) at enough in
          rw (lent_unread c i (shown s u) k.lent o s, shown_again s k.lent f u long next taken kept)
          at (shows_more c o s (shown s u) (inr (invariant_shown s k.lent f u long)) (shows u f.settings long))

  -- an opening
  open_shows : (d N directions : ℕ) → Shows (reference_step (Open d N directions) (lengths_of k.lent o) s).next
  unfolding reference_step tells
  open_shows d N directions =
      either_way Shows _ (opening d N directions) s (λ e. opening_shows d N directions (not-false (settings_hold d N directions) (zero_passed _ _ _ e).0)) shows

  -- any call
  step_shows : (c : Call) → Shows (expected_step c o k).1.reference
  unfolding expected_step is_opening
  step_shows (Open d N directions) = open_shows d N directions
  step_shows (Quote x) = other_shows (Quote x) refl
  step_shows (Look n) = other_shows (Look n) refl
  step_shows (Watch desk n) = other_shows (Watch desk n) refl
  step_shows (End desk n) = other_shows (End desk n) refl
  step_shows (Past n1 n2) = other_shows (Past n1 n2) refl
  step_shows (Pair n1 n2) = other_shows (Pair n1 n2) refl
  step_shows Unpair = other_shows Unpair refl
  step_shows Due = other_shows Due refl
  step_shows (Preview x) = other_shows (Preview x) refl
  step_shows (Both x n) = other_shows (Both x n) refl

-- a list of calls
runs_show : (cs : List Lending) (k : Expected) → Since k → Shows k.reference → Shows (runs expected_step cs k).1.reference
unfolding runs
runs_show [] k since shows = shows
runs_show (c ∷ cs) k since shows =
    runs_show cs (expected_step c.call c.outputs k).1 (since_step c.call c.outputs k since) (step_shows c.outputs k since shows c.call)

-- a book that calls left shows a reference model
reached_shows : {w : World} (r : Reached w) → Shows (expected r).reference
reached_shows r = runs_show r.calls (expected_first r.lent) (inl refl) (λ u o enough. absurd (clash (is_open unopened) o not_opened))

-- an opened book that calls left is left by calls on all other tables that agree in its places
pub reached_in_places : {h : Head} {t u : Tables} {ws : List ℕ} → settings_hold h.dimensions h.capacity h.directions ≡ true → Reached (world h t ws)
    → SamePlaces h.dimensions h.capacity t u → Reached (world h u ws)
unfolding head_of is_open
reached_in_places {h} {t} {u} {ws} holds r p =
    simulation_by
    (λ k w. Shows k.reference → settings_hold w.head.dimensions w.head.capacity w.head.directions ≡ true
    → SamePlaces w.head.dimensions w.head.capacity w.lent.tables u → Reached (world w.head u w.lent.watches))
    (λ l shows o q. absurd (clash (is_open unopened) o not_opened))
    (λ s l f shows o q.
    let g = invariant_alike s l f u q in
    rw (shown_still s (record { tables = u; watches = l.watches }) g) at (shows (record { tables = u; watches = l.watches }) f.settings g.long))
    (expected r) (world h t ws) (reached_simulation r) (reached_shows r) holds p
