-- A book switched on late, over two lists of calls: what the two books show, made by the book model or by the code, is the same, shifted.
use mathlib.Core.Path.{◌≡◌, refl, sym, ap, ap₂, subst, ◌∙◌}
use mathlib.Core.Logic.{◌⊎◌, inl, inr}
use Prim.Native.Nat.{ℕ, ◌≤◌, ◌<◌}
use native.Mathlib.Omega.{arith}
use mathlib.Core.Bool.{true, false}
use mathlib.Core.List.{List, [], ◌∷◌, ◌++◌, map, append-nil}
use lib.ListN.{length, drop}
use lib.Seq.{drop-append_seam}
use borrow.Author.Tests.{ne_eqb, not-false}
use Rattle.lists.specs.Lists.{head_or, contains}
use Rattle.lists.proofs.Booleans.{clash}
use Rattle.lists.proofs.Members.{mem_any, contains_mem}
use Rattle.refusals.specs.Refusals.{granted}
use Rattle.refusals.proofs.Numbers.{zero_passed}
use Rattle.head.specs.declared.Head.{Head}
use Rattle.head.specs.declared.Desk.{Desk}
use Rattle.head.specs.Heads.{settings_hold}
use Rattle.head.specs.Desks.{desk_unit, watch_of}
use Rattle.model.specs.Reference.{Reference, unopened, newest, skyline_of, past_of, paired, pair_of, head_of, is_open, with_quote, opening, tells, reference_step}
use Rattle.model.specs.Book.{standing, look_cells, past_cells}
use Rattle.model.specs.Calls.{Call, Open, Watch, Pair, Outputs, Lending, Lent, Seen, World, Expected, lengths_of, book_step, expected_step, runs, world_first, expected_first, expected_at_end}
use Rattle.model_watcher.specs.Watcher.{Follower, OfSize, OfPair, sized_for, watched_for, list_for}
use Rattle.model_claims.specs.Claims.{AllMade, none, next}
use Rattle.model.proofs.Simulation.{Invariant, Simulation, Bounded, bounded, watches_read, skyline_read, past_read, watched_pair}
use Rattle.model.proofs.Replay.{replay, replay_ends}
use Rattle.model_claims.proofs.Refining.{calls_refine}
use Rattle.model_late.specs.Shift.{shifted, Joins, moved_change, list_changes, Behind}
use Rattle.model_late.specs.Feeding.{quotes_taken, changes_for}
use Rattle.model_late.specs.Late.{Making, ByModel, Accepts, Takes, taken, SwitchedOnLate, ShownAlike}
use Rattle.model_late.proofs.Shifting.{joins_moved}
use Rattle.model_late.proofs.Models.{newest_moved, late_list, late_past, late_live, late_held, late_changes, late_pair_changes}
use Rattle.model_late.proofs.Feeding.{settings, answered, quotes_taken_lem, settings_stay, taken_behind}
use Rattle.model_late.proofs.Reading.{sized_own, offer_read, watch_read, pair_read}
use Rattle.model_late.proofs.Tables.{tables_lifted}

-- ---- calls behind calls

module _ {S : Type 0} (step : Call → Outputs → S → Seen × S) where
  -- what is seen of calls behind others, and where they end
  runs_append : (cs ds : List Lending) (s : S)
      → ((runs step (cs ++ ds) s).0 ≡ (runs step cs s).0 ++ (runs step ds (runs step cs s).1).0)
      × ((runs step (cs ++ ds) s).1 ≡ (runs step ds (runs step cs s).1).1)
  unfolding runs
  runs_append [] ds s = (refl, refl)
  runs_append (c ∷ cs) ds s =
      let one = step c.call c.outputs s in
      let r = runs_append cs ds one.1 in
      (ap (λ (l : List Seen). one.0 ∷ l) r.0, r.1)

-- what stands behind the same
cancel : {A : Type 0} (xs ys zs : List A) → xs ++ ys ≡ xs ++ zs → ys ≡ zs
cancel xs ys zs e = sym (drop-append_seam xs ys) ∙ ap (drop (length xs)) e ∙ drop-append_seam xs zs

-- a way to make calls by which they go on behind others, and by which from a head of zeros they refine the reference model
record Sound (made : Making) : Type 0 where
  joined : {cs ds : List Lending} {w v u : World} {ss ts : List Seen} → made cs w ss v → made ds v ts u → made (cs ++ ds) w (ss ++ ts) u
  refined : (cs : List Lending) (l : Lent) (ss : List Seen) (end : World) → made cs (world_first l) ss end
      → (ss ≡ (runs expected_step cs (expected_first l)).0) × Simulation (expected_at_end cs l) end

module _ (made : Making) (sound : Sound made) where
  -- a book that calls from a head of zeros left, with the reference model after them
  record Reaches (k : Expected) (w : World) : Type 0 where
    lent : Lent
    calls : List Lending
    seen : List Seen
    made_all : made calls (world_first lent) seen w
    ends : expected_at_end calls lent ≡ k

  simulates : {k : Expected} {w : World} → Reaches k w → Simulation k w
  simulates {k} {w} r = subst (λ (e : Expected). Simulation e w) r.ends (sound.refined r.calls r.lent r.seen w r.made_all).1

  -- the first calls
  reaches_first : {cs : List Lending} {l : Lent} {ss : List Seen} {w : World} → made cs (world_first l) ss w
      → (ss ≡ (runs expected_step cs (expected_first l)).0) × Reaches (expected_at_end cs l) w
  reaches_first {cs} {l} {ss} {w} m = ((sound.refined cs l ss w m).0, record { lent = l; calls = cs; seen = ss; made_all = m; ends = refl })

  -- calls behind them
  reaches_next : {k : Expected} {w v : World} {ds : List Lending} {ts : List Seen} → Reaches k w → made ds w ts v
      → (ts ≡ (runs expected_step ds k).0) × Reaches (runs expected_step ds k).1 v
  reaches_next {k} {w} {v} {ds} {ts} r m =
      let all = sound.joined r.made_all m in
      let parts = runs_append expected_step r.calls ds (expected_first r.lent) in
      let first = (sound.refined r.calls r.lent r.seen w r.made_all).0 in
      let whole = (sound.refined (r.calls ++ ds) r.lent (r.seen ++ ts) v all).0 in
      let tail : ts ≡ (runs expected_step ds (expected_at_end r.calls r.lent)).0 =
      cancel r.seen ts (runs expected_step ds (expected_at_end r.calls r.lent)).0
      (whole ∙ parts.0 ∙ ap (λ (l : List Seen). l ++ (runs expected_step ds (expected_at_end r.calls r.lent)).0) (sym first)) in (
        tail ∙ ap (λ (e : Expected). (runs expected_step ds e).0) r.ends,
        record {
          lent = r.lent;
          calls = r.calls ++ ds;
          seen = r.seen ++ ts;
          made_all = all;
          ends = parts.1 ∙ ap (λ (e : Expected). (runs expected_step ds e).1) r.ends;
        },
      )

  -- one call
  reaches_one : {k : Expected} {w v : World} {c : Lending} {s : Seen} → Reaches k w → made (c ∷ []) w (s ∷ []) v
      → (s ≡ (expected_step c.call c.outputs k).0) × Reaches (expected_step c.call c.outputs k).1 v
  unfolding runs head_or
  reaches_one {k} {c = c} {s} r m = let t = reaches_next r m in (ap (head_or s) t.0, t.1)

-- ---- what a book shows

-- a book of an opened reference model keeps the invariant
opened_invariant : (k : Expected) (w : World) → Simulation k w → is_open k.reference ≡ true → Invariant k.reference k.lent
opened_invariant k w j e = go j.since
  where
    go : (k.reference ≡ unopened) ⊎ Invariant k.reference k.lent → Invariant k.reference k.lent
    go (inl u) = absurd (clash (is_open unopened) (ap is_open (sym u) ∙ e) shut)
      where
        shut : is_open unopened ≡ false
        shut = unfold is_open settings_hold in refl
    go (inr f) = f

module _ (k : Expected) (w : World) (j : Simulation k w) (f : Invariant k.reference k.lent) where
  -- the list that a look writes, and the past list
  look_is : (n : ℕ) → 1 ≤ n → n ≤ k.reference.capacity → look_cells w.head n w.lent.tables ≡ skyline_of k.reference n
  unfolding look_cells
  look_is n h i = rw (j.head, j.lent) (skyline_read k.reference k.lent f n h i)

  past_is : (n1 n2 : ℕ) → 1 ≤ n1 → n1 ≤ n2 → n2 ≤ k.reference.capacity → past_cells w.head n1 n2 w.lent.tables ≡ past_of k.reference n1 n2
  unfolding past_cells
  past_is n1 n2 h o i = rw (j.head, j.lent) (past_read k.reference k.lent f n1 n2 h o i)

  -- a watch that stands in the records is watched
  watch_stands : (desk : Desk) (n : ℕ) → n < desk_unit → contains (watch_of desk n) (standing w.lent.watches) ≡ true
      → watched_for (OfSize desk n) k.reference ≡ true
  unfolding watched_for
  watch_stands desk n h t =
      let stands : contains (watch_of desk n) k.reference.watched ≡ true = rw (j.lent, watches_read k.reference k.lent f) at t in
      mem_any (sized_for (OfSize desk n)) (watch_of desk n) k.reference.watched
      (contains_mem (watch_of desk n) k.reference.watched stands) (sized_own desk n h)

-- a pair is watched where its n1 is not 0, and its list is the past list
pair_listed : (s : Reference) → 1 ≤ s.n1 → (paired s ≡ true) × (pair_of s ≡ past_of s s.n1 s.n2)
unfolding paired pair_of
pair_listed s h = let e = ne_eqb s.n1 0 (λ z. omega arith) in (rw e, rw e)

module _ (made : Making) (sound : Sound made) {k : Expected} {w : World} (r : Reaches made sound k w) where
  -- what is seen of the next call, and that the reference model accepts it
  accepts_one : {c : Call} {s : Seen} {v : World} (q : Accepts made c w s v) → (s ≡ (expected_step c q.outputs k).0) × (answered q.outputs k c ≡ 0)
  accepts_one {c} {s} {v} q =
      let one = reaches_one made sound r q.made_next in
      (one.0, ap (λ (v : Seen). v.outcome.number) (sym one.0) ∙ q.accepted)

  abbrev ok : Bounded k.reference
  ok = bounded k.reference k.lent (simulates made sound r).since

  -- what a watcher whose list is watched reads of the next quote that is taken
  takes_read : (f : Follower) → watched_for f k.reference ≡ true → (x : List ℕ) (s : Seen) → Takes made x w s
      → changes_for f s ≡ list_changes (list_for f k.reference) (list_for f (with_quote k.reference x))
  takes_read f t x s q =
      let one = accepts_one q.accepts in
      ap (changes_for f) one.0 ∙ offer_read f q.call q.accepts.outputs k ok x q.offered one.1 t

  -- what is read of the next call if it sets a watch
  watching_read : (desk : Desk) (n : ℕ) (s : Seen) {v : World} → Accepts made (Watch desk n) w s v
      → changes_for (OfSize desk n) s ≡ map Joins (skyline_of k.reference n)
  watching_read desk n s q = let one = accepts_one q in ap (changes_for (OfSize desk n)) one.0 ∙ watch_read desk n q.outputs k ok one.1

  -- or the pair
  pairing_read : (n1 n2 : ℕ) (s : Seen) {v : World} → Accepts made (Pair n1 n2) w s v
      → (n1 ≤ n2) × (changes_for OfPair s ≡ map Joins (past_of k.reference n1 n2))
  pairing_read n1 n2 s q =
      let one = accepts_one q in
      let t = pair_read n1 n2 q.outputs k ok one.1 in
      (t.0, ap (changes_for OfPair) one.0 ∙ t.1)

-- ---- two books

module _ (made : Making) (sound : Sound made) {m : ℕ} {k k' : Expected} {morning late : World}
    (r : Reaches made sound k morning) (r' : Reaches made sound k' late) (b : Behind m k.reference k'.reference)
    (opens : is_open k.reference ≡ true) (opens' : is_open k'.reference ≡ true) where
  abbrev s : Reference
  s = k.reference

  abbrev s' : Reference
  s' = k'.reference

  abbrev j : Simulation k morning
  j = simulates made sound r

  abbrev j' : Simulation k' late
  j' = simulates made sound r'

  abbrev f : Invariant s k.lent
  f = opened_invariant k morning j opens

  abbrev f' : Invariant s' k'.lent
  f' = opened_invariant k' late j' opens'

  list_shifted : (n : ℕ) → 1 ≤ n → n ≤ s'.capacity → n ≤ newest s'
      → look_cells morning.head n morning.lent.tables ≡ shifted m (look_cells late.head n late.lent.tables)
  list_shifted n h i g = look_is k morning j f n h (rw b.capacity i) ∙ late_list b n g ∙ ap (shifted m) (sym (look_is k' late j' f' n h i))

  past_shifted : (n1 n2 : ℕ) → 1 ≤ n1 → n1 ≤ n2 → n2 ≤ s'.capacity → n2 ≤ newest s'
      → past_cells morning.head n1 n2 morning.lent.tables ≡ shifted m (past_cells late.head n1 n2 late.lent.tables)
  past_shifted n1 n2 h o i g =
      past_is k morning j f n1 n2 h o (rw b.capacity i) ∙ late_past b n1 n2 o g ∙ ap (shifted m) (sym (past_is k' late j' f' n1 n2 h o i))

  changes_shifted : (desk other : Desk) (n : ℕ)
      → contains (watch_of desk n) (standing morning.lent.watches) ≡ true → contains (watch_of other n) (standing late.lent.watches) ≡ true
      → n ≤ newest s' → (x : List ℕ) (u v : Seen) → Takes made x morning u → Takes made x late v
      → changes_for (OfSize desk n) u ≡ map (moved_change m) (changes_for (OfSize other n) v)
  unfolding list_for
  changes_shifted desk other n t t' g x u v q q' =
      let small : n < desk_unit = let low = f'.within in omega arith in
      takes_read made sound r (OfSize desk n) (watch_stands k morning j f desk n small t) x u q
      ∙ late_changes b x n g
      ∙ ap (map (moved_change m)) (sym (takes_read made sound r' (OfSize other n) (watch_stands k' late j' f' other n small t') x v q'))

  pair_shifted : 1 ≤ s'.n1 → s.n1 ≡ s'.n1 → s.n2 ≡ s'.n2 → s'.n2 ≤ newest s' → (x : List ℕ) (u v : Seen) → Takes made x morning u → Takes made x late v
      → changes_for OfPair u ≡ map (moved_change m) (changes_for OfPair v)
  unfolding list_for watched_for with_quote
  pair_shifted h e e' g x u v q q' =
      let some : 1 ≤ s.n1 = omega arith in
      let within = watched_pair s' f'.pair (pair_listed s' h).0 in
      let order = within.order in
      takes_read made sound r OfPair (pair_listed s some).0 x u q
      ∙ ap₂ (λ (a c : List ℕ). list_changes a c) (pair_listed s some).1 (pair_listed (with_quote s x) some).1
      ∙ ap₂ (λ (n1 n2 : ℕ). list_changes (past_of s n1 n2) (past_of (with_quote s x) n1 n2)) e e'
      ∙ late_pair_changes b x s'.n1 s'.n2 order g
      ∙ ap (map (moved_change m)) (sym (takes_read made sound r' OfPair (pair_listed s' h).0 x v q'
      ∙ ap₂ (λ (a c : List ℕ). list_changes a c) (pair_listed s' h).1 (pair_listed (with_quote s' x) h).1))

  watch_shifted : (desk other : Desk) (n : ℕ) → n ≤ newest s' → (u v : Seen) (x y : World)
      → Accepts made (Watch desk n) morning u x → Accepts made (Watch other n) late v y
      → changes_for (OfSize desk n) u ≡ map (moved_change m) (changes_for (OfSize other n) v)
  watch_shifted desk other n g u v x y q q' =
      watching_read made sound r desk n u q
      ∙ ap (map Joins) (late_list b n g)
      ∙ joins_moved m (skyline_of s' n)
      ∙ ap (map (moved_change m)) (sym (watching_read made sound r' other n v q'))

  pairing_shifted : (n1 n2 : ℕ) → n2 ≤ newest s' → (u v : Seen) (x y : World)
      → Accepts made (Pair n1 n2) morning u x → Accepts made (Pair n1 n2) late v y
      → changes_for OfPair u ≡ map (moved_change m) (changes_for OfPair v)
  pairing_shifted n1 n2 g u v x y q q' =
      let t = pairing_read made sound r n1 n2 u q in
      t.1
      ∙ ap (map Joins) (late_past b n1 n2 t.0 g)
      ∙ joins_moved m (past_of s' n1 n2)
      ∙ ap (map (moved_change m)) (sym (pairing_read made sound r' n1 n2 v q').1)

  -- the settings and the pair of the late head are the reference model's
  capacity_is : late.head.capacity ≡ s'.capacity
  unfolding head_of
  capacity_is = ap Head.capacity j'.head

  n1_is : late.head.n1 ≡ s'.n1
  unfolding head_of
  n1_is = ap Head.n1 j'.head

  n2_is : late.head.n2 ≡ s'.n2
  unfolding head_of
  n2_is = ap Head.n2 j'.head

  -- they show the same, positions shifted
  shown_alike : ShownAlike made m (newest s') morning late
  unfolding head_of
  shown_alike = record {
    newest_late = ap Head.newest j'.head;
    newest_morning = ap Head.newest j.head ∙ newest_moved b;
    lists = λ n h i g. list_shifted n h (rw capacity_is at i) (omega arith);
    pasts = λ n1 n2 h o i g. past_shifted n1 n2 h o (rw capacity_is at i) (omega arith);
    tables = λ g. rw (j.lent, j'.lent, j'.head) (tables_lifted b (rw capacity_is at g) k.lent f k'.lent f');
    live = λ g. ap Head.live j.head ∙ late_live b (rw capacity_is at g) ∙ sym (ap Head.live j'.head);
    held = λ g. ap Head.held j.head ∙ late_held b (rw capacity_is at g) ∙ sym (ap Head.held j'.head);
    changes = λ desk other n t t' g. changes_shifted desk other n t t' (omega arith);
    pair_changes_lem = λ h e e' g.
        pair_shifted (rw n1_is at h) (sym (ap Head.n1 j.head) ∙ e ∙ n1_is) (sym (ap Head.n2 j.head) ∙ e' ∙ n2_is) (omega (arith, n2_is));
    watch_joins = λ desk other n g. watch_shifted desk other n (omega arith);
    pair_joins = λ n1 n2 g. pairing_shifted n1 n2 (omega arith);
  }

-- ---- two lists of calls

-- an accepted opening leaves a model just opened, and its settings hold
opened_is : (d N directions : ℕ) (o : Outputs) (k : Expected) → answered o k (Open d N directions) ≡ 0
    → ((expected_step (Open d N directions) o k).1.reference ≡ opening d N directions) × (settings_hold d N directions ≡ true)
unfolding expected_step reference_step tells lengths_of granted
opened_is d N directions o k e = (rw e, not-false (settings_hold d N directions) (zero_passed _ _ _ e).0)

-- an opened model's settings hold
open_by : (s : Reference) (d N directions : ℕ) → settings s ≡ (d, N, directions) → settings_hold d N directions ≡ true → is_open s ≡ true
unfolding is_open
open_by s d N directions e t = ap (λ (x : ℕ × ℕ × ℕ). settings_hold x.0 x.1 x.2) e ∙ t

module _ (made : Making) (sound : Sound made) {m k : ℕ} {morning late : World} (p : SwitchedOnLate made m k morning late) where
  -- the first book: at the split, and now
  abbrev at_split : Expected
  at_split = expected_at_end p.before.calls p.lent

  abbrev split_reached : (p.before.seen ≡ (runs expected_step p.before.calls (expected_first p.lent)).0) × Reaches made sound at_split p.split
  split_reached = reaches_first made sound p.before.made_all

  abbrev now : Expected
  now = (runs expected_step p.since.calls at_split).1

  abbrev now_reached : (p.since.seen ≡ (runs expected_step p.since.calls at_split).0) × Reaches made sound now morning
  now_reached = reaches_next made sound split_reached.1 p.since.made_all

  -- the second: before its opening, behind it, and now
  abbrev at_off : Expected
  at_off = expected_at_end p.earlier.calls p.late_lent

  abbrev off_reached : Reaches made sound at_off p.off
  off_reached = (reaches_first made sound p.earlier.made_all).1

  abbrev at_on : Expected
  at_on = (expected_step (Open p.d p.N p.directions) p.opening.outputs at_off).1

  abbrev late_now : Expected
  late_now = (runs expected_step p.late_since.calls at_on).1

  abbrev late_reached : (p.late_since.seen ≡ (runs expected_step p.late_since.calls at_on).0) × Reaches made sound late_now late
  late_reached = reaches_next made sound (reaches_one made sound off_reached p.opening.made_next).1 p.late_since.made_all

  just_opened : (at_on.reference ≡ opening p.d p.N p.directions) × (settings_hold p.d p.N p.directions ≡ true)
  just_opened = opened_is p.d p.N p.directions p.opening.outputs at_off (accepts_one made sound off_reached p.opening).1

  -- both have the settings of the late opening
  late_settings : settings late_now.reference ≡ (p.d, p.N, p.directions)
  unfolding opening
  late_settings =
      settings_stay p.late_since.calls at_on (rw late_reached.0 at p.late_unopened)
      ∙ ap settings just_opened.0

  morning_settings : settings now.reference ≡ (p.d, p.N, p.directions)
  unfolding head_of
  morning_settings =
      let h = (simulates made sound split_reached.1).head in
      let e0 : at_split.reference.dimensions ≡ p.d = sym (ap Head.dimensions h) ∙ p.same_dimensions in
      let e1 : at_split.reference.capacity ≡ p.N = sym (ap Head.capacity h) ∙ p.same_capacity in
      let e2 : at_split.reference.directions ≡ p.directions = sym (ap Head.directions h) ∙ p.same_directions in
      settings_stay p.since.calls at_split (rw now_reached.0 at p.unopened)
      ∙ (λ i. (e0 i, e1 i, e2 i))

  -- and the first has the second's quotes behind those that the second missed
  late_quotes : late_now.reference.quotes ≡ taken made p.late_since
  unfolding opening
  late_quotes =
      quotes_taken_lem p.late_since.calls at_on
      ∙ ap₂ (λ (ss : List Seen) (qs : List (List ℕ)). quotes_taken p.late_since.calls ss qs) (sym late_reached.0) (ap Reference.quotes just_opened.0)

  morning_quotes : now.reference.quotes ≡ at_split.reference.quotes ++ taken made p.since
  morning_quotes =
      quotes_taken_lem p.since.calls at_split
      ∙ ap₂ (λ (ss : List Seen) (qs : List (List ℕ)). quotes_taken p.since.calls ss qs)
      (sym now_reached.0) (sym (append-nil at_split.reference.quotes))
      ∙ taken_behind p.since.calls p.since.seen at_split.reference.quotes [] p.unopened

  missed_quotes : length at_split.reference.quotes ≡ m
  missed_quotes =
      ap length
      (quotes_taken_lem p.before.calls (expected_first p.lent) ∙ ap (λ (ss : List Seen). quotes_taken p.before.calls ss []) (sym split_reached.0))
      ∙ p.missed

  behind : Behind m now.reference late_now.reference
  behind =
      let e = morning_settings ∙ sym late_settings in
      record {
        missed = at_split.reference.quotes;
        counted = missed_quotes;
        quotes = morning_quotes ∙ ap (λ (qs : List (List ℕ)). at_split.reference.quotes ++ qs) (p.same_quotes ∙ sym late_quotes);
        dimensions = ap (λ (x : ℕ × ℕ × ℕ). x.0) e;
        capacity = ap (λ (x : ℕ × ℕ × ℕ). x.1) e;
        directions = ap (λ (x : ℕ × ℕ × ℕ). x.2) e;
      }

  -- a book that was switched on late shows what one on since the morning shows, positions shifted
  alike : ShownAlike made m k morning late
  alike =
      subst (λ (n : ℕ). ShownAlike made m n morning late) (ap length late_quotes ∙ p.counted)
      (shown_alike made sound now_reached.1 late_reached.1 behind
      (open_by now.reference p.d p.N p.directions morning_settings just_opened.1)
      (open_by late_now.reference p.d p.N p.directions late_settings just_opened.1))

-- ---- by the book model, and by the code

model_sound : Sound ByModel
model_sound = record {
  joined = λ {cs} {ds} {w} {v} {u} {ss} {ts} a b. go cs ds w v u ss ts a b;
  refined = λ cs l ss end a. (a.seen ∙ replay cs l, subst (λ (w : World). Simulation (expected_at_end cs l) w) (sym a.ends) (replay_ends cs l));
}
  where
    go : (cs ds : List Lending) (w v u : World) (ss ts : List Seen) → ByModel cs w ss v → ByModel ds v ts u → ByModel (cs ++ ds) w (ss ++ ts) u
    go cs ds w v u ss ts a b =
        let parts = runs_append book_step cs ds w in
        let seen : ts ≡ (runs book_step ds (runs book_step cs w).1).0 = b.seen ∙ ap (λ (x : World). (runs book_step ds x).0) a.ends in
        let ends : u ≡ (runs book_step ds (runs book_step cs w).1).1 = b.ends ∙ ap (λ (x : World). (runs book_step ds x).1) a.ends in
        record {
          seen = ap₂ {C = List Seen} (λ (x y : List Seen). x ++ y) a.seen seen ∙ sym parts.0;
          ends = ends ∙ sym parts.1;
        }

-- calls that were made behind calls that were made
made_append : {cs ds : List Lending} {w v u : World} {ss ts : List Seen} → AllMade cs w ss v → AllMade ds v ts u → AllMade (cs ++ ds) w (ss ++ ts) u
made_append none b = b
made_append (next m rest) b = next m (made_append rest b)

code_sound : Sound AllMade
code_sound = record {
  joined = made_append;
  refined = λ cs l ss end a.
      let r = calls_refine cs l ss end a in
      (r.seen_alike, record { head = r.head_alike; lent = r.lent_alike; since = (replay_ends cs l).since });
}

-- a book switched on late, over two lists of calls from heads of zeros, made by the book model
pub late_panel : {m k : ℕ} {morning late : World} → SwitchedOnLate ByModel m k morning late → ShownAlike ByModel m k morning late
late_panel = alike ByModel model_sound

-- and of the code's own calls, each meeting its contract on what the one before left
pub calls_late : {m k : ℕ} {morning late : World} → SwitchedOnLate AllMade m k morning late → ShownAlike AllMade m k morning late
calls_late = alike AllMade code_sound
