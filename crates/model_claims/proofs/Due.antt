-- When a row that is due comes onto the past list of the pair (000, theorem 4.1): with further quotes, and over a list of calls; and that the
-- quotes for it are accepted if the tape has space for them.
use mathlib.Core.Path.{◌≡◌, refl, sym, ap, ◌∙◌}
use mathlib.Core.Logic.{◌⊎◌, inl, inr}
use Prim.Native.Nat.{ℕ, zero, suc, ◌+◌, ◌≤◌, ◌<◌}
use native.Mathlib.Omega.{arith}
use mathlib.Core.Bool.{Bool, true, false, ◌&&◌, ◌||◌, not, cond}
use mathlib.Core.List.Memᴰ
use mathlib.Core.List.{List, [], ◌∷◌, ◌++◌, map, Memᴰ, append-nil, append_assoc}
use lib.Dec.{ltb, leb, eqb}
use lib.ListN.{length, take, length-append}
use borrow.Author.Tests.{ltb-true, leb-true, ne_eqb, lt-leb, le-leb, le-ltb}
use Rattle.lists.specs.Lists.{filter, insert, without}
use Rattle.lists.proofs.Booleans.{clash, and_left, and_right}
use Rattle.lists.proofs.Members.{of_filter, of_map}
use Rattle.dominance.proofs.Renewal.{renewed_irreflexive}
use Rattle.skyline.specs.Skyline.{window_start}
use Rattle.skyline.specs.Past.{lower_end}
use Rattle.skyline.proofs.Ends.{lower_cong}
use Rattle.skyline.proofs.Due as Joining
use Rattle.refusals.specs.Refusals.{first_of, granted}
use Rattle.head.specs.Heads.{last_position, torn_pair}
use Rattle.head.specs.Desks.{watch_of}
use Rattle.model.specs.Rows.{Row, due_rows}
use Rattle.model.specs.Changes.{change_room}
use Rattle.model.specs.Reference.{Reference, newest, over, skyline_of, past_of, paired, row_of, rows_of, head_of, due_of, is_open, outside, with_quote, with_quotes, with_watched, with_pair_of, opening, tells, foretells, tells_both, reference_step}
use Rattle.model.specs.Calls.{Call, Open, Quote, Look, Watch, End, Past, Pair, Unpair, Due, Preview, Both, Outputs, Lending, Lent, Seen, Expected, lengths_of, expected_step, book_step, runs, world_first, expected_first, expected_at_end, reference_at_end}
use Rattle.model_claims.specs.Claims.{is_quote, is_opening, accepted_in, count_in, fits, fit_quotes, stretch, IsDue, due_after}
use Rattle.model.proofs.Quotes.{over_within}
use Rattle.model.proofs.Short.{skyline_short}
use Rattle.model.proofs.Both.{Taken, Left, both_told}
use Rattle.model.proofs.Sound.{row_held}
use Rattle.model.proofs.Simulation.{Bounded, bounded, watched_pair}
use Rattle.model.proofs.Replay.{replay, replay_ends}
use Rattle.model_claims.proofs.Stretches.{stretch_ends, stretch_seen}

-- ---- further quotes

module _ (s : Reference) (p : ℕ) where
  abbrev M : ℕ
  M = newest s

  -- the first position of the window of N
  abbrev S : ℕ
  S = window_start M s.capacity

  -- what due says of a position: the pair is watched, the position is held, younger than the pair's window, and none of that window is over it
  record DueAt : Type 0 where
    stands : paired s ≡ true
    low : S ≤ p
    high : p ≤ M
    some : 1 ≤ p
    younger : M + 1 < p + s.n1
    free : lower_end (over s) S p < window_start M s.n2

  of_due : IsDue s p → DueAt
  unfolding due_of due_rows row_of
  of_due m = go (paired s) refl m
    where
      test : Row → Bool
      test r = ltb (M + 1) (r.position + s.n1) && ltb r.lower_end (window_start M s.n2)

      far : ℕ → Bool
      far q = ltb (M + 1) (q + s.n1)

      under : ℕ → Bool
      under q = ltb (lower_end (over s) S q) (window_start M s.n2)

      at : (r : Row) → Memᴰ r (rows_of s) → test r ≡ true → p ≡ r.position → paired s ≡ true → DueAt
      at r m t e b =
          let q = row_held s r m in
          let u = rw q.4 at t in
          let same : p ≡ q.0 = e ∙ ap Row.position q.4 in
          record {
            stands = b;
            low = rw same q.1;
            high = rw same q.2;
            some = rw same q.3;
            younger = rw same (ltb-true (M + 1) (q.0 + s.n1) (and_left (far q.0) (under q.0) u));
            free = rw same (ltb-true (lower_end (over s) S q.0) (window_start M s.n2) (and_right (far q.0) (under q.0) u));
          }

      go : (b : Bool) → paired s ≡ b → Memᴰ p (map Row.position (cond b (due_rows M s.n1 s.n2 (rows_of s)) [])) → DueAt
      go true e m =
          let r = of_map Row.position p (filter test (rows_of s)) m in
          let t = of_filter test r.0 (rows_of s) r.1 in
          at r.0 t.0 t.1 r.2 e
      go false e m = absurd (Memᴰ.not-nil m)

  -- a row that is due is on the past list of the pair once its number of quotes are in
  pub due_joins : torn_pair (head_of s) ≡ false → IsDue s p → (more : List (List ℕ)) → length more ≡ due_after s p
      → Memᴰ p (past_of (with_quotes s more) s.n1 s.n2)
  unfolding past_of window_start
  due_joins fine m more e =
      let d = of_due m in
      let w = watched_pair s fine d.stands in
      let most = w.most in
      let same = lower_cong (over (with_quotes s more)) (over s) S M
      (λ q r u v i j. over_within s.dimensions s.directions s.quotes more q r (omega arith) v (omega arith) j) p d.low d.high in
      rw (length-append, e)
      (Joining.due_joins (over (with_quotes s more)) (renewed_irreflexive s.dimensions s.directions (s.quotes ++ more)) S M s.n1 s.n2 p
      (omega arith) w.order d.some d.younger (rw same d.free))

  -- and not while fewer are in
  pub due_not_before : (more : List (List ℕ)) → length more < due_after s p → Memᴰ p (past_of (with_quotes s more) s.n1 s.n2) → ⊥
  unfolding past_of
  due_not_before more h m =
      Joining.due_not_before (over (with_quotes s more)) M s.n1 s.n2 p (length more) h (rw length-append at m)

-- ---- calls without an accepted opening

-- what such calls leave of a reference model: the settings, and its quotes with as many behind them as were accepted
record Later (s end : Reference) (count : ℕ) : Type 0 where
  more : List (List ℕ)
  counted : length more ≡ count
  dimensions : end.dimensions ≡ s.dimensions
  capacity : end.capacity ≡ s.capacity
  directions : end.directions ≡ s.directions
  quotes : end.quotes ≡ s.quotes ++ more

-- as many quotes as before
later_alike : (s end : Reference) → end.dimensions ≡ s.dimensions → end.capacity ≡ s.capacity → end.directions ≡ s.directions → end.quotes ≡ s.quotes
    → Later s end 0
later_alike s end d n e q = record { more = []; counted = refl; dimensions = d; capacity = n; directions = e; quotes = q ∙ sym (append-nil s.quotes) }

later_same : (s : Reference) → Later s s 0
later_same s = later_alike s s refl refl refl refl

later_then : {s t u : Reference} {j k : ℕ} → Later s t j → Later t u k → Later s u (j + k)
later_then {s} a b = record {
  more = a.more ++ b.more;
  counted = length-append a.more b.more ∙ omega (arith, a.counted, b.counted);
  dimensions = b.dimensions ∙ a.dimensions;
  capacity = b.capacity ∙ a.capacity;
  directions = b.directions ∙ a.directions;
  quotes = b.quotes ∙ ap (λ (l : List (List ℕ)). l ++ b.more) a.quotes ∙ append_assoc s.quotes a.more b.more;
}

-- a past list goes by them alone
later_past : {s end : Reference} {count : ℕ} (f : Later s end count) (n1 n2 : ℕ) → past_of end n1 n2 ≡ past_of (with_quotes s f.more) n1 n2
unfolding past_of
later_past f n1 n2 = rw (f.dimensions, f.directions, f.quotes)

-- a call that leaves settings and quotes, accepted or not
later_granted : (a : ℕ) {s next : Reference} → Later s next 0 → Later s (granted a next s) 0
unfolding granted
later_granted zero f = f
later_granted (suc k) {s} f = later_same s

-- an opening that is not accepted
later_unopened : (a : ℕ) (s next : Reference) → eqb a 0 ≡ false → Later s (granted a next s) 0
unfolding granted
later_unopened zero s next e = absurd (clash true refl e)
later_unopened (suc k) s next e = later_same s

-- a quote that is accepted
later_quote : (s : Reference) (x : List ℕ) → Later s (with_quote s x) 1
unfolding with_quote
later_quote s x = record { more = x ∷ []; counted = refl; dimensions = refl; capacity = refl; directions = refl; quotes = refl }

-- a quote, accepted or not
later_quoted : (a : ℕ) (s : Reference) (x : List ℕ) → Later s (granted a (with_quote s x) s) (cond (eqb a 0) 1 0)
unfolding granted
later_quoted zero s x = later_quote s x
later_quoted (suc k) s x = rw (ne_eqb (suc k) 0 (λ e. omega arith)) (later_same s)

module _ (o : Outputs) (k : Expected) where
  abbrev s : Reference
  s = k.reference

  -- the number of the reference model's answer
  abbrev answered : Call → ℕ
  answered c = (expected_step c o k).0.outcome.number

  -- one call
  later_step : (c : Call) → is_opening c && eqb (answered c) 0 ≡ false → Later s (expected_step c o k).1.reference (cond (is_quote c && eqb (answered c) 0) 1 0)
  unfolding expected_step reference_step tells foretells lengths_of is_opening is_quote with_watched with_pair_of
  later_step (Open d N directions) e = later_unopened (answered (Open d N directions)) s (opening d N directions) e
  later_step (Quote x) e = later_quoted (answered (Quote x)) s x
  later_step (Look n) e = later_granted (answered (Look n)) (later_same s)
  later_step (Watch desk n) e =
      later_granted (answered (Watch desk n)) (later_alike s (with_watched s (insert (watch_of desk n) s.watched)) refl refl refl refl)
  later_step (End desk n) e =
      later_granted (answered (End desk n)) (later_alike s (with_watched s (without (watch_of desk n) s.watched)) refl refl refl refl)
  later_step (Past n1 n2) e = later_granted (answered (Past n1 n2)) (later_same s)
  later_step (Pair n1 n2) e = later_granted (answered (Pair n1 n2)) (later_alike s (with_pair_of s n1 n2) refl refl refl refl)
  later_step Unpair e = later_granted (answered Unpair) (later_alike s (with_pair_of s 0 0) refl refl refl refl)
  later_step Due e = later_granted (answered Due) (later_same s)
  later_step (Preview x) e = later_same s
  later_step (Both x n) e = go (both_told x n (lengths_of k.lent o) s)
    where
      go : Taken x n (lengths_of k.lent o) s ⊎ Left x n (lengths_of k.lent o) s
          → Later s (reference_step (Both x n) (lengths_of k.lent o) s).next (cond (eqb (reference_step (Both x n) (lengths_of k.lent o) s).number 0) 1 0)
      go (inl t) = rw (t.next, t.number) (later_quote s x)
      go (inr t) = rw (t.next, ne_eqb (reference_step (Both x n) (lengths_of k.lent o) s).number 0 (λ z. omega (arith, t.number))) (later_same s)

-- a list of calls
later_runs : (cs : List Lending) (k : Expected) → accepted_in is_opening cs (runs expected_step cs k).0 ≡ 0
    → Later k.reference (runs expected_step cs k).1.reference (accepted_in is_quote cs (runs expected_step cs k).0)
unfolding runs accepted_in
later_runs [] k e = later_same k.reference
later_runs (c ∷ cs) k e =
    later_then (later_step c.outputs k c.call (unopened (is_opening c.call && eqb (answered c.outputs k c.call) 0) e))
    (later_runs cs (expected_step c.call c.outputs k).1 (omega arith))
  where
    rest : ℕ
    rest = accepted_in is_opening cs (runs expected_step cs (expected_step c.call c.outputs k).1).0

    unopened : (b : Bool) → cond b 1 0 + rest ≡ 0 → b ≡ false
    unopened true e = absurd (omega arith)
    unopened false e = refl

-- ---- space on the tape

-- settings and quotes alike, opened alike
later_open : {s end : Reference} {count : ℕ} → Later s end count → is_open end ≡ is_open s
unfolding is_open
later_open f = rw (f.dimensions, f.capacity, f.directions)

-- as many quotes more
later_newest : {s end : Reference} {count : ℕ} → Later s end count → newest end ≡ newest s + count
later_newest {s} f = ap length f.quotes ∙ length-append s.quotes f.more ∙ omega (arith, f.counted)

module _ (o : Outputs) (k : Expected) where
  -- a quote of d columns with an output that suffices is accepted on an opened book while the tape has space
  quote_accepted : (x : List ℕ) → is_open k.reference ≡ true → eqb (length x) k.reference.dimensions ≡ true → leb change_room (length o.bytes) ≡ true
      → newest k.reference < last_position → answered o k (Quote x) ≡ 0
  unfolding expected_step reference_step tells lengths_of first_of
  quote_accepted x opened wide room space =
      rw (opened, wide, lt-leb last_position (newest k.reference) space, le-ltb (length o.bytes) change_room (leb-true change_room (length o.bytes) room))

  -- so is one with a look behind it, in one, whose n is from 1 to N, with a cell for each of n positions
  both_fits : (x : List ℕ) (n : ℕ) → is_open k.reference ≡ true → answered o k (Quote x) ≡ 0 → 1 ≤ n → n ≤ k.reference.capacity
      → n ≤ length o.cells → answered o k (Both x n) ≡ 0
  unfolding expected_step reference_step tells tells_both lengths_of granted first_of is_open outside with_quote
  both_fits x n opened e some most long =
      rw (
        e,
        opened,
        le-leb 1 n some,
        le-leb n k.reference.capacity most,
        le-ltb (length o.cells) (length (skyline_of (with_quote k.reference x) n)) (omega (arith, skyline_short (with_quote k.reference x) n some)),
      )

  -- so is a call that is a fit quote
  fit_accepted : (c : Call) → is_open k.reference ≡ true → fits k.reference.dimensions k.reference.capacity c o ≡ true
      → newest k.reference + cond (is_quote c) 1 0 ≤ last_position → ◌≡◌ {A = ℕ} (cond (is_quote c && eqb (answered o k c) 0) 1 0) (cond (is_quote c) 1 0)
  unfolding is_quote fits
  fit_accepted (Open d N directions) opened fit space = refl
  fit_accepted (Quote x) opened fit space =
      let wide = eqb (length x) k.reference.dimensions in
      let room = leb change_room (length o.bytes) in
      rw (quote_accepted x opened (and_left wide room fit) (and_right wide room fit) (omega arith))
  fit_accepted (Look n) opened fit space = refl
  fit_accepted (Watch desk n) opened fit space = refl
  fit_accepted (End desk n) opened fit space = refl
  fit_accepted (Past n1 n2) opened fit space = refl
  fit_accepted (Pair n1 n2) opened fit space = refl
  fit_accepted Unpair opened fit space = refl
  fit_accepted Due opened fit space = refl
  fit_accepted (Preview x) opened fit space = refl
  fit_accepted (Both x n) opened fit space =
      let wide = eqb (length x) k.reference.dimensions in
      let room = leb change_room (length o.bytes) in
      let some = leb 1 n in
      let most = leb n k.reference.capacity in
      let long = leb n (length o.cells) in
      let quote = and_left (wide && room) ((some && most) && long) fit in
      let look = and_right (wide && room) ((some && most) && long) fit in
      let range = and_left (some && most) long look in
      let taken = quote_accepted x opened (and_left wide room quote) (and_right wide room quote) (omega arith) in
      rw (both_fits x n opened taken (leb-true 1 n (and_left some most range)) (leb-true n k.reference.capacity (and_right some most range))
      (leb-true n (length o.cells) (and_right (some && most) long look)))

-- a list of calls
all_accepted : (cs : List Lending) (k : Expected) → is_open k.reference ≡ true → accepted_in is_opening cs (runs expected_step cs k).0 ≡ 0
    → fit_quotes k.reference.dimensions k.reference.capacity cs ≡ true → newest k.reference + count_in is_quote cs ≤ last_position
    → accepted_in is_quote cs (runs expected_step cs k).0 ≡ count_in is_quote cs
unfolding runs accepted_in fit_quotes count_in
all_accepted [] k opened closed fit space = refl
all_accepted (c ∷ cs) k opened closed fit space =
    let d = k.reference.dimensions in
    let N = k.reference.capacity in
    let first = fits d N c.call c.outputs in
    let one = fit_accepted c.outputs k c.call opened (and_left first (fit_quotes d N cs) fit) (omega arith) in
    let later = later_step c.outputs k c.call (unopened (is_opening c.call && eqb (answered c.outputs k c.call) 0) closed) in
    omega (
      arith,
      one,
      all_accepted cs (expected_step c.call c.outputs k).1 (later_open later ∙ opened) (omega arith)
          (rw (later.dimensions, later.capacity) (and_right first (fit_quotes d N cs) fit)) (omega (arith, later_newest later, one)),
    )
  where
    rest : ℕ
    rest = accepted_in is_opening cs (runs expected_step cs (expected_step c.call c.outputs k).1).0

    unopened : (b : Bool) → cond b 1 0 + rest ≡ 0 → b ≡ false
    unopened true e = absurd (omega arith)
    unopened false e = refl

-- ---- a list of calls

module _ (cs : List Lending) (l : Lent) where
  -- the reference model is bounded at the end of every list of calls
  pub end_bounded : Bounded (reference_at_end cs l)
  end_bounded = bounded (reference_at_end cs l) (expected_at_end cs l).lent (replay_ends cs l).since

module _ (cs : List Lending) (l : Lent) (i j : ℕ) (h : i ≤ j) where
  -- the reference model after the first i calls, and after the first j
  abbrev from : Reference
  from = reference_at_end (take i cs) l

  abbrev to : Reference
  to = reference_at_end (take j cs) l

  -- what is seen of all the calls
  abbrev ss : List Seen
  ss = (runs book_step cs (world_first l)).0

  module _ (closed : accepted_in is_opening (stretch i j cs) (stretch i j ss) ≡ 0) where
    -- the quotes of a stretch are accepted if the tape has space for them
    pub due_space : is_open from ≡ true → fit_quotes from.dimensions from.capacity (stretch i j cs) ≡ true → newest from + count_in is_quote (stretch i j cs) ≤ last_position
        → accepted_in is_quote (stretch i j cs) (stretch i j ss) ≡ count_in is_quote (stretch i j cs)
    due_space opened fit space =
        rw (replay cs l, stretch_seen expected_step i j h cs (expected_first l))
        (all_accepted (stretch i j cs) (runs expected_step (take i cs) (expected_first l)).1 opened
        (rw (replay cs l, stretch_seen expected_step i j h cs (expected_first l)) at closed) fit space)

    stretched : Later from to (accepted_in is_quote (stretch i j cs) (stretch i j ss))
    stretched =
        rw (replay cs l, stretch_seen expected_step i j h cs (expected_first l), ap Expected.reference (stretch_ends expected_step i j h cs (expected_first l)))
        (later_runs (stretch i j cs) (runs expected_step (take i cs) (expected_first l)).1
        (rw (replay cs l, stretch_seen expected_step i j h cs (expected_first l)) at closed))

    -- a row that is due after i calls is on the past list of the pair watched then after exactly its number of further accepted quotes
    pub due_row_joins : (p : ℕ) → IsDue from p → accepted_in is_quote (stretch i j cs) (stretch i j ss) ≡ due_after from p
        → Memᴰ p (past_of to from.n1 from.n2)
    due_row_joins p m e =
        rw (later_past stretched from.n1 from.n2) (due_joins from p (end_bounded (take i cs) l).pair m stretched.more (stretched.counted ∙ e))

    -- and not before
    pub due_row_not_before : (p : ℕ) → accepted_in is_quote (stretch i j cs) (stretch i j ss) < due_after from p
        → Memᴰ p (past_of to from.n1 from.n2) → ⊥
    due_row_not_before p k m =
        due_not_before from p stretched.more (rw stretched.counted k) (rw (later_past stretched from.n1 from.n2) at m)
