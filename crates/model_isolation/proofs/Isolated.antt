-- Two desks on one book: over any list of calls, what a desk sees of those that concern it, with the pair or without it, is worked out from
-- them alone, once it is known which of them got 9, and no other call but a preview writes a change of its own. So two runs that agree in a
-- concern show it the same, whatever else was called.
use mathlib.Core.Path.{◌≡◌, refl, sym, ap, ap₂, subst, ◌∙◌}
use mathlib.Core.Logic.{inl}
use Prim.Native.Nat.{ℕ, zero, suc}
use native.Mathlib.Omega.{arith}
use mathlib.Core.Bool.{Bool, true, false, ◌&&◌, not, cond}
use mathlib.Core.List.{List, [], ◌∷◌, ◌++◌, map}
use lib.Dec.{ltb, eqb}
use lib.ListN.{length}
use borrow.Author.Tests.{leb-false, eqb-true}
use Rattle.lists.specs.Lists.{filter, flat, contains, insert, without, laid}
use Rattle.lists.proofs.Booleans.{clash}
use Rattle.lists.proofs.Members.{contains_filter}
use Rattle.head.specs.declared.Desk.{Desk}
use Rattle.head.specs.declared.Desk.TheVariants.{One, Two}
use Rattle.refusals.specs.declared.Refusal.TheVariants.{Settings, WindowSize, AlreadyWatched, NoFreeRecord, NotWatched, ShortOutput}
use Rattle.refusals.specs.Refusals.{number, first_of, granted}
use Rattle.head.specs.Heads.{last_position}
use Rattle.head.specs.Desks.{watch_of}
use Rattle.refusals.proofs.Numbers.{zero_passed, first_of_alike}
use Rattle.frames.specs.declared.Message.{Message}
use Rattle.model.specs.Changes.{join, pair_join, frames, change_room}
use Rattle.model.specs.Shares.{of_desk, desk_full}
use Rattle.model.specs.Reference.{Reference, Lengths, newest, skyline_of, past_of, paired, is_open, outside, outside_pair, with_quote, with_watched, with_pair_of, opening, too_short, tells, foretells, reference_step}
use Rattle.model.specs.Calls.{Call, Open, Quote, Look, Watch, End, Past, Pair, Unpair, Due, Preview, Both, Outputs, Lending, Lent, Seen, World, lengths_of, Expected, book_step, expected_step, runs, world_first, expected_first, Reached}
use Rattle.model_isolation.specs.Isolation.{Concern, same_desk, concerns, heard_as, is_change_of, writes_frames, is_preview, changes_of, View, view_of, of_concerning, views, nines, issued, changes_in, Asking, asked, concerning, lent_lengths, SameConcern, SameShown, Silent}
use Rattle.model_claims.specs.Claims.{Made, AllMade}
use Rattle.model.proofs.Both.{Taken, both_taken, both_left}
use Rattle.model.proofs.Desks.{watch_own, watch_other, watch_is, watch_range, highest}
use Rattle.model.proofs.Records.{filter_swap}
use Rattle.model.proofs.Simulation.{Bounded, bounded, in_range, in_unit, in_pair_range}
use Rattle.model.proofs.Replay.{call_agrees, replay}
use Rattle.model.proofs.Reached.{expected, reached_simulation}
use Rattle.model.proofs.Lengths.{Since, since_step, lengths_step}
use Rattle.model_watcher.proofs.ReadBack.{Sent}
use Rattle.model_watcher.proofs.Following.{sent_watch, sent_pairing, sent_quote}
use Rattle.model_claims.proofs.Shares.{own_insert, other_insert, other_without}
use Rattle.model_claims.proofs.Refining.{made_seen, calls_refine}
use Rattle.model_isolation.proofs.Alone.{own, refusals, messages, leaves, shows, none_own, other_changes, pair_change, quote_own, granted_none, changes_read, changes_unread, view_read, view_unread, view_alike, changes_none_written}

-- ---- what concerns a desk

-- of a book just opened, everything
fresh_own : (concern : Concern) (d N directions : ℕ) → own concern (opening d N directions) ≡ opening d N directions
unfolding opening filter
fresh_own concern d N directions = rw (none_kept concern.pair)
  where
    none_kept : (b : Bool) → ◌≡◌ {A = ℕ} (cond b 0 0) 0
    none_kept true = refl
    none_kept false = refl

-- desks that are the same
same_desk_lem : (one other : Desk) → same_desk one other ≡ true → one ≡ other
unfolding same_desk
same_desk_lem One One e = refl
same_desk_lem One Two e = absurd (clash false e refl)
same_desk_lem Two One e = absurd (clash false e refl)
same_desk_lem Two Two e = refl

-- whether the desk of a watch is full, told by whether its answer is 9: the answer is the same
told_by_nine : (p q r full short : Bool)
    → let answer = first_of ((p, number Settings) ∷ (q, number WindowSize) ∷ (r, number AlreadyWatched) ∷ (full, number NoFreeRecord) ∷ (short, number ShortOutput) ∷ []) in
    first_of ((p, number Settings) ∷ (q, number WindowSize) ∷ (r, number AlreadyWatched) ∷ (eqb answer (number NoFreeRecord), number NoFreeRecord) ∷ (short, number ShortOutput) ∷ [])
    ≡ answer
unfolding first_of
told_by_nine true q r full short = refl
told_by_nine false true r full short = refl
told_by_nine false false true full short = refl
told_by_nine false false false true short = refl
told_by_nine false false false false true = refl
told_by_nine false false false false false = refl

and-true : (b : Bool) → b && true ≡ b
and-true true = refl
and-true false = refl

-- ---- one call

module _ (concern : Concern) (o : Outputs) (k : Expected) (f : Since k) where
  -- the desk of the concern
  abbrev desk : Desk
  desk = concern.desk

  -- the reference model before the call
  abbrev s : Reference
  s = k.reference

  -- the lengths lent, none for positions: no call that concerns a desk writes any
  abbrev room : Lengths
  room = lengths_of k.lent (record { bytes = o.bytes; cells = [] })

  -- what is seen of a call
  abbrev seen : Call → Seen
  seen c = (expected_step c o k).0

  -- what it leaves
  abbrev next : Call → Reference
  next c = (expected_step c o k).1.reference

  -- a call got 9
  abbrev nine : Call → Bool
  nine c = eqb (seen c).outcome.number (number NoFreeRecord)

  ok : Bounded s
  ok = bounded s k.lent f

  -- the answer of a call as the desk hears of it, by what concerns the desk, and by whether it got 9
  abbrev alone : Call → ℕ
  alone c = first_of (refusals (heard_as c) (nine c) room (own concern s))

  -- what the desk sees of a call, and what the call leaves of what concerns it, are by that answer and what concerned it before
  record Follows (c : Call) : Type 0 where
    sees : view_of concern c (seen c) ≡ shows concern (alone c) (messages (heard_as c) (own concern s))
    goes : own concern (next c) ≡ granted (alone c) (leaves (heard_as c) (own concern s)) (own concern s)

  -- they are where the answer is the call's own, and an accepted call writes and leaves the same for the desk
  follows_by : (c : Call) (a : ℕ) → alone c ≡ a → view_of concern c (seen c) ≡ shows concern a (messages (heard_as c) s)
      → next c ≡ granted a (leaves (heard_as c) s) s
      → (a ≡ 0 → filter (is_change_of concern) (messages (heard_as c) s) ≡ filter (is_change_of concern) (messages (heard_as c) (own concern s)))
      → (a ≡ 0 → own concern (leaves (heard_as c) s) ≡ leaves (heard_as c) (own concern s)) → Follows c
  unfolding granted
  follows_by c a e v n ms l = record { sees = v ∙ rw e (saw a ms); goes = ap (own concern) n ∙ rw e (went a l) }
    where
      saw : (a : ℕ) → (a ≡ 0 → filter (is_change_of concern) (messages (heard_as c) s) ≡ filter (is_change_of concern) (messages (heard_as c) (own concern s)))
          → shows concern a (messages (heard_as c) s) ≡ shows concern a (messages (heard_as c) (own concern s))
      saw zero h = rw (h refl)
      saw (suc j) h = refl

      went : (a : ℕ) → (a ≡ 0 → own concern (leaves (heard_as c) s) ≡ leaves (heard_as c) (own concern s))
          → own concern (granted a (leaves (heard_as c) s) s) ≡ granted a (leaves (heard_as c) (own concern s)) (own concern s)
      went zero h = h refl
      went (suc j) h = refl

  -- ---- openings and quotes

  opens : (d N directions : ℕ) → Follows (Open d N directions)
  unfolding expected_step reference_step tells too_short lengths_of writes_frames heard_as
  opens d N directions =
      let c = Open d N directions in
      follows_by c (alone c) refl (view_unread concern c (alone c) (seen c) refl refl) refl (λ _. refl) (λ _. fresh_own concern d N directions)

  quotes : (x : List ℕ) → Follows (Quote x)
  unfolding expected_step reference_step tells lengths_of is_open with_quote writes_frames heard_as
  quotes x =
      let c = Quote x in
      follows_by c (alone c) refl (view_read concern c (messages c s) (alone c) o.bytes (seen c) refl sent refl refl refl) refl
      (λ _. quote_own concern s.capacity x s ok.watches.each) (λ _. refl)
    where
      sent : alone (Quote x) ≡ 0 → Sent (messages (Quote x) s)
      sent e = sent_quote s ok x (leb-false last_position (newest s) (zero_passed _ _ _ (zero_passed _ _ _ (zero_passed _ _ _ e).1).1).0)

  -- ---- the desk's watches

  module _ (n : ℕ) where
    -- the number of the watch
    abbrev watch : ℕ
    watch = watch_of desk n

    -- the desk's watch is among its own as it is among all
    contains_own : outside s n ≡ false → contains watch (filter (of_desk desk) s.watched) ≡ contains watch s.watched
    contains_own e = contains_filter (of_desk desk) watch s.watched ∙ rw (watch_own desk n (in_unit s n ok e)) (and-true (contains watch s.watched))

    -- the answer of a watch of the desk
    abbrev watch_answer_lem : ℕ
    watch_answer_lem = first_of (refusals (Watch desk n) (desk_full desk s.watched) room s)

    watch_alone : alone (Watch desk n) ≡ watch_answer_lem
    unfolding expected_step reference_step tells lengths_of is_open outside heard_as
    watch_alone =
        first_of_alike p (number Settings) ((q, number WindowSize) ∷ more (contains watch (own concern s).watched)) ((q, number WindowSize) ∷ more r)
        (λ _. first_of_alike q (number WindowSize) (more (contains watch (own concern s).watched)) (more r)
        (λ e. ap (λ (b : Bool). first_of (more b)) (contains_own e)))
        ∙ told_by_nine p q r (desk_full desk s.watched) (ltb (length o.bytes) change_room)
      where
        p : Bool
        p = not (is_open s)

        q : Bool
        q = outside s n

        r : Bool
        r = contains watch s.watched

        more : Bool → List (Bool × ℕ)
        more b = (b, number AlreadyWatched) ∷ (nine (Watch desk n), number NoFreeRecord) ∷ (ltb (length o.bytes) change_room, number ShortOutput) ∷ []

    watches : Follows (Watch desk n)
    unfolding expected_step reference_step tells lengths_of skyline_of with_watched writes_frames heard_as
    watches =
        let c = Watch desk n in
        follows_by c watch_answer_lem watch_alone (view_read concern c (messages c s) watch_answer_lem o.bytes (seen c) refl sent refl refl refl)
        refl (λ _. refl) kept
      where
        inside : watch_answer_lem ≡ 0 → outside s n ≡ false
        inside e = (zero_passed _ _ _ (zero_passed _ _ _ e).1).0

        free : watch_answer_lem ≡ 0 → contains watch s.watched ≡ false
        free e = (zero_passed _ _ _ (zero_passed _ _ _ (zero_passed _ _ _ e).1).1).0

        sent : watch_answer_lem ≡ 0 → Sent (messages (Watch desk n) s)
        sent e = sent_watch s ok desk n (inside e)

        kept : watch_answer_lem ≡ 0 → own concern (leaves (Watch desk n) s) ≡ leaves (Watch desk n) (own concern s)
        kept e =
            let small = in_unit s n ok (inside e) in
            let r = in_range s n (inside e) in
            let range = watch_range s.capacity watch (watch_is s.capacity desk n small r.0 r.1) in
            rw (own_insert desk 1 highest watch s.watched (watch_own desk n small) range.0 range.1 (free e) ok.watches.risen)

    -- the answer of an end of the desk's
    abbrev end_answer_lem : ℕ
    end_answer_lem = first_of (refusals (End desk n) false room s)

    end_alone : alone (End desk n) ≡ end_answer_lem
    unfolding is_open outside heard_as
    end_alone =
        first_of_alike (not (is_open s)) (number Settings) ((outside s n, number WindowSize) ∷ more (contains watch (own concern s).watched))
        ((outside s n, number WindowSize) ∷ more (contains watch s.watched))
        (λ _. first_of_alike (outside s n) (number WindowSize) (more (contains watch (own concern s).watched)) (more (contains watch s.watched))
        (λ e. ap (λ (b : Bool). first_of (more b)) (contains_own e)))
      where
        more : Bool → List (Bool × ℕ)
        more b = (not b, number NotWatched) ∷ []

    ends : Follows (End desk n)
    unfolding expected_step reference_step tells lengths_of with_watched without writes_frames heard_as
    ends =
        let c = End desk n in
        follows_by c end_answer_lem end_alone (view_unread concern c end_answer_lem (seen c) refl refl) refl (λ _. refl)
        (λ _. rw (filter_swap (of_desk desk) (λ v. not (eqb watch v)) s.watched))

  -- ---- the pair, counted in

  module _ (its : concern.pair ≡ true) where
    module _ (n1 n2 : ℕ) where
      -- the answer of a watch of the pair
      abbrev pair_answer_lem : ℕ
      pair_answer_lem = first_of (refusals (Pair n1 n2) false room s)

      pair_alone : alone (Pair n1 n2) ≡ pair_answer_lem
      unfolding is_open outside_pair paired heard_as
      pair_alone = rw its

      pairs : Follows (Pair n1 n2)
      unfolding expected_step reference_step tells lengths_of past_of with_pair_of writes_frames heard_as
      pairs =
          let c = Pair n1 n2 in
          follows_by c pair_answer_lem pair_alone (view_read concern c (messages c s) pair_answer_lem o.bytes (seen c) refl sent refl refl refl)
          refl (λ _. refl) (λ _. rw its)
        where
          sent : pair_answer_lem ≡ 0 → Sent (messages (Pair n1 n2) s)
          sent e =
              let a = zero_passed _ _ _ (zero_passed _ _ _ e).1 in
              let two = (in_pair_range s n1 n2 a.0 (zero_passed _ _ _ a.1).0).two in
              sent_pairing s ok n1 n2 (omega arith)

    -- the answer of the end of the pair
    abbrev unpair_answer_lem : ℕ
    unpair_answer_lem = first_of (refusals Unpair false room s)

    unpair_alone : alone Unpair ≡ unpair_answer_lem
    unfolding is_open paired heard_as
    unpair_alone = rw its

    unpairs : Follows Unpair
    unfolding expected_step reference_step tells lengths_of with_pair_of writes_frames heard_as
    unpairs =
        follows_by Unpair unpair_answer_lem unpair_alone (view_unread concern Unpair unpair_answer_lem (seen Unpair) refl refl) refl (λ _. refl) (λ _. rw its)

  -- ---- a quote and look in one

  -- taken, it follows as its quote does
  boths : (x : List ℕ) (n : ℕ) → Taken x n (lengths_of k.lent o) s → Follows (Both x n)
  unfolding expected_step writes_frames heard_as
  boths x n t = record {
    sees =
        view_alike concern (Both x n) (Quote x) (seen (Both x n)) (seen (Quote x)) refl refl (t.number ∙ sym t.quote_number) t.count
        (ap (λ (bs : List ℕ). laid bs o.bytes) t.bytes)
        ∙ (quotes x).sees;
    goes = ap (own concern) (t.next ∙ sym t.quote_next) ∙ (quotes x).goes;
  }

  -- ---- every call

  -- a call that concerns the desk follows from what concerns it
  follows : (c : Call) → concerns concern c (seen c).outcome.number ≡ true → Follows c
  unfolding concerns expected_step
  follows (Open d N directions) t = opens d N directions
  follows (Quote x) t = quotes x
  follows (Look n) t = absurd (clash false t refl)
  follows (Watch other n) t = subst (λ (d : Desk). Follows (Watch d n)) (same_desk_lem desk other t) (watches n)
  follows (End other n) t = subst (λ (d : Desk). Follows (End d n)) (same_desk_lem desk other t) (ends n)
  follows (Past n1 n2) t = absurd (clash false t refl)
  follows (Pair n1 n2) t = pairs t n1 n2
  follows Unpair t = unpairs t
  follows Due t = absurd (clash false t refl)
  follows (Preview x) t = absurd (clash false t refl)
  follows (Both x n) t = boths x n (both_taken x n (lengths_of k.lent o) s (eqb-true (seen (Both x n)).outcome.number 0 t))

  -- what is granted of two that are alike for the desk
  granted_own : (a : ℕ) (next : Reference) → (a ≡ 0 → own concern next ≡ own concern s) → own concern (granted a next s) ≡ own concern s
  unfolding granted
  granted_own zero next e = e refl
  granted_own (suc j) next e = refl

  -- one that does not concern it leaves what does
  stays : (c : Call) → concerns concern c (seen c).outcome.number ≡ false → own concern (next c) ≡ own concern s
  unfolding concerns expected_step reference_step tells foretells lengths_of with_watched with_pair_of same_desk
  stays (Open d N directions) t = absurd (clash true refl t)
  stays (Quote x) t = absurd (clash true refl t)
  stays (Look n) t = granted_own _ s (λ _. refl)
  stays (Watch other n) t =
      granted_own (seen (Watch other n)).outcome.number (with_watched s (insert (watch_of other n) s.watched)) (λ e.
      let small = in_unit s n ok (zero_passed _ _ _ (zero_passed _ _ _ e).1).0 in
      rw (other_insert desk (watch_of other n) s.watched (watch_other other n small desk t)))
  stays (End other n) t =
      granted_own (seen (End other n)).outcome.number (with_watched s (without (watch_of other n) s.watched)) (λ e.
      let small = in_unit s n ok (zero_passed _ _ _ (zero_passed _ _ _ e).1).0 in
      rw (other_without desk (watch_of other n) s.watched (watch_other other n small desk t)))
  stays (Past n1 n2) t = granted_own _ s (λ _. refl)
  stays (Pair n1 n2) t = granted_own _ (with_pair_of s n1 n2) (λ _. rw t)
  stays Unpair t = granted_own _ (with_pair_of s 0 0) (λ _. rw t)
  stays Due t = granted_own _ s (λ _. refl)
  stays (Preview x) t = refl
  stays (Both x n) t = ap (own concern) (both_left x n (lengths_of k.lent o) s t).next

  -- ---- calls of no concern are silent

  -- what is granted of messages none of which is a change of the concern's
  none_granted : (a : ℕ) (ms : List Message) → (a ≡ 0 → filter (is_change_of concern) ms ≡ []) → granted a (filter (is_change_of concern) ms) [] ≡ []
  unfolding granted
  none_granted zero ms e = e refl
  none_granted (suc j) ms e = refl

  -- a call that is lent no output for frames
  silent_unread : (c : Call) → writes_frames c ≡ false → (seen c).outputs.bytes ≡ o.bytes → Silent concern c o (seen c)
  silent_unread c w e = record { none = changes_unread concern c (seen c) w; left = λ _. e }

  -- one that writes frames, and no change of the concern's
  silent_read : (c : Call) (ms : List Message) (a : ℕ) → writes_frames c ≡ true → (a ≡ 0 → Sent ms)
      → (seen c).outcome.count ≡ granted a (length (frames ms)) 0 → (seen c).outputs.bytes ≡ laid (granted a (frames ms) []) o.bytes
      → (a ≡ 0 → filter (is_change_of concern) ms ≡ []) → Silent concern c o (seen c)
  silent_read c ms a w sent e b none =
      record { none = changes_read concern c ms a o.bytes (seen c) w sent e b ∙ none_granted a ms none; left = λ u. absurd (clash (writes_frames c) w u) }

  -- the bytes where none are granted
  bytes_left : (a : ℕ) → laid (granted {A = List ℕ} a [] []) o.bytes ≡ o.bytes
  unfolding laid
  bytes_left a = rw (granted_none {A = ℕ} a)

  -- a call that is none of the concern's, and no preview, says nothing to it
  silent : (c : Call) → concerns concern c (seen c).outcome.number ≡ false → is_preview c ≡ false → Silent concern c o (seen c)
  unfolding concerns is_preview expected_step reference_step tells lengths_of writes_frames same_desk outside
  silent (Open d N directions) t u = absurd (clash true refl t)
  silent (Quote x) t u = absurd (clash true refl t)
  silent (Look n) t u = silent_unread (Look n) refl (bytes_left (seen (Look n)).outcome.number)
  silent (Watch other n) t u =
      silent_read (Watch other n) (messages (Watch other n) s) (seen (Watch other n)).outcome.number refl
      (λ e. sent_watch s ok other n (inside e)) refl refl
      (λ e.
      let small = in_unit s n ok (inside e) in
      let r = in_range s n (inside e) in
      let fine = watch_is s.capacity other n small r.0 r.1 in
      none_own concern (join (watch_of other n)) (λ p. (other_changes concern s.capacity (watch_of other n) fine (watch_other other n small desk t) p).1)
      (skyline_of s n))
    where
      inside : (seen (Watch other n)).outcome.number ≡ 0 → outside s n ≡ false
      inside e = (zero_passed _ _ _ (zero_passed _ _ _ e).1).0
  silent (End other n) t u = silent_unread (End other n) refl (bytes_left (seen (End other n)).outcome.number)
  silent (Past n1 n2) t u = silent_unread (Past n1 n2) refl (bytes_left (seen (Past n1 n2)).outcome.number)
  silent (Pair n1 n2) t u =
      silent_read (Pair n1 n2) (messages (Pair n1 n2) s) (seen (Pair n1 n2)).outcome.number refl
      (λ e.
      let a = zero_passed _ _ _ (zero_passed _ _ _ e).1 in
      let two = (in_pair_range s n1 n2 a.0 (zero_passed _ _ _ a.1).0).two in
      sent_pairing s ok n1 n2 (omega arith)) refl refl
      (λ e. none_own concern pair_join (λ p. (pair_change concern t p).1) (past_of s n1 n2))
  silent Unpair t u = silent_unread Unpair refl (bytes_left (seen Unpair).outcome.number)
  silent Due t u = silent_unread Due refl (bytes_left (seen Due).outcome.number)
  silent (Preview x) t u = absurd (clash true refl u)
  silent (Both x n) t u = record {
    none = changes_none_written concern (Both x n) (seen (Both x n)) refl (both_left x n (lengths_of k.lent o) s t).count;
    left = λ v. absurd (clash true refl v);
  }

-- ---- a list of calls

-- lengths of what is lent, and of a call's output for frames
abbrev within : Lengths → ℕ → Lengths
within l bytes = record {
  columns = l.columns;
  positions = l.positions;
  lower_ends = l.lower_ends;
  upper_ends = l.upper_ends;
  watches = l.watches;
  bytes = bytes;
  cells = 0;
}

-- what a concern sees of calls, from what is its own, the lengths lent, and which of the calls got 9
alone_sees : Concern → Lengths → List Asking → List Bool → Reference → List View
alone_sees concern l [] bs s = []
alone_sees concern l (c ∷ cs) [] s = []
alone_sees concern l (c ∷ cs) (b ∷ bs) s =
    let a = first_of (refusals c.call b (within l c.bytes) s) in
    shows concern a (messages c.call s) ∷ alone_sees concern l cs bs (granted a (leaves c.call s) s)

-- that is what it sees
views_alone : (concern : Concern) (cs : List Lending) (k : Expected) → Since k
    → views concern cs (runs expected_step cs k).0
    ≡ alone_sees concern (lent_lengths k.lent) (concerning concern cs (runs expected_step cs k).0) (nines concern cs (runs expected_step cs k).0)
    (own concern k.reference)
unfolding views nines of_concerning concerning asked runs alone_sees lent_lengths lengths_of
views_alone concern [] k f = refl
views_alone concern (c ∷ cs) k f =
    go (views_alone concern cs one.1 (since_step c.call c.outputs k f)) (concerns concern c.call one.0.outcome.number) refl
  where
    one : Seen × Expected
    one = expected_step c.call c.outputs k

    got : Bool
    got = eqb one.0.outcome.number (number NoFreeRecord)

    ss : List Seen
    ss = (runs expected_step cs one.1).0

    -- what is seen of the calls behind the first
    Rest : Type 0
    Rest = views concern cs ss ≡ alone_sees concern (lent_lengths one.1.lent) (concerning concern cs ss) (nines concern cs ss) (own concern one.1.reference)

    rest : Rest → (s : Reference) → own concern one.1.reference ≡ s
        → views concern cs ss ≡ alone_sees concern (lent_lengths k.lent) (concerning concern cs ss) (nines concern cs ss) s
    rest r s e =
        r
        ∙ ap₂ (λ (l : Lengths) (s : Reference). alone_sees concern l (concerning concern cs ss) (nines concern cs ss) s)
        (lengths_step c.call c.outputs (record { bytes = []; cells = [] }) k f) e

    go : Rest → (b : Bool) → concerns concern c.call one.0.outcome.number ≡ b
        → cond b (view_of concern c.call one.0 ∷ views concern cs ss) (views concern cs ss)
        ≡ alone_sees concern (lent_lengths k.lent) (cond b (asked c ∷ concerning concern cs ss) (concerning concern cs ss))
        (cond b (got ∷ nines concern cs ss) (nines concern cs ss)) (own concern k.reference)
    go r true t =
        let h = follows concern c.outputs k f c.call t in
        ap₂ {C = List View} (λ (v : View) (vs : List View). v ∷ vs) h.sees (rest r _ h.goes)
    go r false t = rest r (own concern k.reference) (stays concern c.outputs k f c.call t)

-- ---- everything that was written

-- a call of the concern is no preview
no_preview : (concern : Concern) (c : Call) (a : ℕ) → concerns concern c a ≡ true → is_preview c ≡ false
unfolding concerns is_preview
no_preview concern (Open d N directions) a t = refl
no_preview concern (Quote x) a t = refl
no_preview concern (Look n) a t = refl
no_preview concern (Watch desk n) a t = refl
no_preview concern (End desk n) a t = refl
no_preview concern (Past n1 n2) a t = refl
no_preview concern (Pair n1 n2) a t = refl
no_preview concern Unpair a t = refl
no_preview concern Due a t = refl
no_preview concern (Preview x) a t = absurd (clash false t refl)
no_preview concern (Both x n) a t = refl

-- a preview issues no change, any other call those among its frames
issued_preview : (concern : Concern) (c : Call) (seen : Seen) → is_preview c ≡ true → issued concern c seen ≡ []
unfolding issued
issued_preview concern c seen u = rw u

issued_own : (concern : Concern) (c : Call) (seen : Seen) → is_preview c ≡ false → issued concern c seen ≡ changes_of concern c seen
unfolding issued
issued_own concern c seen u = rw u

-- the changes of a concern among all that was written are those that it sees of its own calls
written_viewed : (concern : Concern) (cs : List Lending) (k : Expected) → Since k
    → changes_in concern cs (runs expected_step cs k).0 ≡ flat (map View.changes (views concern cs (runs expected_step cs k).0))
unfolding changes_in views of_concerning view_of flat runs
written_viewed concern [] k f = refl
written_viewed concern (c ∷ cs) k f =
    go (written_viewed concern cs one.1 (since_step c.call c.outputs k f)) (concerns concern c.call one.0.outcome.number) refl
  where
    one : Seen × Expected
    one = expected_step c.call c.outputs k

    ss : List Seen
    ss = (runs expected_step cs one.1).0

    -- those of the first call
    first : List Message
    first = changes_of concern c.call one.0

    unseen : concerns concern c.call one.0.outcome.number ≡ false → issued concern c.call one.0 ≡ []
    unseen t = by (is_preview c.call) refl
      where
        by : (b : Bool) → is_preview c.call ≡ b → issued concern c.call one.0 ≡ []
        by true u = issued_preview concern c.call one.0 u
        by false u = issued_own concern c.call one.0 u ∙ (silent concern c.outputs k f c.call t u).none

    go : changes_in concern cs ss ≡ flat (map View.changes (views concern cs ss)) → (b : Bool) → concerns concern c.call one.0.outcome.number ≡ b
        → issued concern c.call one.0 ++ changes_in concern cs ss
        ≡ flat (map View.changes (cond b (view_of concern c.call one.0 ∷ views concern cs ss) (views concern cs ss)))
    go r true t = rw (issued_own concern c.call one.0 (no_preview concern c.call one.0.outcome.number t)) (ap (λ (ms : List Message). first ++ ms) r)
    go r false t = rw (unseen t) r

-- ---- isolation

-- two runs that agree in a concern show it the same: by the reference model
pub isolated : (concern : Concern) (cs cs' : List Lending) (l l' : Lent)
    → SameConcern concern cs cs' l l' (runs expected_step cs (expected_first l)).0 (runs expected_step cs' (expected_first l')).0
    → SameShown concern cs cs' (runs expected_step cs (expected_first l)).0 (runs expected_step cs' (expected_first l')).0
isolated concern cs cs' l l' g = record {
  viewed = same;
  written =
      written_viewed concern cs (expected_first l) (inl refl)
      ∙ ap (λ (vs : List View). flat (map View.changes vs)) same
      ∙ sym (written_viewed concern cs' (expected_first l') (inl refl));
}
  where
    same : views concern cs (runs expected_step cs (expected_first l)).0 ≡ views concern cs' (runs expected_step cs' (expected_first l')).0
    same =
        views_alone concern cs (expected_first l) (inl refl)
        ∙ rw (g.lengths, g.calls, g.refused)
        (sym (views_alone concern cs' (expected_first l') (inl refl)))

-- by the book model
pub isolated_book : (concern : Concern) (cs cs' : List Lending) (l l' : Lent)
    → SameConcern concern cs cs' l l' (runs book_step cs (world_first l)).0 (runs book_step cs' (world_first l')).0
    → SameShown concern cs cs' (runs book_step cs (world_first l)).0 (runs book_step cs' (world_first l')).0
isolated_book concern cs cs' l l' g = rw (replay cs l, replay cs' l') (isolated concern cs cs' l l' (rw (replay cs l, replay cs' l') at g))

-- and of calls that were made, each meeting its promise
pub calls_isolated : (concern : Concern) (cs cs' : List Lending) (l l' : Lent) (ss ss' : List Seen) (end end' : World)
    → AllMade cs (world_first l) ss end → AllMade cs' (world_first l') ss' end' → SameConcern concern cs cs' l l' ss ss'
    → SameShown concern cs cs' ss ss'
calls_isolated concern cs cs' l l' ss ss' end end' m m' g =
    let e = (calls_refine cs l ss end m).seen_alike in
    let e' = (calls_refine cs' l' ss' end' m').seen_alike in
    rw (e, e') (isolated concern cs cs' l l' (rw (e, e') at g))

-- a call that was made on a book that calls left, is none of a concern's and no preview, says nothing to it
pub others_silent : (concern : Concern) (c : Call) (o : Outputs) {w : World} (s : Seen) → Reached w → Made c o w s
    → concerns concern c s.outcome.number ≡ false → is_preview c ≡ false
    → Silent concern c o s
unfolding book_step
others_silent concern c o {w} s r m t u =
    let j = reached_simulation r in
    let e = made_seen m ∙ (call_agrees c o (expected r) w j).0 in
    rw e (silent concern o (expected r) j.since c (rw e at t) u)
