-- A watcher that reads what the reference model writes holds, after each call, what the reference model says.
use mathlib.Core.Path.{◌≡◌, refl, sym, ap, ◌∙◌}
use mathlib.Core.Logic.{◌⊎◌, inl, inr}
use Prim.Native.Nat.{ℕ, zero, suc, ◌+◌, ◌-◌, ◌≤◌, ◌<◌}
use native.Mathlib.Nat.{le_refl}
use native.Mathlib.Omega.{arith}
use mathlib.Core.Bool.{Bool, true, false, ◌||◌, not, cond}
use mathlib.Core.List.{List, [], ◌∷◌, ◌++◌, map}
use lib.Dec.{ltb, eqb}
use lib.ListN.{length, drop, length-append}
use lib.Seq.{take-append_seam}
use borrow.Author.Tests.{leb-false, eqb-true, eqb-false, eq-eqb, ne_eqb, not-true}
use Rattle.lists.specs.Lists.{keep, filter, any, rising, insert, without, laid}
use Rattle.lists.proofs.Booleans.{clash, refute, or_swap}
use Rattle.lists.proofs.Members.{none_mem, of_filter}
use Rattle.skyline.specs.Skyline.{window_start}
use Rattle.skyline.proofs.Free.{skyline_rises}
use Rattle.refusals.specs.Refusals.{granted}
use Rattle.head.specs.Heads.{last_position}
use Rattle.head.specs.declared.Desk.{Desk}
use Rattle.head.specs.Desks.{size_in, watch_of}
use Rattle.refusals.proofs.Numbers.{zero_passed}
use Rattle.frames.specs.declared.Message.{Message}
use Rattle.frames.specs.Frames.{messages_from}
use Rattle.model.specs.Changes.{join, pair_join, all_changes, pair_changes, frames}
use Rattle.model.specs.Reference.{Reference, newest, over, skyline_of, past_of, paired, pair_of, outside, outside_pair, with_quote, with_watched, with_pair_of, opening, tells, foretells, reference_step}
use Rattle.model.specs.Book.{is_watch}
use Rattle.model.specs.Calls.{Call, Open, Quote, Look, Watch, End, Past, Pair, Unpair, Due, Preview, Both, Outputs, Lent, Seen, lengths_of, expected_step}
use Rattle.model_watcher.specs.Watcher.{Follower, OfSize, OfPair, Held, Nothing, Holding, applied_all, reads, sized_for, paired_for, watcher_step, watched_for, list_for, held_by}
use Rattle.model.proofs.Both.{Taken, Left, both_told}
use Rattle.model.proofs.Desks.{size_of_watch, watch_parts, watch_is}
use Rattle.model.proofs.Simulation.{Bounded, in_range, in_unit, in_pair_range}
use Rattle.model_watcher.proofs.Applying.{PutsIn, Ignores, first_applied, unapplied, same_size, size_puts, size_keeps_join, sized_once, size_keeps_pair_join, pair_keeps_join, pair_puts, size_led, pair_led}
use Rattle.model_watcher.proofs.ReadBack.{Sent, read_back, sent_joins, sent_pair_joins, sent_both}

-- ---- what is read

module _ (f : Follower) where
  -- what is held after messages
  held_after : List Message → Held → Held
  held_after ms Nothing = Nothing
  held_after ms (Holding held) = Holding (applied_all f held ms)

  -- frames at the start of an output are read as their messages
  reads_frames : (ms : List Message) → Sent ms → (seen : Seen) (before : List ℕ)
      → seen.outcome.count ≡ length (frames ms) → seen.outputs.bytes ≡ laid (frames ms) before
      → (held : Held) → reads f seen held ≡ held_after ms held
  unfolding held_after reads laid
  reads_frames ms s seen before c o Nothing = refl
  reads_frames ms s seen before c o (Holding held) =
      rw (c, o, take-append_seam (frames ms) (drop (length (frames ms)) before))
      (ap (λ (l : List Message). Holding (applied_all f held l)) (read_back ms s [] (length (frames ms)) (le_refl (length (frames ms)))))

  -- where nothing is written, nothing changes
  reads_nothing : (seen : Seen) → seen.outcome.count ≡ 0 → (held : Held) → reads f seen held ≡ held
  unfolding reads messages_from applied_all
  reads_nothing seen c Nothing = refl
  reads_nothing seen c (Holding held) = rw c

  -- calls that wrote the same are read alike
  reads_alike : (one other : Seen) → one.outcome.count ≡ other.outcome.count → one.outputs.bytes ≡ other.outputs.bytes
      → (held : Held) → reads f one held ≡ reads f other held
  unfolding reads
  reads_alike one other c b Nothing = refl
  reads_alike one other c b (Holding held) = rw (c, b)

  -- messages that lead from the list before to the list after
  held_on : (s next : Reference) (ms : List Message) → watched_for f next ≡ watched_for f s
      → (watched_for f s ≡ true → applied_all f (list_for f s) ms ≡ list_for f next) → held_after ms (held_by f s) ≡ held_by f next
  unfolding held_after held_by
  held_on s next ms e g = rw e (go (watched_for f s) g)
    where
      go : (b : Bool) → (b ≡ true → applied_all f (list_for f s) ms ≡ list_for f next)
          → held_after ms (cond b (Holding (list_for f s)) Nothing) ≡ cond b (Holding (list_for f next)) Nothing
      go true h = ap Holding (h refl)
      go false h = refl

-- ---- the messages of the calls have frames

-- a skyline rises, and so does the past list of the pair
list_rises : (s : Reference) (n hi : ℕ) → newest s ≤ hi → rising 1 hi (skyline_of s n) ≡ true
unfolding skyline_of window_start
list_rises s n hi h = skyline_rises (over s) (window_start (newest s) n) (newest s) 1 hi (omega arith) h

past_rises : (s : Reference) (n1 n2 hi : ℕ) → 1 ≤ n1 → newest s ≤ hi → rising 1 hi (past_of s n1 n2) ≡ true
unfolding past_of window_start
past_rises s n1 n2 hi k h = skyline_rises (over s) (window_start (newest s) n2) (newest s + 1 - n1) 1 hi (omega arith) (omega arith)

pair_rises : (s : Reference) (hi : ℕ) → newest s ≤ hi → rising 1 hi (pair_of s) ≡ true
unfolding pair_of paired rising
pair_rises s hi h = go (paired s) refl
  where
    go : (b : Bool) → paired s ≡ b → rising 1 hi (cond b (past_of s s.n1 s.n2) []) ≡ true
    go true e = let n = eqb-false s.n1 0 (not-true (eqb s.n1 0) e) in past_rises s s.n1 s.n2 hi (omega arith) h
    go false e = refl

module _ (s : Reference) (ok : Bounded s) where
  -- every skyline rises
  before_rises : (n : ℕ) → rising 1 last_position (skyline_of s n) ≡ true
  before_rises n = list_rises s n last_position ok.short

  -- the joins of a watch have frames
  pub sent_watch : (desk : Desk) (n : ℕ) → outside s n ≡ false → Sent (map (join (watch_of desk n)) (skyline_of s n))
  sent_watch desk n e =
      let r = in_range s n e in
      let small : size_in (watch_of desk n) < 65536 = omega (arith, r.1, ok.small, size_of_watch desk n (in_unit s n ok e)) in
      sent_joins 1 last_position (omega arith) (watch_of desk n) (skyline_of s n) small (before_rises n)

  -- so have those of a watch of the pair
  pub sent_pairing : (n1 n2 : ℕ) → 1 ≤ n1 → Sent (map pair_join (past_of s n1 n2))
  sent_pairing n1 n2 h = sent_pair_joins 1 last_position (omega arith) (past_of s n1 n2) (past_rises s n1 n2 last_position h ok.short)

  module _ (x : List ℕ) (room : newest s < last_position) where
    short_after : newest (with_quote s x) ≤ last_position
    unfolding with_quote
    short_after = omega (arith, length-append s.quotes (x ∷ []))

    -- every skyline after a quote rises
    after_rises : (n : ℕ) → rising 1 last_position (skyline_of (with_quote s x) n) ≡ true
    after_rises n = list_rises (with_quote s x) n last_position short_after

    -- the changes of a quote have frames
    pub sent_quote : Sent (all_changes s.watched (skyline_of s) (skyline_of (with_quote s x)) ++ pair_changes (pair_of s) (pair_of (with_quote s x)))
    sent_quote =
        sent_both 1 last_position (omega arith) (skyline_of s) (skyline_of (with_quote s x)) before_rises after_rises
        s.watched (λ w t. omega (arith, (watch_parts s.capacity w (ok.watches.each w t)).most_size, ok.small))
        (pair_of s) (pair_of (with_quote s x)) (pair_rises s last_position ok.short) (pair_rises (with_quote s x) last_position short_after)

    -- the changes of a quote, and what is watched after it
    abbrev messages : List Message
    messages = all_changes s.watched (skyline_of s) (skyline_of (with_quote s x)) ++ pair_changes (pair_of s) (pair_of (with_quote s x))

    quote_keeps : (f : Follower) → watched_for f (with_quote s x) ≡ watched_for f s
    unfolding watched_for with_quote paired
    quote_keeps (OfSize desk n) = refl
    quote_keeps OfPair = refl

    -- they lead each watcher from the list before to the list after
    quote_leads : (f : Follower) → watched_for f s ≡ true → applied_all f (list_for f s) messages ≡ list_for f (with_quote s x)
    unfolding watched_for list_for
    quote_leads (OfSize desk n) t =
        size_led 1 last_position s.watched (skyline_of s) (skyline_of (with_quote s x)) (pair_of s) (pair_of (with_quote s x))
        s.capacity desk n (before_rises n) (after_rises n) ok.watches t
    quote_leads OfPair t =
        pair_led 1 last_position s.watched (skyline_of s) (skyline_of (with_quote s x)) (pair_of s) (pair_of (with_quote s x))
        (pair_rises s last_position ok.short) (pair_rises (with_quote s x) last_position short_after)

    quote_moves : (f : Follower) → held_after f messages (held_by f s) ≡ held_by f (with_quote s x)
    quote_moves f = held_on f s (with_quote s x) messages (quote_keeps f) (quote_leads f)

-- ---- a watch begins

-- the model after an accepted watch that writes these joins of this list: if it is the watcher's, its list is watched and is this one, else
-- the watcher holds what it held
record Begins (f : Follower) (s : Reference) (own : Bool) (joins : ℕ → Message) (list : List ℕ) (next : Reference) : Type 0 where
  mine : own ≡ true → PutsIn f joins × (watched_for f next ≡ true) × (list_for f next ≡ list)
  others : own ≡ false → Ignores f joins × (watched_for f next ≡ watched_for f s) × (list_for f next ≡ list_for f s)

-- the watcher begins with the empty list and comes to hold its list; another holds what it held
begun : (f : Follower) (s : Reference) (own : Bool) (joins : ℕ → Message) (list : List ℕ) (next : Reference)
    → Begins f s own joins list next → rising 1 last_position list ≡ true
    → held_after f (map joins list) (cond own (Holding []) (held_by f s)) ≡ held_by f next
unfolding held_after held_by
begun f s true joins list next b r =
    let m = b.mine refl in
    rw (m.1, m.2) (ap Holding (first_applied 1 last_position f m.0 list r))
begun f s false joins list next b r =
    let m = b.others refl in
    held_on f s next (map joins list) m.1 (λ t. unapplied f m.0 list (list_for f s) ∙ sym m.2)

-- some watch passes a test, with one more
any_insert : (f : ℕ → Bool) (w : ℕ) (ws : List ℕ) → any f (insert w ws) ≡ f w || any f ws
unfolding insert any
any_insert f w [] = refl
any_insert f w (v ∷ vs) = go (ltb w v) (any_insert f w vs)
  where
    go : (b : Bool) → any f (insert w vs) ≡ f w || any f vs → any f (cond b (w ∷ v ∷ vs) (v ∷ insert w vs)) ≡ f w || (f v || any f vs)
    go true e = refl
    go false e = rw e (or_swap (f v) (f w) (any f vs))

-- and without one that does not pass it
any_without : (f : ℕ → Bool) (w : ℕ) (ws : List ℕ) → f w ≡ false → any f (without w ws) ≡ any f ws
unfolding without filter any
any_without f w [] e = refl
any_without f w (v ∷ vs) e = go (eqb w v) refl (any_without f w vs e)
  where
    go : (b : Bool) → eqb w v ≡ b → any f (without w vs) ≡ any f vs → any f (keep (not b) v (without w vs)) ≡ f v || any f vs
    go true s r = rw (← (eqb-true w v s), e) r
    go false s r = ap (λ (b : Bool). f v || b) r

-- where no two are one watcher's, none of its is left without it
none_without : (desk : Desk) (n w : ℕ) (ws : List ℕ) → sized_for (OfSize desk n) w ≡ true → any (sized_for (OfSize desk n)) (without w ws) ≡ false
unfolding without
none_without desk n w ws t =
    none_mem (sized_for (OfSize desk n)) (filter (λ y. not (eqb w y)) ws)
    (λ v m. refute (sized_for (OfSize desk n) v)
    (λ u. clash (not (eqb w v)) (of_filter (λ y. not (eqb w y)) v ws m).1 (rw (eq-eqb w v (sized_once desk n w v t u)))))

module _ (s : Reference) where
  -- a desk's watch of m
  watch_begins : (f : Follower) (w m : ℕ) → is_watch s.capacity w ≡ true → size_in w ≡ m
      → Begins f s (sized_for f w) (join w) (skyline_of s m) (with_watched s (insert w s.watched))
  unfolding sized_for watched_for list_for with_watched skyline_of pair_of past_of paired
  watch_begins (OfSize desk n) w m fine e = record {
    mine = λ t.
        let same : n ≡ m = sym (eqb-true (size_in w) n (same_size desk n w t)) ∙ e in
        (size_puts desk n w t, any_insert (sized_for (OfSize desk n)) w s.watched ∙ rw t, ap (skyline_of s) same);
    others = λ t. (size_keeps_join desk n s.capacity w fine t, any_insert (sized_for (OfSize desk n)) w s.watched ∙ rw t, refl);
  }
  watch_begins OfPair w m fine e = record { mine = λ t. absurd (clash (sized_for OfPair w) t refl); others = λ t. (pair_keeps_join w, refl, refl) }

  -- a watch of the pair
  pair_begins : (f : Follower) (n1 n2 : ℕ) → 1 ≤ n1 → Begins f s (paired_for f) pair_join (past_of s n1 n2) (with_pair_of s n1 n2)
  unfolding paired_for watched_for list_for with_pair_of skyline_of pair_of past_of paired
  pair_begins (OfSize desk n) n1 n2 h = record { mine = λ t. absurd (clash false t refl); others = λ t. (size_keeps_pair_join desk n, refl, refl) }
  pair_begins OfPair n1 n2 h = record {
    mine = λ t.
        let e = ne_eqb n1 0 (λ z. omega arith) in
        (pair_puts, rw e, rw e);
    others = λ t. absurd (clash true refl t);
  }

  -- an accepted opening ends every watch
  none_opened : (f : Follower) (d N directions : ℕ) → held_by f (opening d N directions) ≡ Nothing
  unfolding held_by watched_for opening any paired
  none_opened (OfSize desk n) d N directions = refl
  none_opened OfPair d N directions = refl

  -- an accepted end ends the watch
  end_drops : (f : Follower) (w : ℕ) → held_by f (with_watched s (without w s.watched)) ≡ cond (sized_for f w) Nothing (held_by f s)
  unfolding held_by sized_for watched_for list_for with_watched skyline_of pair_of past_of paired
  end_drops (OfSize desk n) w = go (sized_for (OfSize desk n) w) refl
    where
      go : (b : Bool) → sized_for (OfSize desk n) w ≡ b
          → cond (any (sized_for (OfSize desk n)) (without w s.watched)) (Holding (skyline_of s n)) Nothing
          ≡ cond b Nothing (cond (any (sized_for (OfSize desk n)) s.watched) (Holding (skyline_of s n)) Nothing)
      go true t = rw (none_without desk n w s.watched t)
      go false t = rw (any_without (sized_for (OfSize desk n)) w s.watched t)
  end_drops OfPair w = refl

  -- an accepted end of the pair ends the pair's
  unpair_drops : (f : Follower) → held_by f (with_pair_of s 0 0) ≡ cond (paired_for f) Nothing (held_by f s)
  unfolding held_by watched_for list_for paired_for with_pair_of skyline_of paired
  unpair_drops (OfSize desk n) = refl
  unpair_drops OfPair = refl

-- ---- the calls

module _ (f : Follower) (s : Reference) (l : Lent) (ok : Bounded s) (o : Outputs) where
  -- the watcher after a call of the reference model
  abbrev Follows : Call → Type 0
  Follows c = let one = expected_step c o (record { reference = s; lent = l }) in watcher_step f c one.0 (held_by f s) ≡ held_by f one.1.reference

  -- the number of the reference model's answer
  abbrev answered : Call → ℕ
  answered c = (expected_step c o (record { reference = s; lent = l })).0.outcome.number

  -- what is held where only an accepted call changes it
  granted_held : (a : ℕ) (next : Reference) (held : Held) → held ≡ held_by f next → granted a held (held_by f s) ≡ held_by f (granted a next s)
  unfolding granted
  granted_held zero next held e = e
  granted_held (suc k) next held e = refl

  opens : (d N directions : ℕ) → Follows (Open d N directions)
  unfolding expected_step reference_step tells lengths_of watcher_step
  opens d N directions = granted_held (answered (Open d N directions)) (opening d N directions) Nothing (sym (none_opened s f d N directions))

  ends : (desk : Desk) (m : ℕ) → Follows (End desk m)
  unfolding expected_step reference_step tells lengths_of watcher_step
  ends desk m =
      let w = watch_of desk m in
      granted_held (answered (End desk m)) (with_watched s (without w s.watched)) (cond (sized_for f w) Nothing (held_by f s)) (sym (end_drops s f w))

  unpairs : Follows Unpair
  unfolding expected_step reference_step tells lengths_of watcher_step
  unpairs = granted_held (answered Unpair) (with_pair_of s 0 0) (cond (paired_for f) Nothing (held_by f s)) (sym (unpair_drops s f))

  -- a look changes nothing, now, back or at what is due
  still : (a : ℕ) → held_by f s ≡ held_by f (granted a s s)
  unfolding granted
  still zero = refl
  still (suc k) = refl

  looks : (m : ℕ) → Follows (Look m)
  unfolding expected_step reference_step tells lengths_of watcher_step
  looks m = still (answered (Look m))

  looks_back : (n1 n2 : ℕ) → Follows (Past n1 n2)
  unfolding expected_step reference_step tells lengths_of watcher_step
  looks_back n1 n2 = still (answered (Past n1 n2))

  looks_due : Follows Due
  unfolding expected_step reference_step tells lengths_of watcher_step
  looks_due = still (answered Due)

  -- nor does a preview, whose frames nobody applies
  previews : (x : List ℕ) → Follows (Preview x)
  unfolding expected_step reference_step foretells watcher_step
  previews x = refl

  -- the joins of an accepted watch are read
  watches : (desk : Desk) (m : ℕ) → Follows (Watch desk m)
  unfolding expected_step reference_step tells lengths_of watcher_step granted
  watches desk m = go (answered (Watch desk m)) refl
    where
      w : ℕ
      w = watch_of desk m

      go : (a : ℕ) → answered (Watch desk m) ≡ a → Follows (Watch desk m)
      go zero e =
          let inside = (zero_passed _ _ _ (zero_passed _ _ _ e).1).0 in
          let r = in_range s m inside in
          let small = in_unit s m ok inside in
          let begins = watch_begins s f w m (watch_is s.capacity desk m small r.0 r.1) (size_of_watch desk m small) in
          rw e (reads_frames f (map (join w) (skyline_of s m)) (sent_watch s ok desk m inside) _ o.bytes refl refl _
          ∙ begun f s (sized_for f w) (join w) (skyline_of s m) (with_watched s (insert w s.watched)) begins (before_rises s ok m))
      go (suc k) e = rw e (reads_nothing f _ refl (held_by f s))

  -- so are those of a watch of the pair
  pairs : (n1 n2 : ℕ) → Follows (Pair n1 n2)
  unfolding expected_step reference_step tells lengths_of watcher_step granted
  pairs n1 n2 = go (answered (Pair n1 n2)) refl
    where
      some : outside_pair s n1 n2 ≡ false → ltb n2 n1 ≡ false → 1 ≤ n1
      some e g = let two = (in_pair_range s n1 n2 e g).two in omega arith

      go : (a : ℕ) → answered (Pair n1 n2) ≡ a → Follows (Pair n1 n2)
      go zero e =
          let a = zero_passed _ _ _ (zero_passed _ _ _ e).1 in
          let h = some a.0 (zero_passed _ _ _ a.1).0 in
          rw e (reads_frames f (map pair_join (past_of s n1 n2)) (sent_pairing s ok n1 n2 h) _ o.bytes refl refl _
          ∙ begun f s (paired_for f) pair_join (past_of s n1 n2) (with_pair_of s n1 n2) (pair_begins s f n1 n2 h) (past_rises s n1 n2 last_position h ok.short))
      go (suc k) e = rw e (reads_nothing f _ refl (held_by f s))

  -- and the changes of an accepted quote
  quotes : (x : List ℕ) → Follows (Quote x)
  unfolding expected_step reference_step tells lengths_of watcher_step granted
  quotes x = go (answered (Quote x)) refl
    where
      go : (a : ℕ) → answered (Quote x) ≡ a → Follows (Quote x)
      go zero e =
          let room = leb-false last_position (newest s) (zero_passed _ _ _ (zero_passed _ _ _ (zero_passed _ _ _ e).1).1).0 in
          rw e (reads_frames f (messages s ok x room) (sent_quote s ok x room) _ o.bytes refl refl (held_by f s) ∙ quote_moves s ok x room f)
      go (suc k) e = rw e (reads_nothing f _ refl (held_by f s))

  -- and those of one with a look behind it, in one, which are the quote's
  two_in_one : (x : List ℕ) (n : ℕ) → Follows (Both x n)
  unfolding expected_step watcher_step
  two_in_one x n = go (both_told x n (lengths_of l o) s)
    where
      go : Taken x n (lengths_of l o) s ⊎ Left x n (lengths_of l o) s → Follows (Both x n)
      go (inl t) = rw t.next (reads_alike f _ _ t.count (ap (λ (bs : List ℕ). laid bs o.bytes) t.bytes) (held_by f s) ∙ (rw t.quote_next at (quotes x)))
      go (inr t) = rw t.next (reads_nothing f _ t.count (held_by f s))

  -- after each call the watcher holds what it is to hold
  pub follows : (c : Call) → Follows c
  follows (Open d N directions) = opens d N directions
  follows (Quote x) = quotes x
  follows (Look m) = looks m
  follows (Watch desk m) = watches desk m
  follows (End desk m) = ends desk m
  follows (Past n1 n2) = looks_back n1 n2
  follows (Pair n1 n2) = pairs n1 n2
  follows Unpair = unpairs
  follows Due = looks_due
  follows (Preview x) = previews x
  follows (Both x n) = two_in_one x n
