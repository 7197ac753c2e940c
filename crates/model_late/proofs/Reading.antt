-- What a watcher reads of an accepted quote: the changes from its list before to its list after.
use mathlib.Core.Path.{◌≡◌, refl, ap, ap₂, ◌∙◌}
use mathlib.Core.Logic.{◌⊎◌, inl, inr}
use Prim.Native.Nat.{ℕ, suc, ◌≤◌, ◌<◌}
use native.Mathlib.Nat.{le_refl}
use native.Mathlib.Omega.{arith}
use mathlib.Core.Bool.{Bool, true, false, ◌&&◌, cond}
use mathlib.Core.List.{List, [], ◌∷◌, ◌++◌, map, append-nil}
use lib.Dec.{eqb}
use lib.ListN.{length, drop}
use lib.Seq.{take-append_seam}
use borrow.Author.Tests.{eqb-true, eqb-false, eq-eqb, leb-false}
use Rattle.lists.specs.Lists.{any, head_or, flat, contains, rising, laid}
use Rattle.lists.proofs.Booleans.{both, either, clash, refute, and_left, or_left, or_right}
use Rattle.lists.proofs.Filters.{flat_append, map-append}
use Rattle.lists.proofs.Rising.{Rises, rising_cons, rising_above}
use Rattle.refusals.specs.Refusals.{granted}
use Rattle.refusals.proofs.Numbers.{zero_passed}
use Rattle.head.specs.declared.Desk.{Desk}
use Rattle.head.specs.declared.Desk.TheVariants.{One, Two}
use Rattle.head.specs.Heads.{last_position}
use Rattle.head.specs.Desks.{desk_number, desk_unit, desk_in, size_in, watch_of}
use Rattle.frames.specs.declared.Message.{Message}
use Rattle.model.specs.Changes.{leave_kind_of, join_kind_of, leave, join, pair_leave, pair_join, missing, changes_by, changes, all_changes, pair_changes, frames}
use Rattle.model.specs.Shares.{of_desk}
use Rattle.model.specs.Reference.{Reference, newest, skyline_of, past_of, pair_of, with_quote, tells, reference_step}
use Rattle.model.specs.Book.{is_watch}
use Rattle.model.specs.Calls.{Call, Open, Quote, Look, Watch, End, Past, Pair, Unpair, Due, Preview, Both, Outputs, Seen, Expected, lengths_of, expected_step}
use Rattle.model_watcher.specs.Watcher.{Follower, OfSize, OfPair, sized_for, watched_for, list_for}
use Rattle.model.proofs.Both.{both_taken}
use Rattle.model.proofs.Desks.{size_of_watch, watch_own, watch_desk, highest}
use Rattle.model.proofs.Simulation.{Bounded, in_unit, in_pair_range}
use Rattle.model_watcher.proofs.Applying.{same_size, sized_once}
use Rattle.model_watcher.proofs.ReadBack.{Sent, read_back}
use Rattle.model_watcher.proofs.Following.{sent_watch, sent_pairing, sent_quote}
use Rattle.model_late.specs.Shift.{ListChange, Leaves, Joins, list_changes}
use Rattle.model_late.specs.Feeding.{offers, change_by, sized_change, paired_change, change_for, changes_among, changes_for}
use Rattle.model_late.proofs.Feeding.{answered}

-- ---- messages

among_append : (f : Follower) (ms ns : List Message) → changes_among f (ms ++ ns) ≡ changes_among f ms ++ changes_among f ns
unfolding changes_among
among_append f ms ns = ap flat (map-append (change_for f) ms ns) ∙ flat_append (map (change_for f) ms) (map (change_for f) ns)

module _ (f : Follower) (message : ℕ → Message) where
  -- messages that are each a change of the watcher's list
  among_own : (change : ℕ → ListChange) → ((p : ℕ) → change_for f (message p) ≡ change p ∷ []) → (l : List ℕ) → changes_among f (map message l) ≡ map change l
  unfolding changes_among flat
  among_own change e [] = refl
  among_own change e (p ∷ l) = rw (e p) (ap (λ (r : List ListChange). change p ∷ r) (among_own change e l))

  -- messages of which none is
  among_none : ((p : ℕ) → change_for f (message p) ≡ []) → (l : List ℕ) → changes_among f (map message l) ≡ []
  unfolding changes_among flat
  among_none e [] = refl
  among_none e (p ∷ l) = rw (e p) (among_none e l)

module _ (f : Follower) (leaves joins : ℕ → Message) (before after : List ℕ) where
  -- the changes of its list
  own_changes : ((p : ℕ) → change_for f (leaves p) ≡ Leaves p ∷ []) → ((p : ℕ) → change_for f (joins p) ≡ Joins p ∷ [])
      → changes_among f (changes_by leaves joins before after) ≡ list_changes before after
  unfolding changes_by list_changes
  own_changes e g =
      among_append f (map leaves (missing before after)) (map joins (missing after before))
      ∙ ap₂ {C = List ListChange} (λ (x y : List ListChange). x ++ y)
      (among_own f leaves Leaves e (missing before after)) (among_own f joins Joins g (missing after before))

  -- those of another's
  other_changes : ((p : ℕ) → change_for f (leaves p) ≡ []) → ((p : ℕ) → change_for f (joins p) ≡ []) → changes_among f (changes_by leaves joins before after) ≡ []
  unfolding changes_by
  other_changes e g =
      among_append f (map leaves (missing before after)) (map joins (missing after before))
      ∙ ap₂ {C = List ListChange} (λ (x y : List ListChange). x ++ y)
      (among_none f leaves e (missing before after)) (among_none f joins g (missing after before))

-- ---- whose changes are whose

-- the kinds of a desk's changes are the desk's
own_kinds : (desk : Desk) (p : ℕ)
    → (change_by (leave_kind_of (desk_number desk)) (join_kind_of (desk_number desk)) (leave_kind_of (desk_number desk)) p ≡ Leaves p ∷ [])
    × (change_by (leave_kind_of (desk_number desk)) (join_kind_of (desk_number desk)) (join_kind_of (desk_number desk)) p ≡ Joins p ∷ [])
unfolding change_by leave_kind_of join_kind_of
own_kinds One p = (refl, refl)
own_kinds Two p = (refl, refl)

-- and not another's
other_kinds : (desk : Desk) (d : ℕ) → (d ≡ 1) ⊎ (d ≡ 2) → eqb d (desk_number desk) ≡ false → (p : ℕ)
    → (change_by (leave_kind_of (desk_number desk)) (join_kind_of (desk_number desk)) (leave_kind_of d) p ≡ [])
    × (change_by (leave_kind_of (desk_number desk)) (join_kind_of (desk_number desk)) (join_kind_of d) p ≡ [])
unfolding change_by leave_kind_of join_kind_of
other_kinds One d (inl e) f p = absurd (eqb-false d 1 f e)
other_kinds One d (inr e) f p = rw e (refl, refl)
other_kinds Two d (inl e) f p = rw e (refl, refl)
other_kinds Two d (inr e) f p = absurd (eqb-false d 2 f e)

module _ (desk : Desk) (n w : ℕ) where
  -- the watcher of a desk's n
  abbrev own : Follower
  own = OfSize desk n

  -- the changes of its watch
  mine_read : sized_for own w ≡ true → (p : ℕ) → (change_for own (leave w p) ≡ Leaves p ∷ []) × (change_for own (join w p) ≡ Joins p ∷ [])
  unfolding change_for sized_change sized_for of_desk
  mine_read mine p =
      let d : desk_in w ≡ desk_number desk = eqb-true (desk_in w) (desk_number desk) (and_left (of_desk desk w) (eqb (size_in w) n) mine) in
      rw (same_size desk n w mine, d) (own_kinds desk p)

  -- those of another watch
  other_read : (N : ℕ) → is_watch N w ≡ true → sized_for own w ≡ false → (p : ℕ) → (change_for own (leave w p) ≡ []) × (change_for own (join w p) ≡ [])
  unfolding change_for sized_change sized_for of_desk
  other_read N fine other p = go (eqb (size_in w) n) other
    where
      fails : (b : Bool) → b && true ≡ false → b ≡ false
      fails true e = e
      fails false e = refl

      go : (b : Bool) → of_desk desk w && b ≡ false
          → (cond b (change_by (leave_kind_of (desk_number desk)) (join_kind_of (desk_number desk)) (leave_kind_of (desk_in w)) p) [] ≡ [])
          × (cond b (change_by (leave_kind_of (desk_number desk)) (join_kind_of (desk_number desk)) (join_kind_of (desk_in w)) p) [] ≡ [])
      go true e = other_kinds desk (desk_in w) (watch_desk N w fine) (fails (of_desk desk w) e) p
      go false e = (refl, refl)

-- a desk's watch of n is its watcher's
pub sized_own : (desk : Desk) (n : ℕ) → n < desk_unit → sized_for (OfSize desk n) (watch_of desk n) ≡ true
unfolding sized_for
sized_own desk n h =
    both (of_desk desk (watch_of desk n)) (eqb (size_in (watch_of desk n)) n) (watch_own desk n h) (eq-eqb (size_in (watch_of desk n)) n (size_of_watch desk n h))

-- ---- the changes of every watch, and those of the pair

module _ (before after : ℕ → List ℕ) where
  -- of watches that are all another's
  none_among : (f : Follower) (watched : List ℕ)
      → ((w : ℕ) → contains w watched ≡ true → (p : ℕ) → (change_for f (leave w p) ≡ []) × (change_for f (join w p) ≡ []))
      → changes_among f (all_changes watched before after) ≡ []
  unfolding all_changes changes flat contains any
  none_among f [] e = unfold changes_among in refl
  none_among f (w ∷ ws) e =
      let first = e w (or_left (eqb w w) (contains w ws) (eq-eqb w w refl)) in
      among_append f (changes w (before (size_in w)) (after (size_in w))) (all_changes ws before after)
      ∙ rw (other_changes f (leave w) (join w) (before (size_in w)) (after (size_in w)) (λ p. (first p).0) (λ p. (first p).1))
      (none_among f ws (λ v t. e v (or_right (eqb v w) (contains v ws) t)))

  -- of watches that rise, of which one is its
  one_among : (desk : Desk) (n N a b : ℕ) (watched : List ℕ) → rising a b watched ≡ true → ((w : ℕ) → contains w watched ≡ true → is_watch N w ≡ true)
      → any (sized_for (OfSize desk n)) watched ≡ true → changes_among (OfSize desk n) (all_changes watched before after) ≡ list_changes (before n) (after n)
  unfolding all_changes changes flat contains any
  one_among desk n N a b [] r each t = absurd (clash false t refl)
  one_among desk n N a b (w ∷ ws) r each t =
      let u = rising_cons a b w ws r in
      among_append (OfSize desk n) (changes w (before (size_in w)) (after (size_in w))) (all_changes ws before after)
      ∙ pick (either (sized_for (OfSize desk n) w)) u (λ h. one_among desk n N (suc w) b ws u.rest rest h)
    where
      rest : (v : ℕ) → contains v ws ≡ true → is_watch N v ≡ true
      rest v s = each v (or_right (eqb v w) (contains v ws) s)

      pick : (sized_for (OfSize desk n) w ≡ true) ⊎ (sized_for (OfSize desk n) w ≡ false) → Rises a b w ws
          → (any (sized_for (OfSize desk n)) ws ≡ true → changes_among (OfSize desk n) (all_changes ws before after) ≡ list_changes (before n) (after n))
          → changes_among (OfSize desk n) (changes w (before (size_in w)) (after (size_in w))) ++ changes_among (OfSize desk n) (all_changes ws before after)
          ≡ list_changes (before n) (after n)
      pick (inl s) u more =
          rw (
            eqb-true (size_in w) n (same_size desk n w s),
            own_changes (OfSize desk n) (leave w) (join w) (before n) (after n) (λ p. (mine_read desk n w s p).0) (λ p. (mine_read desk n w s p).1),
            none_among (OfSize desk n) ws (λ v i. other_read desk n v N (rest v i) (refute (sized_for (OfSize desk n) v)
                (λ j. clash (contains v ws) i (rw (sized_once desk n v w j s) (rising_above (suc w) b w ws (le_refl (suc w)) u.rest))))),
          )
          (append-nil (list_changes (before n) (after n)))
      pick (inr s) u more =
          let fine = each w (or_left (eqb w w) (contains w ws) (eq-eqb w w refl)) in
          rw (other_changes (OfSize desk n) (leave w) (join w) (before (size_in w)) (after (size_in w))
          (λ p. (other_read desk n w N fine s p).0) (λ p. (other_read desk n w N fine s p).1))
          (more (rw s at t))

-- ---- an accepted quote

-- frames at the start of an output are read as their messages
frames_read : (f : Follower) (ms : List Message) → Sent ms → (seen : Seen) (before : List ℕ)
    → seen.outcome.count ≡ length (frames ms) → seen.outputs.bytes ≡ laid (frames ms) before → changes_for f seen ≡ changes_among f ms
unfolding changes_for laid
frames_read f ms sent seen before c o =
    rw (c, o, take-append_seam (frames ms) (drop (length (frames ms)) before))
    (ap (changes_among f) (read_back ms sent [] (length (frames ms)) (le_refl (length (frames ms)))))

-- the changes among those of all watches and of the pair, of a watcher whose list is watched
quote_changes_lem : (f : Follower) (s : Reference) → Bounded s → (x : List ℕ) → watched_for f s ≡ true
    → changes_among f (all_changes s.watched (skyline_of s) (skyline_of (with_quote s x)) ++ pair_changes (pair_of s) (pair_of (with_quote s x)))
    ≡ list_changes (list_for f s) (list_for f (with_quote s x))
unfolding watched_for list_for pair_changes change_for sized_change paired_change change_by
quote_changes_lem (OfSize desk n) s ok x t =
    among_append (OfSize desk n) (all_changes s.watched (skyline_of s) (skyline_of (with_quote s x))) (pair_changes (pair_of s) (pair_of (with_quote s x)))
    ∙ rw (
      one_among (skyline_of s) (skyline_of (with_quote s x)) desk n s.capacity 1 highest s.watched ok.watches.risen ok.watches.each t,
      other_changes (OfSize desk n) pair_leave pair_join (pair_of s) (pair_of (with_quote s x)) (λ p. refl) (λ p. refl),
    )
    (append-nil (list_changes (skyline_of s n) (skyline_of (with_quote s x) n)))
quote_changes_lem OfPair s ok x t =
    among_append OfPair (all_changes s.watched (skyline_of s) (skyline_of (with_quote s x))) (pair_changes (pair_of s) (pair_of (with_quote s x)))
    ∙ rw (
      none_among (skyline_of s) (skyline_of (with_quote s x)) OfPair s.watched (λ w i p. (refl, refl)),
      own_changes OfPair pair_leave pair_join (pair_of s) (pair_of (with_quote s x)) (λ p. refl) (λ p. refl),
    )

-- what a watcher whose list is watched reads of a call that writes the changes of a quote
quote_told_lem : (f : Follower) (s : Reference) → Bounded s → (x : List ℕ) → newest s < last_position → watched_for f s ≡ true → (seen : Seen) (before : List ℕ)
    → let written = frames (all_changes s.watched (skyline_of s) (skyline_of (with_quote s x)) ++ pair_changes (pair_of s) (pair_of (with_quote s x))) in
    seen.outcome.count ≡ length written → seen.outputs.bytes ≡ laid written before
    → changes_for f seen ≡ list_changes (list_for f s) (list_for f (with_quote s x))
quote_told_lem f s ok x room t seen before c o = frames_read f _ (sent_quote s ok x room) seen before c o ∙ quote_changes_lem f s ok x t

-- so of an accepted quote
quote_read : (f : Follower) (o : Outputs) (k : Expected) → Bounded k.reference → (x : List ℕ) → answered o k (Quote x) ≡ 0
    → watched_for f k.reference ≡ true
    → changes_for f (expected_step (Quote x) o k).0 ≡ list_changes (list_for f k.reference) (list_for f (with_quote k.reference x))
unfolding expected_step reference_step tells lengths_of granted
quote_read f o k ok x e t =
    let room = leb-false last_position (newest k.reference) (zero_passed _ _ _ (zero_passed _ _ _ (zero_passed _ _ _ e).1).1).0 in
    quote_told_lem f k.reference ok x room t (expected_step (Quote x) o k).0 o.bytes (rw e) (rw e)

-- and of one with a look behind it, in one, whose frames are the quote's
both_read : (f : Follower) (o : Outputs) (k : Expected) → Bounded k.reference → (x : List ℕ) (n : ℕ) → answered o k (Both x n) ≡ 0
    → watched_for f k.reference ≡ true
    → changes_for f (expected_step (Both x n) o k).0 ≡ list_changes (list_for f k.reference) (list_for f (with_quote k.reference x))
unfolding expected_step changes_for
both_read f o k ok x n e t =
    let taken = both_taken x n (lengths_of k.lent o) k.reference e in
    rw (taken.count, taken.bytes) (quote_read f o k ok x taken.quote_number t)

-- a call that offers none offers not one
offers_one : (x : List ℕ) → ◌≡◌ {A = List (List ℕ)} [] (x ∷ []) → ⊥
offers_one x e = let n : ◌≡◌ {A = ℕ} 0 1 = ap length e in omega arith

-- the quote that is offered is the one that is taken
offered_changes : (f : Follower) (s : Reference) (y x : List ℕ) → ◌≡◌ {A = List (List ℕ)} (y ∷ []) (x ∷ [])
    → list_changes (list_for f s) (list_for f (with_quote s y)) ≡ list_changes (list_for f s) (list_for f (with_quote s x))
unfolding head_or
offered_changes f s y x h = ap (λ (q : List ℕ). list_changes (list_for f s) (list_for f (with_quote s q))) (ap (head_or []) h)

-- and of every accepted call that takes a quote
pub offer_read : (f : Follower) (c : Call) (o : Outputs) (k : Expected) → Bounded k.reference → (x : List ℕ) → offers c ≡ x ∷ [] → answered o k c ≡ 0
    → watched_for f k.reference ≡ true
    → changes_for f (expected_step c o k).0 ≡ list_changes (list_for f k.reference) (list_for f (with_quote k.reference x))
unfolding offers
offer_read f (Open d N directions) o k ok x h e t = absurd (offers_one x h)
offer_read f (Quote y) o k ok x h e t = quote_read f o k ok y e t ∙ offered_changes f k.reference y x h
offer_read f (Look n) o k ok x h e t = absurd (offers_one x h)
offer_read f (Watch desk n) o k ok x h e t = absurd (offers_one x h)
offer_read f (End desk n) o k ok x h e t = absurd (offers_one x h)
offer_read f (Past n1 n2) o k ok x h e t = absurd (offers_one x h)
offer_read f (Pair n1 n2) o k ok x h e t = absurd (offers_one x h)
offer_read f Unpair o k ok x h e t = absurd (offers_one x h)
offer_read f Due o k ok x h e t = absurd (offers_one x h)
offer_read f (Preview y) o k ok x h e t = absurd (offers_one x h)
offer_read f (Both y n) o k ok x h e t = both_read f o k ok y n e t ∙ offered_changes f k.reference y x h

-- ---- an accepted watch

-- the joins of a watch, of its watcher
pub watch_read : (desk : Desk) (n : ℕ) (o : Outputs) (k : Expected) → Bounded k.reference → answered o k (Watch desk n) ≡ 0
    → changes_for (OfSize desk n) (expected_step (Watch desk n) o k).0 ≡ map Joins (skyline_of k.reference n)
unfolding expected_step reference_step tells lengths_of granted
watch_read desk n o k ok e =
    let s = k.reference in
    let inside = (zero_passed _ _ _ (zero_passed _ _ _ e).1).0 in
    let mine = sized_own desk n (in_unit s n ok inside) in
    frames_read (OfSize desk n) (map (join (watch_of desk n)) (skyline_of s n)) (sent_watch s ok desk n inside)
    (expected_step (Watch desk n) o k).0 o.bytes (rw e) (rw e)
    ∙ among_own (OfSize desk n) (join (watch_of desk n)) Joins (λ p. (mine_read desk n (watch_of desk n) mine p).1) (skyline_of s n)

-- those of the pair, whose n1 is not above n2
pub pair_read : (n1 n2 : ℕ) (o : Outputs) (k : Expected) → Bounded k.reference → answered o k (Pair n1 n2) ≡ 0
    → (n1 ≤ n2) × (changes_for OfPair (expected_step (Pair n1 n2) o k).0 ≡ map Joins (past_of k.reference n1 n2))
unfolding expected_step reference_step tells lengths_of granted change_for paired_change change_by
pair_read n1 n2 o k ok e =
    let s = k.reference in
    let a = zero_passed _ _ _ (zero_passed _ _ _ e).1 in
    let within = in_pair_range s n1 n2 a.0 (zero_passed _ _ _ a.1).0 in
    let two = within.two in (
      within.order,
      frames_read OfPair (map pair_join (past_of s n1 n2)) (sent_pairing s ok n1 n2 (omega arith)) (expected_step (Pair n1 n2) o k).0 o.bytes (rw e) (rw e)
          ∙ among_own OfPair pair_join Joins (λ p. refl) (past_of s n1 n2),
    )
