-- The join over whole runs: what ends with 'end' is the merge of two whole tapes, sound tapes are never refused, and every run ends.
use mathlib.Core.Path.{◌≡◌, refl, sym, ap, ap₂, ◌∙◌}
use mathlib.Core.Logic.{◌⊎◌, inl, inr}
use Prim.Native.Nat.{ℕ, zero, suc, ◌+◌, ◌-◌, ◌*◌, ◌≤◌, ◌<◌}
use native.Mathlib.Omega.{arith}
use mathlib.Core.Bool.{Bool, true, false, cond}
use mathlib.Core.List.{List, [], ◌∷◌, ◌++◌, map, append-nil}
use lib.Dec.{ltb}
use lib.ListN.{length, take, drop, length-append, length-drop, take-append-drop, drop_of_length-le}
use lib.Seq.{drop-drop, drop-append_seam, take-append_seam, length-take-le}
use borrow.Author.Tests.{ltb-true, ltb-false}
use Rattle.lists.specs.Lists.{flat}
use Rattle.venue_tapes.specs.VenueTapes.{Ahead, pair, done, refuses, ahead_by, next}
use Rattle.venue_tapes.proofs.Glimpses.{sort_end, next_other}
use Rattle.venue_tapes.proofs.Pairs.{is_pair}
use Rattle.venue_join.specs.declared.Venue.{Venue}
use Rattle.venue_join.specs.Join.{Choice, of_first, of_second, at_ends, refused, chosen, venue, join_at, passed, part_by, part_at, end_number, answer_of, Joined}
use Rattle.venue_join.proofs.Joins.{Taken, was_chosen, took_first, took_second, end_at_ends, refusal_numbered, end_stays, refusal_stays}
use Rattle.venue_claims.specs.Merging.{StampedQuote, frames_of, InOrder, Whole, merge_at, merge}
use Rattle.venue_claims.specs.Runs.{Runs, stops, goes, Bytes, Merges, Ends}
use Rattle.venue_claims.proofs.Merges.{interleaved, not_falling, order_rises}
use Rattle.venue_claims.proofs.StampedQuotes.{next_written, quote_of, written}

-- ---- one call

-- a pair of this tape was handed back: it was moved past it, the other stays as it was
pub record Took (tape : List ℕ) (before after other other' : Venue) (part : List ℕ) : Type 0 where
  pub taken : Taken tape before after
  pub stays : other' ≡ other
  pub handed : part ≡ take (after.place - before.place) (drop before.place tape)

module _ (first second : List ℕ) {v w v' w' : Venue} {part : List ℕ} {answer : ℕ} (j : Joined first second v w part answer v' w') where
  abbrev choice : Choice
  choice = (join_at first second v w).choice

  of_first_lem : choice ≡ of_first → Took first v v' w w' part
  unfolding part_at part_by passed
  of_first_lem c =
      let r = took_first first second v w c in
      record { taken = rw j.first_left r.0; stays = j.second_left ∙ r.1; handed = j.handed ∙ rw (c, j.first_left) }

  of_second_lem : choice ≡ of_second → Took second w w' v v' part
  unfolding part_at part_by passed
  of_second_lem c =
      let r = took_second first second v w c in
      record { taken = rw j.second_left r.0; stays = j.first_left ∙ r.1; handed = j.handed ∙ rw (c, j.second_left) }

  -- where 0 is answered one of the two tapes' pairs was handed back
  pair_made : answer ≡ 0 → ((choice ≡ of_first) × Took first v v' w w' part) ⊎ ((choice ≡ of_second) × Took second w w' v v' part)
  unfolding answer_of
  pair_made zero-said = go choice refl
    where
      go : (c : Choice) → choice ≡ c → ((choice ≡ of_first) × Took first v v' w w' part) ⊎ ((choice ≡ of_second) × Took second w w' v v' part)
      go of_first e = inl (e, of_first_lem e)
      go of_second e = inr (e, of_second_lem e)
      go at_ends e = absurd (omega (arith, j.answered ∙ ap answer_of e))
      go (refused k) e = absurd (omega (arith, j.answered ∙ ap answer_of e, refusal_numbered first second v w e))

  -- where another number is, nothing is moved
  none_made : 1 ≤ answer → (v' ≡ v) × (w' ≡ w)
  unfolding answer_of
  none_made some = go choice refl
    where
      go : (c : Choice) → choice ≡ c → (v' ≡ v) × (w' ≡ w)
      go of_first e = absurd (omega (arith, j.answered ∙ ap answer_of e))
      go of_second e = absurd (omega (arith, j.answered ∙ ap answer_of e))
      go at_ends e = let r = end_stays first second v w e in (j.first_left ∙ r.0, j.second_left ∙ r.1)
      go (refused k) e = let r = refusal_stays first second v w k e in (j.first_left ∙ r.0, j.second_left ∙ r.1)

  -- 'end' is said at both ends
  end_made : answer ≡ end_number → (v.place ≡ length first) × (w.place ≡ length second)
  unfolding answer_of
  end_made said = go choice refl
    where
      go : (c : Choice) → choice ≡ c → (v.place ≡ length first) × (w.place ≡ length second)
      go of_first e = absurd (omega (arith, j.answered ∙ ap answer_of e))
      go of_second e = absurd (omega (arith, j.answered ∙ ap answer_of e))
      go at_ends e = end_at_ends first second v w e
      go (refused k) e = absurd (omega (arith, j.answered ∙ ap answer_of e, refusal_numbered first second v w e))

-- ---- a run that ends with 'end' has read whole tapes

-- a whole list of stamped quotes stands from a place on
pub record Rest (tape : List ℕ) (v : Venue) : Type 0 where
  pub quotes : List StampedQuote
  pub whole : Whole (drop v.place tape) v.last quotes

rest_none : (tape : List ℕ) (v : Venue) → v.place ≡ length tape → Rest tape v
unfolding flat
rest_none tape v e = record { quotes = []; whole = record { frames = drop_of_length-le tape {i = v.place} (omega arith); ordered = InOrder.none } }

rest_more : (tape : List ℕ) → Bytes tape → (v v' : Venue) → Taken tape v v' → Rest tape v' → Rest tape v
unfolding flat
rest_more tape bytes v v' t r =
    let p = is_pair tape v.place v.last t.has in
    let q = quote_of tape bytes v.place v.last v'.last v'.place p in
    let wr = written tape bytes v.place v.last v'.last v'.place p in
    record {
      quotes = q ∷ r.quotes;
      whole = record {
        frames = wr.bytes ∙ ap (λ (l : List ℕ). frames_of q ++ l) r.whole.frames;
        ordered = InOrder.next wr.fits wr.low wr.high r.whole.ordered;
      };
    }

module _ (first second : List ℕ) where
  whole_tapes : Bytes first → Bytes second → {v w v' w' : Venue} {parts : List (List ℕ)} {answer : ℕ} → Runs first second v w parts answer v' w'
      → answer ≡ end_number
      → Rest first v × Rest second w
  whole_tapes b c {v} {w} (stops j some) e = let r = end_made first second j e in (rest_none first v r.0, rest_none second w r.1)
  whole_tapes b c {v} {w} (goes {v' = v'} {w' = w'} {part = part} j run) e = go (pair_made first second j refl) (whole_tapes b c run e)
    where
      go : (((join_at first second v w).choice ≡ of_first) × Took first v v' w w' part) ⊎ (((join_at first second v w).choice ≡ of_second) × Took second w w' v v' part)
          → Rest first v' × Rest second w' → Rest first v × Rest second w
      go (inl t) r = (rest_more first b v v' t.1.taken r.0, rw (← t.1.stays) r.1)
      go (inr t) r = (rw (← t.1.stays) r.0, rest_more second c w w' t.1.taken r.1)

-- ---- sound tapes are never refused, and their merge is handed back

-- what a whole list of stamped quotes has next
ahead_of : ℕ → List StampedQuote → Ahead
ahead_of place [] = done
ahead_of place (q ∷ qs) = pair q.stamp (place + length (frames_of q))

next_whole : (tape : List ℕ) (v : Venue) (qs : List StampedQuote) → v.place ≤ length tape → Whole (drop v.place tape) v.last qs
    → next tape v.place v.last ≡ ahead_of v.place qs
unfolding ahead_of flat ahead_by
next_whole tape v [] h o =
    let there : v.place ≡ length tape = omega (arith, ap length o.frames, length-drop v.place tape) in
    sym (next_other tape v.place v.last (sort_end tape v.place there) refl refl)
next_whole tape v (q ∷ qs) h o = go o.ordered o.frames
  where
    before : List ℕ
    before = take v.place tape

    long : length before ≡ v.place
    long = length-take-le v.place tape h

    go : InOrder v.last (q ∷ qs) → drop v.place tape ≡ frames_of q ++ flat (map frames_of qs)
        → next tape v.place v.last ≡ pair q.stamp (v.place + length (frames_of q))
    go (InOrder.next fits low high rest) e =
        ap₂ (λ (l : List ℕ) (n : ℕ). next l n v.last) (sym (take-append-drop v.place tape) ∙ ap (λ (l : List ℕ). before ++ l) e) (sym long)
        ∙ next_written before (flat (map frames_of qs)) q v.last fits low high
        ∙ ap (λ (n : ℕ). pair q.stamp (n + length (frames_of q))) long

-- a tape was moved past the first of its stamped quotes
pub record Passed (tape : List ℕ) (v' : Venue) (part : List ℕ) (q : StampedQuote) (qs : List StampedQuote) : Type 0 where
  pub handed : part ≡ frames_of q
  pub inside : v'.place ≤ length tape
  pub whole : Whole (drop v'.place tape) v'.last qs

passed_first : (tape : List ℕ) (v v' other other' : Venue) (part : List ℕ) (q : StampedQuote) (qs : List StampedQuote) → v.place ≤ length tape
    → Whole (drop v.place tape) v.last (q ∷ qs) → Took tape v v' other other' part → Passed tape v' part q qs
unfolding ahead_of flat
passed_first tape v v' other other' part q qs h o t = go o.ordered o.frames
  where
    same : pair v'.last v'.place ≡ pair q.stamp (v.place + length (frames_of q))
    same = sym t.taken.has ∙ next_whole tape v (q ∷ qs) h o

    ms : v'.last ≡ q.stamp
    ms = let e = same in cc

    place : v'.place ≡ v.place + length (frames_of q)
    place = let e = same in cc

    size : v'.place - v.place ≡ length (frames_of q)
    size = omega (arith, place)

    go : InOrder v.last (q ∷ qs) → drop v.place tape ≡ frames_of q ++ flat (map frames_of qs) → Passed tape v' part q qs
    go (InOrder.next fits low high rest) e =
        record {
          handed = t.handed ∙ ap₂ (λ (n : ℕ) (l : List ℕ). take n l) size e ∙ take-append_seam (frames_of q) (flat (map frames_of qs));
          inside = t.taken.inside;
          whole = record {
            frames =
                ap (λ (n : ℕ). drop n tape) place
                ∙ sym (drop-drop (length (frames_of q)) v.place tape)
                ∙ ap (drop (length (frames_of q))) e
                ∙ drop-append_seam (frames_of q) (flat (map frames_of qs));
            ordered = rw ms rest;
          };
        }

-- the merge begins with the chosen one
merge_first : (p r : ℕ) (x : StampedQuote) (xs ys : List StampedQuote) → chosen (ahead_of p (x ∷ xs)) (ahead_of r ys) ≡ of_first
    → merge (x ∷ xs) ys ≡ x ∷ merge xs ys
unfolding ahead_of chosen merge merge_at
merge_first p r x xs [] e = refl
merge_first p r x xs (y ∷ ys) e = go (ltb y.stamp x.stamp) e
  where
    go : (b : Bool) → cond b of_second of_first ≡ of_first → cond b (y ∷ merge_at x (merge xs) ys) (x ∷ merge xs (y ∷ ys)) ≡ x ∷ merge xs (y ∷ ys)
    go true e = absurd (let z : ◌≡◌ {A = ℕ} 0 1 = cc in omega arith)
    go false e = refl

merge_second : (p r : ℕ) (xs : List StampedQuote) (y : StampedQuote) (ys : List StampedQuote) → chosen (ahead_of p xs) (ahead_of r (y ∷ ys)) ≡ of_second
    → merge xs (y ∷ ys) ≡ y ∷ merge xs ys
unfolding ahead_of chosen merge merge_at
merge_second p r [] y ys e = refl
merge_second p r (x ∷ xs) y ys e = go (ltb y.stamp x.stamp) e
  where
    go : (b : Bool) → cond b of_second of_first ≡ of_second → cond b (y ∷ merge_at x (merge xs) ys) (x ∷ merge xs (y ∷ ys)) ≡ y ∷ merge_at x (merge xs) ys
    go true e = refl
    go false e = absurd (let z : ◌≡◌ {A = ℕ} 0 1 = cc in omega arith)

-- whole lists are never refused: both are empty, or a pair is chosen
never_refused : (p r : ℕ) (xs ys : List StampedQuote) → 1 ≤ answer_of (chosen (ahead_of p xs) (ahead_of r ys))
    → (answer_of (chosen (ahead_of p xs) (ahead_of r ys)) ≡ end_number) × (merge xs ys ≡ [])
unfolding ahead_of chosen answer_of merge
never_refused p r [] [] h = (refl, refl)
never_refused p r [] (y ∷ ys) h = absurd (omega arith)
never_refused p r (x ∷ xs) [] h = absurd (omega arith)
never_refused p r (x ∷ xs) (y ∷ ys) h = absurd (go (ltb y.stamp x.stamp) h)
  where
    go : (b : Bool) → 1 ≤ answer_of (cond b of_second of_first) → ⊥
    go true h = omega arith
    go false h = omega arith

-- a pair of the first tape is of a list that is not empty, and so of the second
first_some : (p r : ℕ) (xs ys : List StampedQuote) → chosen (ahead_of p xs) (ahead_of r ys) ≡ of_first
    → (x : StampedQuote) × (rest : List StampedQuote) × (xs ≡ x ∷ rest)
unfolding ahead_of chosen
first_some p r (x ∷ xs) ys e = (x, xs, refl)
first_some p r [] [] e = absurd (let z : ◌≡◌ {A = ℕ} 0 1 = cc in omega arith)
first_some p r [] (y ∷ ys) e = absurd (let z : ◌≡◌ {A = ℕ} 0 1 = cc in omega arith)

second_some : (p r : ℕ) (xs ys : List StampedQuote) → chosen (ahead_of p xs) (ahead_of r ys) ≡ of_second
    → (y : StampedQuote) × (rest : List StampedQuote) × (ys ≡ y ∷ rest)
unfolding ahead_of chosen
second_some p r xs (y ∷ ys) e = (y, ys, refl)
second_some p r [] [] e = absurd (let z : ◌≡◌ {A = ℕ} 0 1 = cc in omega arith)
second_some p r (x ∷ xs) [] e = absurd (let z : ◌≡◌ {A = ℕ} 0 1 = cc in omega arith)

-- what two whole lists are joined to, from here on
pub Sound : List ℕ → List ℕ → Venue → Venue → List (List ℕ) → ℕ → Type 0
Sound first second v w parts answer =
    (xs ys : List StampedQuote) → v.place ≤ length first → w.place ≤ length second → Whole (drop v.place first) v.last xs → Whole (drop w.place second) w.last ys
    → (answer ≡ end_number) × (parts ≡ map frames_of (merge xs ys))

module _ (first second : List ℕ) where
  choice_whole : (v w : Venue) (xs ys : List StampedQuote) → v.place ≤ length first → w.place ≤ length second → Whole (drop v.place first) v.last xs
      → Whole (drop w.place second) w.last ys → (join_at first second v w).choice ≡ chosen (ahead_of v.place xs) (ahead_of w.place ys)
  choice_whole v w xs ys h k X Y = sym (was_chosen first second v w refl) ∙ ap₂ chosen (next_whole first v xs h X) (next_whole second w ys k Y)

  sound_stop : {v w v' w' : Venue} {part : List ℕ} {answer : ℕ} → Joined first second v w part answer v' w' → 1 ≤ answer → Sound first second v w [] answer
  unfolding Sound
  sound_stop {v} {w} {answer = answer} j some xs ys h k X Y =
      let e : answer ≡ answer_of (chosen (ahead_of v.place xs) (ahead_of w.place ys)) = j.answered ∙ ap answer_of (choice_whole v w xs ys h k X Y) in
      let r = never_refused v.place w.place xs ys (omega arith) in
      (e ∙ r.0, sym (ap (map frames_of) r.1))

  sound_step : {v w v' w' : Venue} {part : List ℕ} (parts : List (List ℕ)) (answer : ℕ) → Joined first second v w part 0 v' w'
      → Sound first second v' w' parts answer
      → Sound first second v w (part ∷ parts) answer
  unfolding Sound
  sound_step {v} {w} {v'} {w'} {part} parts answer j more xs ys h k X Y = go (pair_made first second j refl)
    where
      by_first : (x : StampedQuote) (rest : List StampedQuote) → merge xs ys ≡ x ∷ merge rest ys → w' ≡ w → Passed first v' part x rest
          → (answer ≡ end_number) × (part ∷ parts ≡ map frames_of (merge xs ys))
      by_first x rest m stays p =
          let r = more rest ys p.inside (rw stays k) p.whole (rw stays Y) in
          (r.0, ap₂ {C = List (List ℕ)} (λ (a : List ℕ) (l : List (List ℕ)). a ∷ l) p.handed r.1 ∙ sym (ap (map frames_of) m))

      by_second : (y : StampedQuote) (rest : List StampedQuote) → merge xs ys ≡ y ∷ merge xs rest → v' ≡ v → Passed second w' part y rest
          → (answer ≡ end_number) × (part ∷ parts ≡ map frames_of (merge xs ys))
      by_second y rest m stays p =
          let r = more xs rest (rw stays h) p.inside (rw stays X) p.whole in
          (r.0, ap₂ {C = List (List ℕ)} (λ (a : List ℕ) (l : List (List ℕ)). a ∷ l) p.handed r.1 ∙ sym (ap (map frames_of) m))

      with_first : (s : (x : StampedQuote) × (rest : List StampedQuote) × (xs ≡ x ∷ rest)) → chosen (ahead_of v.place xs) (ahead_of w.place ys) ≡ of_first
          → Took first v v' w w' part → (answer ≡ end_number) × (part ∷ parts ≡ map frames_of (merge xs ys))
      with_first s c t =
          by_first s.0 s.1 (ap (λ (l : List StampedQuote). merge l ys) s.2 ∙ merge_first v.place w.place s.0 s.1 ys (rw s.2 at c)) t.stays
          (passed_first first v v' w w' part s.0 s.1 h (rw s.2 at X) t)

      with_second : (s : (y : StampedQuote) × (rest : List StampedQuote) × (ys ≡ y ∷ rest)) → chosen (ahead_of v.place xs) (ahead_of w.place ys) ≡ of_second
          → Took second w w' v v' part → (answer ≡ end_number) × (part ∷ parts ≡ map frames_of (merge xs ys))
      with_second s c t =
          by_second s.0 s.1 (ap (merge xs) s.2 ∙ merge_second v.place w.place xs s.0 s.1 (rw s.2 at c)) t.stays
          (passed_first second w w' v v' part s.0 s.1 k (rw s.2 at Y) t)

      chose : {c : Choice} → (join_at first second v w).choice ≡ c → chosen (ahead_of v.place xs) (ahead_of w.place ys) ≡ c
      chose e = sym (choice_whole v w xs ys h k X Y) ∙ e

      go : (((join_at first second v w).choice ≡ of_first) × Took first v v' w w' part) ⊎ (((join_at first second v w).choice ≡ of_second) × Took second w w' v v' part)
          → (answer ≡ end_number) × (part ∷ parts ≡ map frames_of (merge xs ys))
      go (inl t) = with_first (first_some v.place w.place xs ys (chose t.0)) (chose t.0) t.1
      go (inr t) = with_second (second_some v.place w.place xs ys (chose t.0)) (chose t.0) t.1

  sound_run : {v w v' w' : Venue} {parts : List (List ℕ)} {answer : ℕ} → Runs first second v w parts answer v' w' → Sound first second v w parts answer
  sound_run (stops j some) = sound_stop j some
  sound_run (goes {parts = parts} {answer = answer} j run) = sound_step parts answer j (sound_run run)

  -- two sound tapes are never refused: from places 0 and any last stamps that they are in order from, the run ends with 'end', and the
  -- parts are the stable merge of their stamped quotes
  pub sound_joined : (a b : ℕ) (xs ys : List StampedQuote) → Whole first a xs → Whole second b ys → {parts : List (List ℕ)} {answer : ℕ} {v' w' : Venue}
      → Runs first second (venue 0 a) (venue 0 b) parts answer v' w' → (answer ≡ end_number) × (parts ≡ map frames_of (merge xs ys))
  unfolding Sound
  sound_joined a b xs ys X Y run = sound_run run xs ys (omega arith) (omega arith) X Y

  -- a run that ends with 'end' has read two whole tapes, and its parts are their stable merge
  pub joined_merges : Bytes first → Bytes second → (a b : ℕ) {parts : List (List ℕ)} {v' w' : Venue}
      → Runs first second (venue 0 a) (venue 0 b) parts end_number v' w'
      → Merges first second a b parts
  joined_merges bytes bytes' a b run =
      let r = whole_tapes first second bytes bytes' run refl in
      let xs = r.0.quotes in
      let ys = r.1.quotes in
      let X = r.0.whole in
      let Y = r.1.whole in
      record {
        firsts = xs;
        seconds = ys;
        first_whole = X;
        second_whole = Y;
        merged = (sound_joined a b xs ys X Y run).1;
        once = interleaved xs ys;
        rising = not_falling 0 xs ys (order_rises X.ordered) (order_rises Y.ordered);
      }

  -- ---- every run ends

  -- each pair moves one place by at least ten bytes, and none beyond the end
  pub run_moves : {v w v' w' : Venue} {parts : List (List ℕ)} {answer : ℕ} → Runs first second v w parts answer v' w' → v.place ≤ length first
      → w.place ≤ length second
      → (v.place + w.place + 10 * length parts ≤ v'.place + w'.place) × (v'.place ≤ length first) × (w'.place ≤ length second)
  run_moves {v} {w} (stops j some) h k = let r = none_made first second j some in rw (r.0, r.1) (omega arith, h, k)
  run_moves {v} {w} (goes {v' = x} {w' = y} {v'' = v''} {w'' = w''} {part = part} {parts = parts} j run) h k = go (pair_made first second j refl) (run_moves run)
    where
      go : (((join_at first second v w).choice ≡ of_first) × Took first v x w y part) ⊎ (((join_at first second v w).choice ≡ of_second) × Took second w y v x part)
          → (x.place ≤ length first → y.place ≤ length second → (x.place + y.place + 10 * length parts ≤ v''.place + w''.place) × (v''.place ≤ length first) × (w''.place ≤ length second))
          → (v.place + w.place + 10 * suc (length parts) ≤ v''.place + w''.place) × (v''.place ≤ length first) × (w''.place ≤ length second)
      go (inl t) more =
          let same : y.place ≡ w.place = ap (λ (u : Venue). u.place) t.1.stays in
          let r = more t.1.taken.inside (omega arith) in
          (omega (arith, r.0, t.1.taken.onward), r.1, r.2)
      go (inr t) more =
          let same : x.place ≡ v.place = ap (λ (u : Venue). u.place) t.1.stays in
          let r = more (omega arith) t.1.taken.inside in
          (omega (arith, r.0, t.1.taken.onward), r.1, r.2)

  -- a run that ends with 'end' stands at both ends
  pub run_at_ends : {v w v' w' : Venue} {parts : List (List ℕ)} {answer : ℕ} → Runs first second v w parts answer v' w' → answer ≡ end_number
      → (v'.place ≡ length first) × (w'.place ≡ length second)
  run_at_ends (stops j some) e = let r = none_made first second j some in rw (r.0, r.1) (end_made first second j e)
  run_at_ends (goes j run) e = run_at_ends run e

  -- from everywhere there is a run: calls that hand back pairs come to one that does not
  ends_within : (most : ℕ) (v w : Venue) → (length first - v.place) + (length second - w.place) < most → Ends first second v w
  unfolding answer_of
  ends_within zero v w h = absurd (omega arith)
  ends_within (suc most) v w h =
      go (join_at first second v w).choice refl (ends_within most (join_at first second v w).first (join_at first second v w).second)
    where
      left : Venue × Venue
      left = ((join_at first second v w).first, (join_at first second v w).second)

      call : {answer : ℕ} → answer ≡ answer_of (join_at first second v w).choice → Joined first second v w (part_at first second v w) answer left.0 left.1
      call e = record { handed = refl; answered = e; first_left = refl; second_left = refl }

      longer : 0 ≡ answer_of (join_at first second v w).choice → Ends first second left.0 left.1 → Ends first second v w
      longer e r =
          record { parts = part_at first second v w ∷ r.parts; answer = r.answer; first_end = r.first_end; second_end = r.second_end; run = goes (call e) r.run }

      over : (answer : ℕ) → answer ≡ answer_of (join_at first second v w).choice → 1 ≤ answer → Ends first second v w
      over answer e some = record { parts = []; answer = answer; first_end = left.0; second_end = left.1; run = stops (call e) some }

      go : (c : Choice) → (join_at first second v w).choice ≡ c
          → ((length first - left.0.place) + (length second - left.1.place) < most → Ends first second left.0 left.1) → Ends first second v w
      go of_first e more =
          let t = took_first first second v w e in
          let same = ap (λ (u : Venue). u.place) t.1 in
          longer (sym (ap answer_of e)) (more (omega (arith, same, t.0.onward, t.0.inside)))
      go of_second e more =
          let t = took_second first second v w e in
          let same = ap (λ (u : Venue). u.place) t.1 in
          longer (sym (ap answer_of e)) (more (omega (arith, same, t.0.onward, t.0.inside)))
      go at_ends e more = over end_number (sym (ap answer_of e)) (omega arith)
      go (refused k) e more = over k (sym (ap answer_of e)) (refusal_numbered first second v w e).0

  -- each pair moves one place by at least ten bytes, so a run comes to a call that hands back none: to 'end' at both ends, or to a refusal
  pub join_ends : (v w : Venue) → Ends first second v w
  join_ends v w = ends_within (suc ((length first - v.place) + (length second - w.place))) v w (omega arith)
