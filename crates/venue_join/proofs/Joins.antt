-- What a join answers and moves, by the tape whose pair is chosen.
use mathlib.Core.Path.{◌≡◌, refl, sym, ap, ◌∙◌}
use mathlib.Core.Logic.{◌⊎◌, inl, inr, ⊎_elim}
use Prim.Native.Nat.{ℕ, ◌+◌, ◌≤◌}
use native.Mathlib.Omega.{arith}
use mathlib.Core.Bool.{Bool, true, false, cond}
use mathlib.Core.List.{List, []}
use lib.Dec.{ltb}
use lib.ListN.{length}
use Rattle.refusals.specs.declared.Refusal.{Refusal}
use Rattle.std.specs.Borrow.{Bor}
use Rattle.std.specs.Prelude.{Option, Some, None, Result, Ok, Err}
use Rattle.venue_tapes.specs.declared.Pair.{Pair}
use Rattle.venue_tapes.specs.VenueTapes.{Ahead, pair, done, refuses, ahead, next}
use Rattle.venue_tapes.proofs.Pairs.{is_pair, pair_size, done_at_end, refusal_range}
use Rattle.venue_join.specs.declared.Venue.{Venue}
use Rattle.venue_join.specs.declared.Step.{Step}
use Rattle.venue_join.specs.Join.{Choice, of_first, of_second, at_ends, refused, chosen, venue, moved, Joint, joint_by, joint_of, join_at, passed, part_by, end_number, part_in, answer_in}
use Rattle.venue_join.specs.Join.{part_at, answer_of, joint_in, Joined}

-- the answer is what was chosen
choice_kept : (c : Choice) (a b : Ahead) (v w : Venue) → (joint_by c a b v w).choice ≡ c
unfolding joint_by
choice_kept of_first a b v w = refl
choice_kept of_second a b v w = refl
choice_kept at_ends a b v w = refl
choice_kept (refused k) a b v w = refl

-- where the first tape's pair is chosen it has one, and where the second's is the second has
first_has : (a b : Ahead) → chosen a b ≡ of_first → (ms : ℕ) × (behind : ℕ) × (a ≡ pair ms behind)
unfolding chosen
first_has (refuses k) b e = cc
first_has done (refuses k) e = cc
first_has done done e = cc
first_has done (pair ms behind) e = cc
first_has (pair ms behind) b e = (ms, behind, refl)

second_has : (a b : Ahead) → chosen a b ≡ of_second → (ms : ℕ) × (behind : ℕ) × (b ≡ pair ms behind)
unfolding chosen
second_has (refuses k) b e = cc
second_has done (refuses k) e = cc
second_has done done e = cc
second_has done (pair ms behind) e = (ms, behind, refl)
second_has (pair x y) (refuses k) e = cc
second_has (pair x y) done e = cc
second_has (pair x y) (pair ms behind) e = (ms, behind, refl)

-- a refusal is one of the two tapes'
refused_by : (a b : Ahead) {k : ℕ} → chosen a b ≡ refused k → (a ≡ refuses k) ⊎ (b ≡ refuses k)
unfolding chosen
refused_by (refuses n) b e = inl cc
refused_by done (refuses n) e = inr cc
refused_by done done e = cc
refused_by done (pair ms behind) e = cc
refused_by (pair x y) (refuses n) e = inr cc
refused_by (pair x y) done e = cc
refused_by (pair x y) (pair ms behind) {k} e = absurd (go (ltb ms x) e)
  where
    go : (b : Bool) → cond b of_second of_first ≡ refused k → ⊥
    go true e = cc
    go false e = cc

-- 'end' is said where both are done
ends_by : (a b : Ahead) → chosen a b ≡ at_ends → (a ≡ done) × (b ≡ done)
unfolding chosen
ends_by (refuses n) b e = cc
ends_by done (refuses n) e = cc
ends_by done done e = (refl, refl)
ends_by done (pair ms behind) e = cc
ends_by (pair x y) (refuses n) e = cc
ends_by (pair x y) done e = cc
ends_by (pair x y) (pair ms behind) e = absurd (go (ltb ms x) e)
  where
    go : (b : Bool) → cond b of_second of_first ≡ at_ends → ⊥
    go true e = cc
    go false e = cc

-- a tape's pair was taken: what it has next, and where it stands behind it
pub record Taken (tape : List ℕ) (before after : Venue) : Type 0 where
  pub has : next tape before.place before.last ≡ pair after.last after.place
  pub onward : before.place + 10 ≤ after.place
  pub inside : after.place ≤ length tape

taken : (tape : List ℕ) (v : Venue) {ms behind : ℕ} → next tape v.place v.last ≡ pair ms behind → Taken tape v (venue behind ms)
taken tape v h =
    let size = pair_size (is_pair tape v.place v.last h) in
    record { has = h; onward = size.0; inside = size.2 }

module _ (first second : List ℕ) (v w : Venue) where
  abbrev joint : Joint
  joint = join_at first second v w

  by_choice : {c : Choice} → joint.choice ≡ c → joint ≡ joint_by c (next first v.place v.last) (next second w.place w.last) v w
  unfolding join_at joint_of
  by_choice e =
      let a = next first v.place v.last in
      let b = next second w.place w.last in
      ap (λ (c : Choice). joint_by c a b v w) (sym (choice_kept (chosen a b) a b v w) ∙ e)

  -- the answer is what was chosen of what both tapes have next
  pub was_chosen : {c : Choice} → joint.choice ≡ c → chosen (next first v.place v.last) (next second w.place w.last) ≡ c
  unfolding join_at joint_of
  was_chosen e = sym (choice_kept _ _ _ v w) ∙ e

  -- a pair of the first tape: it is moved past it, the second stays
  pub took_first : joint.choice ≡ of_first → Taken first v joint.first × (joint.second ≡ w)
  unfolding joint_by moved
  took_first e =
      let r = first_has (next first v.place v.last) (next second w.place w.last) (was_chosen e) in
      let there : joint.first ≡ venue r.1 r.0 = ap Joint.first (by_choice e) ∙ ap (moved v) r.2 in
      (rw there (taken first v r.2), ap Joint.second (by_choice e))

  -- a pair of the second tape: it is moved past it, the first stays
  pub took_second : joint.choice ≡ of_second → Taken second w joint.second × (joint.first ≡ v)
  unfolding joint_by moved
  took_second e =
      let r = second_has (next first v.place v.last) (next second w.place w.last) (was_chosen e) in
      let there : joint.second ≡ venue r.1 r.0 = ap Joint.second (by_choice e) ∙ ap (moved w) r.2 in
      (rw there (taken second w r.2), ap Joint.first (by_choice e))

  -- 'end' is said at both ends
  pub end_at_ends : joint.choice ≡ at_ends → (v.place ≡ length first) × (w.place ≡ length second)
  end_at_ends e =
      let r = ends_by (next first v.place v.last) (next second w.place w.last) (was_chosen e) in
      (done_at_end first v.place v.last r.0, done_at_end second w.place w.last r.1)

  -- a refusal has a number from 1 to 16
  pub refusal_numbered : {k : ℕ} → joint.choice ≡ refused k → (1 ≤ k) × (k ≤ 16)
  refusal_numbered e =
      ⊎_elim (refusal_range first v.place v.last) (refusal_range second w.place w.last)
      (refused_by (next first v.place v.last) (next second w.place w.last) (was_chosen e))

  -- 'end' moves nothing
  pub end_stays : joint.choice ≡ at_ends → (joint.first ≡ v) × (joint.second ≡ w)
  unfolding joint_by
  end_stays e = (ap Joint.first (by_choice e), ap Joint.second (by_choice e))

  -- nor does a refusal
  pub refusal_stays : (k : ℕ) → joint.choice ≡ refused k → (joint.first ≡ v) × (joint.second ≡ w)
  unfolding joint_by
  refusal_stays k e = (ap Joint.first (by_choice e), ap Joint.second (by_choice e))

  -- ---- a step by what both tapes have next

  module _ {q : Result (Option Pair) Refusal} (has : ahead q ≡ next first v.place v.last) where
    -- the first tape's refusal, whatever the second has
    pub refused_first : {r : Result (Option Step) Refusal} {k : Refusal} → q ≡ Err k → r ≡ Err k → joint_in v w r ≡ joint
    unfolding joint_in join_at joint_of joint_by chosen ahead
    refused_first e f = rw (f, ← has, e)

    -- the second tape's refusal, where the first has none
    pub refused_second : {p : Result (Option Pair) Refusal} {r : Result (Option Step) Refusal} {k : Refusal} {x : Option Pair}
        → ahead p ≡ next second w.place w.last → q ≡ Ok x → p ≡ Err k → r ≡ Err k → joint_in v w r ≡ joint
    unfolding joint_in join_at joint_of joint_by chosen ahead
    refused_second {x = Some y} other d e f = rw (f, ← has, ← other, d, e)
    refused_second {x = None} other d e f = rw (f, ← has, ← other, d, e)

  -- what both have next, where neither is refused
  pub neither_refused : {a b : Ahead} {s : Joint} → a ≡ next first v.place v.last → b ≡ next second w.place w.last → s ≡ joint_of a b v w → s ≡ joint
  unfolding join_at
  neither_refused h i e = e ∙ rw (h, i)

  -- ---- what a step hands back

  -- the promise, by the step that was made
  promised : {j : Joint} {v' w' : Venue} {part : List ℕ} {answer : ℕ} → j ≡ joint → part ≡ part_by j.choice first second v w j → answer ≡ answer_of j.choice
      → v' ≡ j.first → w' ≡ j.second → Joined first second v w part answer v' w'
  unfolding part_at
  promised e p n f s = record { handed = rw e at p; answered = rw e at n; first_left = rw e at f; second_left = rw e at s }

  module _ {r : Result (Option Step) Refusal} (made : joint_in v w r ≡ joint) {s : Option Step} (is : r ≡ Ok s) where
    first_taken : {behind : Venue} {t : Step} → s ≡ Some t → t ≡ Step.First behind → record { choice = of_first; first = behind; second = w } ≡ joint
    unfolding joint_in
    first_taken e d = sym (ap (joint_in v w) (is ∙ ap Ok (e ∙ ap Some d))) ∙ made

    second_taken : {behind : Venue} {t : Step} → s ≡ Some t → t ≡ Step.Second behind → record { choice = of_second; first = v; second = behind } ≡ joint
    unfolding joint_in
    second_taken e d = sym (ap (joint_in v w) (is ∙ ap Ok (e ∙ ap Some d))) ∙ made

    -- the part lies within its tape
    pub first_bounds : {behind : Venue} {t : Step} → s ≡ Some t → t ≡ Step.First behind → (v.place ≤ behind.place) × (behind.place ≤ length first)
    first_bounds e d =
        let j = first_taken e d in
        let t = rw (ap Joint.first (sym j)) at (took_first (ap Joint.choice (sym j))).0 in
        (omega (arith, t.onward), t.inside)

    pub second_bounds : {behind : Venue} {t : Step} → s ≡ Some t → t ≡ Step.Second behind → (w.place ≤ behind.place) × (behind.place ≤ length second)
    second_bounds e d =
        let j = second_taken e d in
        let t = rw (ap Joint.second (sym j)) at (took_second (ap Joint.choice (sym j))).0 in
        (omega (arith, t.onward), t.inside)

    -- what the join promises of a pair of the first tape, of one of the second, and of the ends
    pub handed_first : {behind v' : Venue} {part : List ℕ} {t : Step} → s ≡ Some t → t ≡ Step.First behind → part ≡ passed first v behind → v' ≡ behind
        → Joined first second v w part 0 v' w
    unfolding part_by answer_of
    handed_first e d p m = promised (first_taken e d) p refl m refl

    pub handed_second : {behind w' : Venue} {part : List ℕ} {t : Step} → s ≡ Some t → t ≡ Step.Second behind → part ≡ passed second w behind → w' ≡ behind
        → Joined first second v w part 0 v w'
    unfolding part_by answer_of
    handed_second e d p m = promised (second_taken e d) p refl refl m

    pub handed_none : s ≡ None → Joined first second v w [] end_number v w
    unfolding part_by answer_of joint_in
    handed_none e = promised (sym (ap (joint_in v w) (is ∙ ap Ok e)) ∙ made) refl refl refl refl

  -- and of a refusal
  pub handed_refusal : {r : Result (Option Step) Refusal} {k : Refusal} {q : Result (Option (Bor (List ℕ))) Refusal} → joint_in v w r ≡ joint → r ≡ Err k → q ≡ Err k
      → Joined first second v w (part_in q) (answer_in q) v w
  unfolding part_by answer_of joint_in
  handed_refusal made e d = rw d (promised (sym (ap (joint_in v w) e) ∙ made) refl refl refl refl)
