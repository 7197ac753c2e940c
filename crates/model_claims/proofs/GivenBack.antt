-- Records that are given back: a desk that was refused with 9 is not once the other gave back a watch above its 3, or it gave one back
-- itself. And both desks may watch the same n.
use mathlib.Core.Path.{◌≡◌, refl, sym, ap, ◌∙◌}
use mathlib.Core.Logic.{inl, inr}
use Prim.Native.Nat.{ℕ, suc, ◌+◌, ◌-◌, ◌≤◌, ◌<◌}
use native.Mathlib.Omega.{arith}
use mathlib.Core.Bool.{Bool, true, false, ◌&&◌, not}
use mathlib.Core.List.{List, [], ◌∷◌}
use lib.Dec.{ltb, leb, eqb}
use lib.ListN.{length}
use borrow.Author.Tests.{leb-true, eqb-true, eqb-false, eq-eqb, ne_eqb, not-false, lt-leb, le-ltb}
use Rattle.lists.specs.Lists.{any, contains, insert, without}
use Rattle.lists.proofs.Booleans.{and_left, and_right, or_left, or_right}
use Rattle.lists.proofs.Rising.{contains_insert}
use Rattle.head.specs.declared.Head.{Head}
use Rattle.head.specs.declared.Desk.{Desk}
use Rattle.head.specs.declared.Desk.TheVariants.{One, Two}
use Rattle.refusals.specs.declared.Refusal.TheVariants.{WindowSize, AlreadyWatched, NoFreeRecord, ShortOutput}
use Rattle.refusals.specs.Refusals.{number, first_of, granted}
use Rattle.refusals.proofs.Numbers.{zero_passed}
use Rattle.head.specs.Desks.{desk_unit, desk_number, desk_in, watch_of}
use Rattle.model.specs.Rows.{Tables}
use Rattle.model.specs.Changes.{change_room}
use Rattle.model.specs.Shares.{of_desk, count_of, above_shares, desk_full}
use Rattle.model.specs.Book.{standing, out_of_range, reply_of, watch_answer, watch_reply, watch_watches, end_answer, end_reply, end_watches}
use Rattle.model.specs.Calls.{Watch, End, Outputs, Seen, World, book_seen, head_after, world_after}
use Rattle.model.specs.Promises.{world}
use Rattle.model_claims.specs.Claims.{Made}
use Rattle.model_claims.specs.Shares.{MakesRoom, BothStand}
use Rattle.model_claims.specs.Untorn.{Untorn}
use Rattle.model.proofs.Desks.{desk_of_watch, watch_own, watch_other, highest}
use Rattle.model.proofs.Records.{Records, records_insert, records_filter}
use Rattle.model.proofs.Sound.{untorn_records, standing_padded}
use Rattle.model_claims.proofs.Shares.{sure_of_three, not_given, other_insert, other_without, count_without}
use Rattle.model_claims.proofs.Refining.{made_seen}
use Rattle.model_claims.proofs.Untorn.{judged_untorn, accepted_untorn, small_capacity, rewatched}

-- a desk is not full where less than 2 is above the shares once it has 3
not_both : (c a : ℕ) → (3 ≤ c → a < 2) → leb 3 c && leb 2 a ≡ false
not_both c a h = go (leb 3 c) refl
  where
    go : (b : Bool) → leb 3 c ≡ b → b && leb 2 a ≡ false
    go true t = lt-leb 2 a (h (leb-true 3 c t))
    go false t = refl

-- a desk's watch is not the other's
one_not_two : (w : ℕ) → of_desk One w ≡ true → of_desk Two w ≡ false
unfolding of_desk
one_not_two w e = rw (eqb-true (desk_in w) 1 e)

two_not_one : (w : ℕ) → of_desk Two w ≡ true → of_desk One w ≡ false
unfolding of_desk
two_not_one w e = rw (eqb-true (desk_in w) 2 e)

-- as many of a desk without another's watch
same_count : (desk : Desk) (w : ℕ) (ws : List ℕ) → of_desk desk w ≡ false → count_of desk (without w ws) ≡ count_of desk ws
unfolding count_of
same_count desk w ws e = ap length (other_without desk w ws e)

-- a desk is not full once a watch was given back that makes room for it
room_made : {N : ℕ} {ws : List ℕ} → Records N ws → (desk giver : Desk) (w : ℕ) → of_desk giver w ≡ true → contains w ws ≡ true → MakesRoom desk giver ws
    → desk_full desk (without w ws) ≡ false
unfolding desk_full above_shares
room_made {N} {ws} r desk giver w mine m g = by desk giver mine g
  where
    less : List ℕ
    less = without w ws

    fewer : (giver : Desk) → of_desk giver w ≡ true → suc (count_of giver less) ≡ count_of giver ws
    fewer giver mine = count_without giver 1 highest w ws mine r.risen m

    same : (other : Desk) → of_desk other w ≡ false → count_of other less ≡ count_of other ws
    same other e = same_count other w ws e

    above : ℕ
    above = (count_of One less - 3) + (count_of Two less - 3)

    by : (desk giver : Desk) → of_desk giver w ≡ true → MakesRoom desk giver ws → leb 3 (count_of desk less) && leb 2 above ≡ false
    by One One mine g = not_both (count_of One less) above (λ h. omega (arith, r.shares, fewer One mine, same Two (one_not_two w mine)))
    by Two Two mine g = not_both (count_of Two less) above (λ h. omega (arith, r.shares, fewer Two mine, same One (two_not_one w mine)))
    by One Two mine (inl e) = absurd (omega (arith, ap desk_number e))
    by One Two mine (inr e) = not_both (count_of One less) above (λ h. omega (arith, r.shares, fewer Two mine, same One (two_not_one w mine)))
    by Two One mine (inl e) = absurd (omega (arith, ap desk_number e))
    by Two One mine (inr e) = not_both (count_of Two less) above (λ h. omega (arith, r.shares, fewer One mine, same Two (one_not_two w mine)))

-- an n that is not refused with 5
within_range : (h : Head) (n : ℕ) → out_of_range h n ≡ false → (1 ≤ n) × (n ≤ h.capacity)
unfolding out_of_range
within_range h n e =
    let t = not-false (leb 1 n && leb n h.capacity) e in
    (leb-true 1 n (and_left (leb 1 n) (leb n h.capacity) t), leb-true n h.capacity (and_right (leb 1 n) (leb n h.capacity) t))

-- ---- free again

module _ (h : Head) (t : Tables) (ws : List ℕ) (desk giver : Desk) (m : ℕ) (gave : end_answer h giver m t ws ≡ 0)
    (room_for : MakesRoom desk giver (standing ws)) where
  -- the watches left
  abbrev less : List ℕ
  less = without (watch_of giver m) (standing ws)

  -- the book was not torn, and the watch stood
  gave_passed : Untorn (world h t ws) × (out_of_range h m ≡ false) × (contains (watch_of giver m) (standing ws) ≡ true)
  unfolding end_answer
  gave_passed =
      let a = accepted_untorn h t ws _ gave in
      let b = zero_passed _ _ _ a.1 in
      (a.0, b.0, not-false (contains (watch_of giver m) (standing ws)) (zero_passed _ _ _ b.1).0)

  before : Records h.capacity (standing ws)
  before = untorn_records h.capacity ws gave_passed.0.watches

  left : Records h.capacity less
  unfolding without
  left = records_filter before (λ v. not (eqb (watch_of giver m) v))

  not_full_left : desk_full desk less ≡ false
  not_full_left =
      let small = small_capacity (world h t ws) gave_passed.0 in
      let most = (within_range h m gave_passed.1).1 in
      room_made before desk giver (watch_of giver m) (watch_own giver m (omega arith)) gave_passed.2 room_for

  -- then a watch of the desk is answered as if there were no shares
  pub free_again_answer : (n room : ℕ)
      → watch_answer h desk n t (end_watches h giver m t ws) room
      ≡ first_of ((out_of_range h n, number WindowSize) ∷ (contains (watch_of desk n) less, number AlreadyWatched) ∷ (ltb room change_room, number ShortOutput) ∷ [])
  unfolding watch_answer end_watches granted first_of
  free_again_answer n room =
      rw (gave, standing_padded h.capacity less ws left, not_full_left)
      (judged_untorn (rewatched (world h t ws) gave_passed.0 less left) _)

  not_nine : (n room : ℕ) → watch_answer h desk n t (end_watches h giver m t ws) room ≡ number NoFreeRecord → ⊥
  unfolding any
  not_nine n room e = not_given 8 _ refl (sym (free_again_answer n room) ∙ e)

-- what is seen of the end of a watch and of a watch after it, by the book model
seen_again : (desk giver : Desk) (m n : ℕ) (o o' : Outputs) (w : World) → (book_seen (End giver m) o w).outcome.number ≡ 0
    → MakesRoom desk giver (standing w.lent.watches)
    → (book_seen (Watch desk n) o' (world_after (End giver m) (book_seen (End giver m) o w) w)).outcome.number ≡ number NoFreeRecord → ⊥
unfolding book_seen world_after head_after end_reply watch_reply reply_of granted
seen_again desk giver m n o o' w e g nine =
    not_nine w.head w.lent.tables w.lent.watches desk giver m e g n (length o'.bytes) (rw e at nine)

-- a desk is not refused with 9 once a watch was given back that makes room for it: of calls that were made, on any book
pub free_again : (desk giver : Desk) (m n : ℕ) (o o' : Outputs) {w : World} (gave asked : Seen) → Made (End giver m) o w gave → gave.outcome.number ≡ 0
    → MakesRoom desk giver (standing w.lent.watches) → Made (Watch desk n) o' (world_after (End giver m) gave w) asked
    → asked.outcome.number ≡ number NoFreeRecord → ⊥
free_again desk giver m n o o' {w} gave asked g e room a nine =
    seen_again desk giver m n o o' w (rw (made_seen g) at e) room (rw (made_seen a, made_seen g) at nine)

-- ---- both desks on one n

-- an accepted watch
module _ (h : Head) (t : Tables) (ws : List ℕ) (desk : Desk) (n room : ℕ) (set : watch_answer h desk n t ws room ≡ 0) where
  -- the book was not torn, and the watch was free
  set_passed : Untorn (world h t ws) × (out_of_range h n ≡ false) × (contains (watch_of desk n) (standing ws) ≡ false) × (desk_full desk (standing ws) ≡ false)
  unfolding watch_answer
  set_passed =
      let a = accepted_untorn h t ws _ set in
      let b = zero_passed _ _ _ a.1 in
      let c = zero_passed _ _ _ b.1 in
      (a.0, b.0, c.0, (zero_passed _ _ _ c.1).0)

  small_set : n < desk_unit
  small_set =
      let most = (within_range h n set_passed.1).1 in
      let bound = small_capacity (world h t ws) set_passed.0 in
      omega arith

  -- the watches that stand then
  set_records : Records h.capacity (insert (watch_of desk n) (standing ws))
  set_records =
      let r = within_range h n set_passed.1 in
      records_insert (untorn_records h.capacity ws set_passed.0.watches) desk n small_set r.0 r.1 set_passed.2 set_passed.3

  set_standing : standing (watch_watches h desk n t ws room) ≡ insert (watch_of desk n) (standing ws)
  unfolding watch_watches granted
  set_standing = rw set (standing_padded h.capacity (insert (watch_of desk n) (standing ws)) ws set_records)

module _ (h : Head) (t : Tables) (ws : List ℕ) (desk other : Desk) (n room : ℕ) (apart : eqb (desk_number desk) (desk_number other) ≡ false)
    (set : watch_answer h other n t ws room ≡ 0) where
  -- the watches then
  abbrev more : List ℕ
  more = insert (watch_of other n) (standing ws)

  small : n < desk_unit
  small = small_set h t ws other n room set

  -- the desk watches n then exactly if it did before
  own_watch : contains (watch_of desk n) more ≡ contains (watch_of desk n) (standing ws)
  own_watch =
      contains_insert (watch_of desk n) (watch_of other n) (standing ws)
      ∙ rw (ne_eqb (watch_of desk n) (watch_of other n) (λ e. eqb-false (desk_number desk) (desk_number other) apart
      (sym (desk_of_watch desk n small) ∙ ap desk_in e ∙ desk_of_watch other n small)))

  -- so 8 is said to it for its own watch of n alone
  pub both_watch_answer : (room' : ℕ)
      → watch_answer h desk n t (watch_watches h other n t ws room) room'
      ≡ first_of ((contains (watch_of desk n) (standing ws), number AlreadyWatched) ∷ (desk_full desk more, number NoFreeRecord)
      ∷ (ltb room' change_room, number ShortOutput) ∷ [])
  unfolding watch_answer watch_watches granted first_of
  both_watch_answer room' =
      let passed = set_passed h t ws other n room set in
      let both = set_records h t ws other n room set in
      rw (set, standing_padded h.capacity more ws both, own_watch)
      (judged_untorn (rewatched (world h t ws) passed.0 more both) _ ∙ rw passed.1)

  -- a desk that does not watch n, has fewer than 3 and lends an output that suffices
  module _ (free : contains (watch_of desk n) (standing ws) ≡ false) (few : count_of desk (standing ws) < 3) (room' : ℕ) (enough : change_room ≤ room') where
    few_still : desk_full desk more ≡ false
    unfolding count_of
    few_still = sure_of_three desk more (rw (ap length (other_insert desk (watch_of other n) (standing ws) (watch_other other n small desk apart))) few)

    -- is accepted
    both_accepted : watch_answer h desk n t (watch_watches h other n t ws room) room' ≡ 0
    unfolding first_of
    both_accepted = both_watch_answer room' ∙ rw (free, few_still, le-ltb room' change_room enough)

    -- and both watches stand
    both_standing : standing (watch_watches h desk n t (watch_watches h other n t ws room) room') ≡ insert (watch_of desk n) more
    both_standing =
        set_standing h t (watch_watches h other n t ws room) desk n room' both_accepted
        ∙ ap (insert (watch_of desk n)) (set_standing h t ws other n room set)

-- what is seen of two desks' watches of one n, by the book model
seen_both_lem : (desk other : Desk) (n : ℕ) (o o' : Outputs) (w : World) → eqb (desk_number desk) (desk_number other) ≡ false
    → (book_seen (Watch other n) o w).outcome.number ≡ 0 → contains (watch_of desk n) (standing w.lent.watches) ≡ false
    → count_of desk (standing w.lent.watches) < 3 → change_room ≤ length o'.bytes
    → BothStand n desk other (book_seen (Watch desk n) o' (world_after (Watch other n) (book_seen (Watch other n) o w) w))
unfolding book_seen world_after head_after watch_reply reply_of granted
seen_both_lem desk other n o o' w apart e free few enough =
    let h = w.head in
    let t = w.lent.tables in
    let ws = w.lent.watches in
    let more = insert (watch_of other n) (standing ws) in
    let stands = both_standing h t ws desk other n (length o.bytes) apart e free few (length o'.bytes) enough in
    rw e record {
      accepted = both_accepted h t ws desk other n (length o.bytes) apart e free few (length o'.bytes) enough;
      own = rw stands (contains_insert (watch_of desk n) (watch_of desk n) more
          ∙ or_left (eqb (watch_of desk n) (watch_of desk n)) _ (eq-eqb (watch_of desk n) (watch_of desk n) refl));
      others =
          rw stands (contains_insert (watch_of other n) (watch_of desk n) more
          ∙ or_right (eqb (watch_of other n) (watch_of desk n)) _
          (contains_insert (watch_of other n) (watch_of other n) (standing ws)
          ∙ or_left (eqb (watch_of other n) (watch_of other n)) _ (eq-eqb (watch_of other n) (watch_of other n) refl)));
    }

-- both desks may watch the same n: behind one desk's accepted watch of n the other's is accepted too, if it has fewer than 3 watches and does
-- not watch n already, and both stand; of calls that were made, on any book
pub both_watch : (desk other : Desk) (n : ℕ) (o o' : Outputs) {w : World} (first second : Seen) → eqb (desk_number desk) (desk_number other) ≡ false
    → Made (Watch other n) o w first → first.outcome.number ≡ 0 → contains (watch_of desk n) (standing w.lent.watches) ≡ false
    → count_of desk (standing w.lent.watches) < 3 → change_room ≤ length o'.bytes
    → Made (Watch desk n) o' (world_after (Watch other n) first w) second → BothStand n desk other second
both_watch desk other n o o' {w} first second apart m e free few enough a =
    rw (made_seen a, made_seen m) (seen_both_lem desk other n o o' w apart (rw (made_seen m) at e) free few enough)
