-- What a watcher holds after the changes of a quote: its own lead from the list before to the list after, and those of other lists do not
-- touch it.
use mathlib.Core.Path.{◌≡◌, refl, sym, ap, ◌∙◌}
use mathlib.Core.Logic.{◌⊎◌, inl, inr}
use Prim.Native.Nat.{ℕ, suc, ◌≤◌}
use native.Mathlib.Nat.{le_refl}
use native.Mathlib.Omega.{arith}
use mathlib.Core.Bool.{Bool, true, false, ◌&&◌, ◌||◌, not, cond}
use mathlib.Core.List.{List, [], ◌∷◌, ◌++◌, map}
use lib.Dec.{eqb}
use borrow.Author.Tests.{eqb-true, eqb-false, eq-eqb, not-true}
use Rattle.lists.specs.Lists.{any, flat, contains, rising, insert, without}
use Rattle.lists.proofs.Booleans.{either, clash, refute, and_left, and_right, or_left, or_right, neither}
use Rattle.lists.proofs.Members.{contains_filter}
use Rattle.lists.proofs.Rising.{Rises, rising_cons, rising_filter, rising_above, rising_ext, contains_insert, rising_insert}
use Rattle.lists.proofs.Apart.{contains_without}
use Rattle.head.specs.declared.Desk.{Desk}
use Rattle.head.specs.declared.Desk.TheVariants.{One, Two}
use Rattle.head.specs.Desks.{desk_number, desk_in, size_in}
use Rattle.frames.specs.declared.Message.{Message}
use Rattle.model.specs.Changes.{leave_kind_of, join_kind_of, leave, join, pair_leave, pair_join, missing, changes_by, changes, all_changes, pair_changes}
use Rattle.model.specs.Shares.{of_desk}
use Rattle.model.specs.Book.{is_watch}
use Rattle.model_watcher.specs.Watcher.{Follower, OfSize, OfPair, applied, applied_change, applied_position, applied_message, applied_all, sized_for}
use Rattle.model.proofs.Desks.{record_injective, watch_desk, highest}
use Rattle.model.proofs.Records.{Records}

-- no message, and messages behind others
applied_none : (f : Follower) (held : List ℕ) → applied_all f held [] ≡ held
unfolding applied_all
applied_none f held = refl

applied_append : (f : Follower) (held : List ℕ) (ms ns : List Message) → applied_all f held (ms ++ ns) ≡ applied_all f (applied_all f held ms) ns
unfolding applied_all
applied_append f held [] ns = refl
applied_append f held (m ∷ ms) ns = applied_append f (applied_message f held m) ms ns

-- the first message, and then the others
applied_first : (f : Follower) (held held' : List ℕ) (m : Message) (ms : List Message) → applied_message f held m ≡ held' → applied_all f held (m ∷ ms) ≡ applied_all f held' ms
unfolding applied_all
applied_first f held held' m ms e = ap (λ (h : List ℕ). applied_all f h ms) e

-- these messages take positions out, or put them in
pub record TakesOut (f : Follower) (leaves : ℕ → Message) : Type 0 where
  pub taken : (p : ℕ) (held : List ℕ) → applied_message f held (leaves p) ≡ without p held

pub record PutsIn (f : Follower) (joins : ℕ → Message) : Type 0 where
  pub put : (p : ℕ) (held : List ℕ) → applied_message f held (joins p) ≡ insert p held

-- these messages change nothing
pub record Ignores (f : Follower) (message : ℕ → Message) : Type 0 where
  pub kept : (p : ℕ) (held : List ℕ) → applied_message f held (message p) ≡ held

-- ---- changes of the watcher's own list

-- a rising list with the members that a test tells
record Holds (lo hi : ℕ) (l : List ℕ) (member : ℕ → Bool) : Type 0 where
  risen : rising lo hi l ≡ true
  members : (p : ℕ) → contains p l ≡ member p

module _ (lo hi : ℕ) (f : Follower) where
  -- leaves take their positions out
  leaves_applied : (leaves : ℕ → Message) → TakesOut f leaves → (l held : List ℕ) → rising lo hi held ≡ true
      → Holds lo hi (applied_all f held (map leaves l)) (λ p. contains p held && not (contains p l))
  unfolding contains any without
  leaves_applied leaves out [] held e = rw (applied_none f held) (record { risen = e; members = λ p. stay (contains p held) })
    where
      stay : (b : Bool) → b ≡ b && true
      stay true = refl
      stay false = refl
  leaves_applied leaves out (x ∷ xs) held e =
      let r = leaves_applied leaves out xs (without x held) (rising_filter (λ y. not (eqb x y)) lo hi held e) in
      rw (applied_first f held (without x held) (leaves x) (map leaves xs) (out.taken x held)) record {
        risen = r.risen;
        members = λ p. r.members p ∙ rw contains_without (gone (contains p held) (eqb p x) (contains p xs));
      }
    where
      gone : (a b c : Bool) → (a && not b) && not c ≡ a && not (b || c)
      gone true true c = refl
      gone true false c = refl
      gone false b c = refl

  -- joins that rise, and of which none is held, put their positions in
  joins_applied : (joins : ℕ → Message) → PutsIn f joins → (a : ℕ) (l held : List ℕ) → lo ≤ a → rising a hi l ≡ true → rising lo hi held ≡ true
      → ((p : ℕ) → contains p l ≡ true → contains p held ≡ false) → Holds lo hi (applied_all f held (map joins l)) (λ p. contains p held || contains p l)
  unfolding contains any
  joins_applied joins put a [] held h e g new = rw (applied_none f held) (record { risen = g; members = λ p. stay (contains p held) })
    where
      stay : (b : Bool) → b ≡ b || false
      stay true = refl
      stay false = refl
  joins_applied joins put a (x ∷ xs) held h e g new =
      let u = rising_cons a hi x xs e in
      let low = u.low in
      let free = new x (or_left (eqb x x) (contains x xs) (eq-eqb x x refl)) in
      let r = joins_applied joins put (suc x) xs (insert x held) (omega arith) u.rest (rising_insert lo hi x held (omega arith) u.high free g)
      (λ p t. rw contains_insert (neither (eqb p x) (contains p held) (apart p t u.rest) (new p (or_right (eqb p x) (contains p xs) t)))) in
      rw (applied_first f held (insert x held) (joins x) (map joins xs) (put.put x held)) record {
        risen = r.risen;
        members = λ p. r.members p ∙ rw contains_insert (moved (eqb p x) (contains p held) (contains p xs));
      }
    where
      apart : (p : ℕ) → contains p xs ≡ true → rising (suc x) hi xs ≡ true → eqb p x ≡ false
      apart p t r = refute (eqb p x) (λ s. clash (contains p xs) t (rw (eqb-true p x s) (rising_above (suc x) hi x xs (le_refl (suc x)) r)))

      moved : (a b c : Bool) → (a || b) || c ≡ b || (a || c)
      moved true true c = refl
      moved true false c = refl
      moved false b c = refl

  -- its own changes lead from the list before to the list after
  own_applied : {leaves joins : ℕ → Message} → TakesOut f leaves → PutsIn f joins → (before after : List ℕ)
      → rising lo hi before ≡ true → rising lo hi after ≡ true
      → applied_all f before (changes_by leaves joins before after) ≡ after
  unfolding changes_by missing
  own_applied {leaves} {joins} out put before after e g =
      let taken = leaves_applied leaves out (missing before after) before e in
      let kept = applied_all f before (map leaves (missing before after)) in
      let risen = rising_filter (λ p. not (contains p before)) lo hi after g in
      let done = joins_applied joins put lo (missing after before) kept (le_refl lo) risen taken.risen (λ p t. taken.members p ∙ rw (new p t)) in
      applied_append f before (map leaves (missing before after)) (map joins (missing after before))
      ∙ rising_ext lo hi (applied_all f kept (map joins (missing after before))) after done.risen g
      (λ p. done.members p ∙ rw (taken.members p) (simp contains_filter (swapped (contains p before) (contains p after))))
    where
      new : (p : ℕ) → contains p (missing after before) ≡ true → contains p before ≡ false
      new p t = not-true (contains p before) (and_right (contains p after) (not (contains p before)) (sym (contains_filter (λ p. not (contains p before)) p after) ∙ t))

      swapped : (o n : Bool) → (o && not (o && not n)) || (n && not o) ≡ n
      swapped true true = refl
      swapped true false = refl
      swapped false true = refl
      swapped false false = refl

  -- the joins of a list lead to it from nothing
  pub first_applied : {joins : ℕ → Message} → PutsIn f joins → (l : List ℕ) → rising lo hi l ≡ true → applied_all f [] (map joins l) ≡ l
  unfolding rising contains any
  first_applied {joins} put l e =
      let done = joins_applied joins put lo l [] (le_refl lo) e refl (λ p t. refl) in
      rising_ext lo hi (applied_all f [] (map joins l)) l done.risen e done.members

-- ---- changes of another list

module _ (f : Follower) where
  -- messages of which none is applied
  pub unapplied : {message : ℕ → Message} → Ignores f message → (l held : List ℕ) → applied_all f held (map message l) ≡ held
  unapplied e [] held = applied_none f held
  unapplied {message} e (p ∷ l) held = applied_first f held held (message p) (map message l) (e.kept p held) ∙ unapplied e l held

  other_applied : {leaves joins : ℕ → Message} → Ignores f leaves → Ignores f joins → (before after held : List ℕ)
      → applied_all f held (changes_by leaves joins before after) ≡ held
  unfolding changes_by
  other_applied {leaves} {joins} e g before after held =
      applied_append f held (map leaves (missing before after)) (map joins (missing after before))
      ∙ rw (unapplied e (missing before after) held) (unapplied g (missing after before) held)

-- ---- whose changes are whose

-- a test that passes where another fails
and-true : (b : Bool) → b && true ≡ false → b ≡ false
and-true true e = e
and-true false e = refl

-- the kinds of a desk's changes are the desk's
own_kinds : (desk : Desk) (p : ℕ) (held : List ℕ)
    → (applied (leave_kind_of (desk_number desk)) (join_kind_of (desk_number desk)) (leave_kind_of (desk_number desk)) p held ≡ without p held)
    × (applied (leave_kind_of (desk_number desk)) (join_kind_of (desk_number desk)) (join_kind_of (desk_number desk)) p held ≡ insert p held)
unfolding applied leave_kind_of join_kind_of
own_kinds One p held = (refl, refl)
own_kinds Two p held = (refl, refl)

-- and not another's
other_kinds : (desk : Desk) (d : ℕ) → (d ≡ 1) ⊎ (d ≡ 2) → eqb d (desk_number desk) ≡ false → (p : ℕ) (held : List ℕ)
    → (applied (leave_kind_of (desk_number desk)) (join_kind_of (desk_number desk)) (leave_kind_of d) p held ≡ held)
    × (applied (leave_kind_of (desk_number desk)) (join_kind_of (desk_number desk)) (join_kind_of d) p held ≡ held)
unfolding applied leave_kind_of join_kind_of
other_kinds One d (inl e) f p held = absurd (eqb-false d 1 f e)
other_kinds One d (inr e) f p held = rw e (refl, refl)
other_kinds Two d (inl e) f p held = rw e (refl, refl)
other_kinds Two d (inr e) f p held = absurd (eqb-false d 2 f e)

module _ (desk : Desk) (n : ℕ) where
  -- the watcher of a desk's n
  abbrev own : Follower
  own = OfSize desk n

  -- it applied_message the changes of its watch
  module _ (w : ℕ) (mine : sized_for own w ≡ true) where
    desk_is : desk_in w ≡ desk_number desk
    unfolding sized_for of_desk
    desk_is = eqb-true (desk_in w) (desk_number desk) (and_left (of_desk desk w) (eqb (size_in w) n) mine)

    pub same_size : eqb (size_in w) n ≡ true
    unfolding sized_for
    same_size = and_right (of_desk desk w) (eqb (size_in w) n) mine

    pub size_takes : TakesOut own (leave w)
    unfolding applied_message applied_change
    size_takes = record { taken = λ p held. rw (same_size, desk_is) (own_kinds desk p held).0 }

    pub size_puts : PutsIn own (join w)
    unfolding applied_message applied_change
    size_puts = record { put = λ p held. rw (same_size, desk_is) (own_kinds desk p held).1 }

  -- not those of another watch
  module _ (N w : ℕ) (fine : is_watch N w ≡ true) (other : sized_for own w ≡ false) where
    other_change : (p : ℕ) (held : List ℕ) → (applied_message own held (leave w p) ≡ held) × (applied_message own held (join w p) ≡ held)
    unfolding applied_message applied_change sized_for of_desk
    other_change p held = go (eqb (size_in w) n) other
      where
        go : (b : Bool) → of_desk desk w && b ≡ false
            → (cond b (applied (leave_kind_of (desk_number desk)) (join_kind_of (desk_number desk)) (leave_kind_of (desk_in w)) p held) held ≡ held)
            × (cond b (applied (leave_kind_of (desk_number desk)) (join_kind_of (desk_number desk)) (join_kind_of (desk_in w)) p held) held ≡ held)
        go true e = other_kinds desk (desk_in w) (watch_desk N w fine) (and-true (of_desk desk w) e) p held
        go false e = (refl, refl)

    pub size_keeps_leave : Ignores own (leave w)
    size_keeps_leave = record { kept = λ p held. (other_change p held).0 }

    pub size_keeps_join : Ignores own (join w)
    size_keeps_join = record { kept = λ p held. (other_change p held).1 }

  -- nor those of the pair
  pub size_keeps_pair_leave : Ignores own pair_leave
  unfolding applied_message applied_position
  size_keeps_pair_leave = record { kept = λ p held. refl }

  pub size_keeps_pair_join : Ignores own pair_join
  unfolding applied_message applied_position
  size_keeps_pair_join = record { kept = λ p held. refl }

  -- two watches of a watcher are one
  pub sized_once : (v w : ℕ) → sized_for own v ≡ true → sized_for own w ≡ true → v ≡ w
  sized_once v w a b =
      record_injective v w (desk_is v a ∙ sym (desk_is w b))
      (eqb-true (size_in v) n (same_size v a) ∙ sym (eqb-true (size_in w) n (same_size w b)))

-- the watcher of the pair does not apply the changes of a watch
pub pair_keeps_leave : (w : ℕ) → Ignores OfPair (leave w)
unfolding applied_message applied_change
pair_keeps_leave w = record { kept = λ p held. refl }

pub pair_keeps_join : (w : ℕ) → Ignores OfPair (join w)
unfolding applied_message applied_change
pair_keeps_join w = record { kept = λ p held. refl }

-- it applied_message those of the pair
pub pair_takes : TakesOut OfPair pair_leave
unfolding applied_message applied_position applied
pair_takes = record { taken = λ p held. refl }

pub pair_puts : PutsIn OfPair pair_join
unfolding applied_message applied_position applied
pair_puts = record { put = λ p held. refl }

-- ---- the changes of every watch, and those of the pair

module _ (f : Follower) (before after : ℕ → List ℕ) where
  -- the changes of a watch, from the list of its n before to that after
  abbrev changes_of : ℕ → List Message
  changes_of w = changes w (before (size_in w)) (after (size_in w))

  -- changes of watches that are all another's are not applied
  others_applied : (watched held : List ℕ) → ((w : ℕ) → contains w watched ≡ true → Ignores f (leave w) × Ignores f (join w))
      → applied_all f held (all_changes watched before after) ≡ held
  unfolding all_changes changes flat applied_all contains any
  others_applied [] held e = refl
  others_applied (w ∷ ws) held e =
      let first = e w (or_left (eqb w w) (contains w ws) (eq-eqb w w refl)) in
      applied_append f held (changes_of w) (all_changes ws before after)
      ∙ rw (other_applied f first.0 first.1 (before (size_in w)) (after (size_in w)) held)
      (others_applied ws held (λ v t. e v (or_right (eqb v w) (contains v ws) t)))

module _ (desk : Desk) (n N : ℕ) (before after : ℕ → List ℕ) where
  -- the changes of watches that are not its are not applied by a watcher of n
  none_applied : (watched held : List ℕ) → ((w : ℕ) → contains w watched ≡ true → is_watch N w ≡ true)
      → ((w : ℕ) → contains w watched ≡ true → sized_for (OfSize desk n) w ≡ false)
      → applied_all (OfSize desk n) held (all_changes watched before after) ≡ held
  none_applied watched held each other =
      others_applied (OfSize desk n) before after watched held
      (λ w t. (size_keeps_leave desk n N w (each w t) (other w t), size_keeps_join desk n N w (each w t) (other w t)))

  -- the changes of all watches lead the watcher of a watched n from the list before to the list after
  all_applied : (lo hi a b : ℕ) (watched : List ℕ) → rising lo hi (before n) ≡ true → rising lo hi (after n) ≡ true
      → rising a b watched ≡ true → ((w : ℕ) → contains w watched ≡ true → is_watch N w ≡ true) → any (sized_for (OfSize desk n)) watched ≡ true
      → applied_all (OfSize desk n) (before n) (all_changes watched before after) ≡ after n
  unfolding all_changes changes flat contains any
  all_applied lo hi a b [] e g r each t = absurd (clash false t refl)
  all_applied lo hi a b (w ∷ ws) e g r each t =
      let u = rising_cons a b w ws r in
      applied_append (OfSize desk n) (before n) (changes_of (OfSize desk n) before after w) (all_changes ws before after)
      ∙ pick (either (sized_for (OfSize desk n) w)) u (λ h. all_applied lo hi (suc w) b ws e g u.rest rest h)
    where
      rest : (v : ℕ) → contains v ws ≡ true → is_watch N v ≡ true
      rest v s = each v (or_right (eqb v w) (contains v ws) s)

      pick : (sized_for (OfSize desk n) w ≡ true) ⊎ (sized_for (OfSize desk n) w ≡ false) → Rises a b w ws
          → (any (sized_for (OfSize desk n)) ws ≡ true → applied_all (OfSize desk n) (before n) (all_changes ws before after) ≡ after n)
          → applied_all (OfSize desk n) (applied_all (OfSize desk n) (before n) (changes_of (OfSize desk n) before after w)) (all_changes ws before after) ≡ after n
      pick (inl s) u more =
          rw (eqb-true (size_in w) n (same_size desk n w s), own_applied lo hi (OfSize desk n) (size_takes desk n w s) (size_puts desk n w s) (before n) (after n) e g)
          (none_applied ws (after n) rest (λ v i. refute (sized_for (OfSize desk n) v)
          (λ j. clash (contains v ws) i (rw (sized_once desk n v w j s) (rising_above (suc w) b w ws (le_refl (suc w)) u.rest)))))
      pick (inr s) u more =
          let fine = each w (or_left (eqb w w) (contains w ws) (eq-eqb w w refl)) in
          rw (other_applied (OfSize desk n) (size_keeps_leave desk n N w fine s) (size_keeps_join desk n N w fine s) (before (size_in w)) (after (size_in w)) (before n))
          (more (rw s at t))

module _ (lo hi : ℕ) (watched : List ℕ) (before after : ℕ → List ℕ) (pair pair' : List ℕ) where
  -- the changes of a quote lead the watcher of a watched n from the list before to the list after
  pub size_led : (N : ℕ) (desk : Desk) (n : ℕ) → rising lo hi (before n) ≡ true → rising lo hi (after n) ≡ true → Records N watched
      → any (sized_for (OfSize desk n)) watched ≡ true
      → applied_all (OfSize desk n) (before n) (all_changes watched before after ++ pair_changes pair pair') ≡ after n
  unfolding pair_changes
  size_led N desk n e g r t =
      applied_append (OfSize desk n) (before n) (all_changes watched before after) (pair_changes pair pair')
      ∙ rw (all_applied desk n N before after lo hi 1 highest watched e g r.risen r.each t)
      (other_applied (OfSize desk n) (size_keeps_pair_leave desk n) (size_keeps_pair_join desk n) pair pair' (after n))

  -- and the watcher of the pair
  pub pair_led : rising lo hi pair ≡ true → rising lo hi pair' ≡ true → applied_all OfPair pair (all_changes watched before after ++ pair_changes pair pair') ≡ pair'
  unfolding pair_changes
  pair_led e g =
      applied_append OfPair pair (all_changes watched before after) (pair_changes pair pair')
      ∙ rw (others_applied OfPair before after watched pair (λ w t. (pair_keeps_leave w, pair_keeps_join w)))
      (own_applied lo hi OfPair pair_takes pair_puts pair pair' e g)
