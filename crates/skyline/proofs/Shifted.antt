-- Who leaves and who joins the list of a window that moves on by one or stays, of rows at consecutive positions with any ends in their places.
use mathlib.Core.Path.{◌≡◌, refl, sym, ap, ap₂, ◌∙◌}
use mathlib.Core.Logic.{◌⊎◌, inl, inr}
use Prim.Native.Nat.{ℕ, suc, ◌+◌, ◌-◌, ◌≤◌, ◌<◌}
use native.Mathlib.Nat.{le_refl}
use native.Mathlib.Omega.{arith}
use native.Mathlib.Decide.{dec_lt}
use mathlib.Core.Bool.{Bool, true, false, ◌&&◌, ◌||◌, not, cond}
use mathlib.Core.List.{List, [], ◌++◌}
use lib.Dec.{ltb, eqb}
use borrow.Author.Tests.{lt-ltb, le-ltb, le-leb, eqb-true}
use Rattle.lists.specs.Lists.{keep, filter, run, contains}
use Rattle.lists.proofs.Booleans.{refute, and_left, and_false, or_right}
use Rattle.lists.proofs.Filters.{filter_append, filter_filter}
use Rattle.lists.proofs.Members.{mem_contains, contains_filter, filter_same_mem}
use Rattle.lists.proofs.Runs.{run_append, filter_same, filter_none, filter_from, filter_upto}
use Rattle.skyline.specs.Past.{covers}
use Rattle.skyline.proofs.Past.{of_covers}
use Rattle.skyline.proofs.Moved.{missing, covers_leaves, covers_joins}

and-true : (b : Bool) → b && true ≡ b
and-true true = refl
and-true false = refl

-- the members of one filter that another leaves out
missing_filter : (f g : ℕ → Bool) (l : List ℕ) → missing (filter f l) (filter g l) ≡ filter (λ p. f p && not (g p)) l
missing_filter f g l =
    filter_filter (λ p. not (contains p (filter g l))) f l
    ∙ filter_same_mem (λ p. f p && not (contains p (filter g l))) (λ p. f p && not (g p)) l
    (λ p m. ap (λ (b : Bool). f p && not b) (contains_filter g p l ∙ ap (λ (b : Bool). b && g p) (mem_contains p l m)))

-- an upper end is 0 or above b
abbrev pub above_or_none : ℕ → ℕ → Bool
above_or_none b upper = eqb upper 0 || ltb b upper

-- how a window inside the positions from first up to below first + count moves: from a to b before, from a' to b' after; where its end stays
-- no position is in both
pub record Moves (first count a a' b b' : ℕ) : Type 0 where
  pub inside : first ≤ a
  pub start : a ≤ a'
  pub start_by_one : a' ≤ suc a
  pub end : b ≤ b'
  pub end_by_one : b' ≤ suc b
  pub near : a' ≤ suc b
  pub held : b' < first + count
  pub old_start : a < a' → a ≤ b
  pub new_end : b < b' → a' ≤ b'
  pub still_empty : b' ≤ b → b < a'

module _ (lower upper : ℕ → ℕ) (first count a a' b b' : ℕ) (m : Moves first count a a' b b')
    (low : (p : ℕ) → first ≤ p → p < first + count → lower p < p) (up : (p : ℕ) → first ≤ p → p < first + count → (upper p ≡ 0) ⊎ (p < upper p)) where
  -- the row at p is on the list of a window
  abbrev on : ℕ → ℕ → ℕ → Bool
  on s e p = covers s e (lower p) p (upper p)

  -- the lists before and after
  abbrev before : List ℕ
  before = filter (on a b) (run first count)

  abbrev after : List ℕ
  after = filter (on a' b') (run first count)

  -- a filter that fails before one position and behind another
  cut_to : (f : ℕ → Bool) (s e : ℕ) → first ≤ s → s ≤ suc e → e < first + count → ((p : ℕ) → p < s → f p ≡ false) → ((p : ℕ) → e < p → f p ≡ false)
      → filter f (run first count) ≡ filter f (run s (suc e - s))
  cut_to f s e h k l early late =
      let cut : count ≡ (s - first) + ((suc e - s) + (first + count - suc e)) = omega arith in
      let mid : first + (s - first) ≡ s = omega arith in
      ap (λ (n : ℕ). filter f (run first n)) cut
      ∙ filter_from f first (s - first) ((suc e - s) + (first + count - suc e)) (λ q u v. early q (omega arith))
      ∙ ap (λ (x : ℕ). filter f (run x ((suc e - s) + (first + count - suc e)))) mid
      ∙ filter_upto f s (suc e - s) (first + count - suc e) (λ q u v. late q (omega arith))

  -- the parts of a filter of s to e, up to a position between and from there on
  parted : (f : ℕ → Bool) (s t e : ℕ) → s ≤ t → t ≤ suc e → filter f (run s (suc e - s)) ≡ filter f (run s (t - s)) ++ filter f (run t (suc e - t))
  parted f s t e h k =
      let cut : suc e - s ≡ (t - s) + (suc e - t) = omega arith in
      let mid : s + (t - s) ≡ t = omega arith in
      ap (λ (n : ℕ). filter f (run s n)) cut
      ∙ ap (filter f) (run_append s (t - s) (suc e - t))
      ∙ filter_append f (run s (t - s)) (run (s + (t - s)) (suc e - t))
      ∙ ap (λ (x : ℕ). filter f (run s (t - s)) ++ filter f (run x (suc e - t))) mid

  -- ---- leaves

  -- the row at p leaves
  abbrev leaves : ℕ → Bool
  leaves p = on a b p && (ltb p a' || eqb (upper p) b')

  was_on : (p : ℕ) → leaves p ≡ true → on a b p ≡ true
  was_on p t = and_left (on a b p) (ltb p a' || eqb (upper p) b') t

  gone : missing before after ≡ filter leaves (run first count)
  gone =
      missing_filter (on a b) (on a' b') (run first count)
      ∙ filter_same (λ p. on a b p && not (on a' b' p)) leaves first count (λ p u v. at p (on a b p) refl)
    where
      at : (p : ℕ) (t : Bool) → on a b p ≡ t → t && not (on a' b' p) ≡ t && (ltb p a' || eqb (upper p) b')
      at p true e = covers_leaves a a' b b' (lower p) p (upper p) m.start m.end m.end_by_one e
      at p false e = refl

  -- of those that stay in the window
  leaves_inside : (p : ℕ) → a' ≤ p → p ≤ b → leaves p ≡ eqb (upper p) b' && ltb (lower p) a
  unfolding covers
  leaves_inside p h k =
      let s = m.start in
      rw (le-leb a p (omega arith), le-leb p b k, le-ltb p a' h) (go (eqb (upper p) b') refl (ltb (lower p) a))
    where
      moved : b < b'
      moved = pick (dec_lt b b')
        where
          pick : Dec (b < b') → b < b'
          pick (yes w) = w
          pick (no w) = let n = m.still_empty (omega arith) in absurd (omega arith)

      go : (t : Bool) → eqb (upper p) b' ≡ t → (c : Bool) → (c && true && true && above_or_none b (upper p)) && (false || t) ≡ t && c
      go true e true =
          let z = eqb-true (upper p) b' e in
          let w = moved in
          rw (or_right (eqb (upper p) 0) (ltb b (upper p)) (lt-ltb b (upper p) (omega arith)))
      go true e false = refl
      go false e c = and_false (c && true && true && above_or_none b (upper p))

  -- of the one at the old start
  leaves_first : a < a' → leaves a ≡ above_or_none b (upper a)
  unfolding covers
  leaves_first h =
      let i = m.inside in
      let j = m.old_start h in
      let e = m.end in
      let r = m.held in
      rw (lt-ltb (lower a) a (low a i (omega arith)), le-leb a a (le_refl a), le-leb a b j, lt-ltb a a' h) (and-true (above_or_none b (upper a)))

  first_part : filter leaves (run a (a' - a)) ≡ keep (ltb a a' && above_or_none b (upper a)) a []
  unfolding filter run
  first_part = go (dec_lt a a')
    where
      go : Dec (a < a') → filter leaves (run a (a' - a)) ≡ keep (ltb a a' && above_or_none b (upper a)) a []
      go (yes h) =
          let by_one = m.start_by_one in
          let one : a' - a ≡ 1 = omega arith in
          rw one (ap (λ (t : Bool). keep t a []) (leaves_first h ∙ sym (ap (λ (t : Bool). t && above_or_none b (upper a)) (lt-ltb a a' h))))
      go (no h) = let none : a' - a ≡ 0 = omega arith in rw (none, le-ltb a a' (omega arith))

  -- the row at the old start leaves if the window moves past it and none of it was over that row, and then the rows that the new end is
  -- over and that were listed
  pub shifted_leaves : missing before after
      ≡ keep (ltb a a' && above_or_none b (upper a)) a [] ++ filter (λ p. eqb (upper p) b' && ltb (lower p) a) (run a' (suc b - a'))
  shifted_leaves =
      let s = m.start in
      let n = m.near in
      let e = m.end in
      let r = m.held in
      gone
      ∙ cut_to leaves a b m.inside (omega arith) (omega arith)
      (λ p h. refute (leaves p) (λ t. omega (arith, (of_covers a b (lower p) p (upper p) (was_on p t)).start)))
      (λ p h. refute (leaves p) (λ t. omega (arith, (of_covers a b (lower p) p (upper p) (was_on p t)).end)))
      ∙ parted leaves a a' b s n
      ∙ ap₂ {C = List ℕ} (λ (x y : List ℕ). x ++ y) first_part
      (filter_same leaves (λ p. eqb (upper p) b' && ltb (lower p) a) a' (suc b - a') (λ p u v. leaves_inside p u (omega arith)))

  -- ---- joins

  -- the row at p joins
  abbrev joins : ℕ → Bool
  joins p = on a' b' p && (ltb b p || eqb (lower p) a)

  is_on : (p : ℕ) → joins p ≡ true → on a' b' p ≡ true
  is_on p t = and_left (on a' b' p) (ltb b p || eqb (lower p) a) t

  come : missing after before ≡ filter joins (run first count)
  come =
      missing_filter (on a' b') (on a b) (run first count)
      ∙ filter_same (λ p. on a' b' p && not (on a b p)) joins first count (λ p u v. at p (on a' b' p) refl)
    where
      at : (p : ℕ) (t : Bool) → on a' b' p ≡ t → t && not (on a b p) ≡ t && (ltb b p || eqb (lower p) a)
      at p true e = covers_joins a a' b b' (lower p) p (upper p) m.start m.start_by_one m.end e
      at p false e = refl

  -- of those that were in the window
  joins_inside : (p : ℕ) → a' ≤ p → p ≤ b → joins p ≡ ltb a a' && (eqb (lower p) a && above_or_none b' (upper p))
  unfolding covers
  joins_inside p h k =
      let e = m.end in
      rw (le-leb a' p h, le-leb p b' (omega arith), le-ltb b p k) (go (eqb (lower p) a) refl (above_or_none b' (upper p)))
    where
      go : (t : Bool) → eqb (lower p) a ≡ t → (c : Bool) → (ltb (lower p) a' && true && true && c) && (false || t) ≡ ltb a a' && (t && c)
      go true e c = rw (eqb-true (lower p) a e) (four (ltb a a') c)
        where
          four : (x y : Bool) → (x && true && true && y) && true ≡ x && y
          four true y = and-true y
          four false y = refl
      go false e c = and_false (ltb (lower p) a' && true && true && c) ∙ sym (and_false (ltb a a'))

  -- of the one at the new end
  joins_last : b < b' → joins b' ≡ ltb (lower b') a'
  unfolding covers
  joins_last h =
      let i = m.inside in
      let s = m.start in
      let n = m.new_end h in
      rw (le-leb a' b' n, le-leb b' b' (le_refl b'), lt-ltb b b' h, over (up b' (omega arith) m.held)) (go (ltb (lower b') a'))
    where
      over : (upper b' ≡ 0) ⊎ (b' < upper b') → above_or_none b' (upper b') ≡ true
      over (inl e) = rw e
      over (inr w) = or_right (eqb (upper b') 0) (ltb b' (upper b')) (lt-ltb b' (upper b') w)

      go : (x : Bool) → (x && true && true && true) && true ≡ x
      go true = refl
      go false = refl

  last_part : filter joins (run (suc b) (suc b' - suc b)) ≡ keep (ltb b b' && ltb (lower b') a') b' []
  unfolding filter run
  last_part = go (dec_lt b b')
    where
      go : Dec (b < b') → filter joins (run (suc b) (suc b' - suc b)) ≡ keep (ltb b b' && ltb (lower b') a') b' []
      go (yes h) =
          let by_one = m.end_by_one in
          let one : suc b' - suc b ≡ 1 = omega arith in
          let same : suc b ≡ b' = omega arith in
          rw one
          (ap (λ (x : ℕ). filter joins (run x 1)) same
          ∙ ap (λ (t : Bool). keep t b' []) (joins_last h ∙ sym (ap (λ (t : Bool). t && ltb (lower b') a') (lt-ltb b b' h))))
      go (no h) = let none : suc b' - suc b ≡ 0 = omega arith in rw (none, le-ltb b b' (omega arith))

  inside_part : filter joins (run a' (suc b - a')) ≡ cond (ltb a a') (filter (λ p. eqb (lower p) a && above_or_none b' (upper p)) (run a' (suc b - a'))) []
  inside_part =
      filter_same joins (λ p. ltb a a' && (eqb (lower p) a && above_or_none b' (upper p))) a' (suc b - a')
      (λ p u v. joins_inside p u (let n = m.near in omega arith))
      ∙ go (ltb a a')
    where
      go : (t : Bool) → filter (λ p. t && (eqb (lower p) a && above_or_none b' (upper p))) (run a' (suc b - a'))
          ≡ cond t (filter (λ p. eqb (lower p) a && above_or_none b' (upper p)) (run a' (suc b - a'))) []
      go true = refl
      go false = filter_none (λ p. false) a' (suc b - a') (λ p u v. refl)

  -- the rows join that the old start was over, where the window moves past it, and then the row at the new end, if none of the window is
  -- over it
  pub shifted_joins : missing after before
      ≡ cond (ltb a a') (filter (λ p. eqb (lower p) a && above_or_none b' (upper p)) (run a' (suc b - a'))) [] ++ keep (ltb b b' && ltb (lower b') a') b' []
  shifted_joins =
      let i = m.inside in
      let s = m.start in
      let n = m.near in
      let e = m.end in
      come
      ∙ cut_to joins a' b' (omega arith) (omega arith) m.held
      (λ p h. refute (joins p) (λ t. omega (arith, (of_covers a' b' (lower p) p (upper p) (is_on p t)).start)))
      (λ p h. refute (joins p) (λ t. omega (arith, (of_covers a' b' (lower p) p (upper p) (is_on p t)).end)))
      ∙ parted joins a' (suc b) b' n (omega arith)
      ∙ ap₂ {C = List ℕ} (λ (x y : List ℕ). x ++ y) inside_part last_part
