-- The shift over any dominance that shifts: of a window, its skyline, both ends of a position, and the changes between two lists.
use mathlib.Core.Path.{◌≡◌, refl, sym, ap, ◌∙◌}
use Prim.Native.Nat.{ℕ, suc, ◌+◌, ◌-◌, ◌≤◌}
use native.Mathlib.Omega.{arith}
use mathlib.Core.Bool.{Bool, true, false, not, cond}
use mathlib.Core.List.{List, [], ◌∷◌, map}
use lib.Dec.{eqb}
use borrow.Author.Tests.{eq-eqb, ne_eqb, eqb-true, eqb-false}
use Rattle.lists.specs.Lists.{filter, any, head_or, last_or, between, contains}
use Rattle.lists.proofs.Booleans.{agree}
use Rattle.lists.proofs.Filters.{filter_map, any_map, map_map, map-append}
use Rattle.lists.proofs.Runs.{filter_same, any_same, map_same, run_from}
use Rattle.skyline.specs.Skyline.{window_start, dominated_in, skyline}
use Rattle.skyline.specs.Past.{lower_end, upper_end}
use Rattle.model.specs.Changes.{missing}
use Rattle.model_late.specs.Shift.{moved, lift, shifted, Leaves, Joins, moved_change, list_changes}

-- ---- ends

-- an end that is none stays so, and any other moves
pub lift_zero : (m : ℕ) → lift m 0 ≡ 0
unfolding lift
lift_zero m = refl

pub lift_some : (m e : ℕ) → 1 ≤ e → lift m e ≡ moved m e
unfolding lift
lift_some m e h = rw (ne_eqb e 0 (λ z. omega arith))

-- a lifted end is none exactly if the end is none
pub lift_none : (m e : ℕ) → eqb (lift m e) 0 ≡ eqb e 0
unfolding lift
lift_none m e = go (eqb e 0) refl
  where
    go : (b : Bool) → eqb e 0 ≡ b → eqb (cond b 0 (moved m e)) 0 ≡ b
    go true t = refl
    go false t = ne_eqb (moved m e) 0 (λ z. eqb-false e 0 t (omega arith))

-- ---- windows

-- the window of n that is full starts m further on
pub start_moved : (m k n : ℕ) → n ≤ k → window_start (moved m k) n ≡ moved m (window_start k n)
unfolding window_start
start_moved m k n h = omega arith

-- the positions of a window, m further on
pub between_moved : (m a b : ℕ) → between (moved m a) (moved m b) ≡ shifted m (between a b)
unfolding between
between_moved m a b = let same : suc (m + b) - (m + a) ≡ suc b - a = omega arith in rw same (run_from m a (suc b - a))

-- ---- the first and the last of a list

last_map : (g : ℕ → ℕ) (z : ℕ) (l : List ℕ) → last_or (g z) (map g l) ≡ g (last_or z l)
unfolding last_or
last_map g z [] = refl
last_map g z (x ∷ xs) = last_map g x xs

head_map : (g : ℕ → ℕ) (z : ℕ) (l : List ℕ) → head_or (g z) (map g l) ≡ g (head_or z l)
unfolding head_or
head_map g z [] = refl
head_map g z (x ∷ xs) = refl

module _ (m : ℕ) (early late : ℕ → ℕ → Bool) (shifts : (p q : ℕ) → 1 ≤ p → 1 ≤ q → early (moved m p) (moved m q) ≡ late p q) where
  -- those of a window that are over a position
  over_moved : (a b p : ℕ) → 1 ≤ a → 1 ≤ p
      → filter (λ q. early q (moved m p)) (between (moved m a) (moved m b)) ≡ map (lift m) (filter (λ q. late q p) (between a b))
  unfolding between
  over_moved a b p h k =
      ap (filter (λ q. early q (moved m p))) (between_moved m a b)
      ∙ filter_map (λ q. early q (moved m p)) (moved m) (between a b)
      ∙ ap (shifted m) (filter_same (λ q. early (moved m q) (moved m p)) (λ q. late q p) a (suc b - a) (λ q u v. shifts q p (omega arith) k))
      ∙ map_same (λ q. late q p) (moved m) (lift m) a (suc b - a) (λ q u v t. sym (lift_some m q (omega arith)))

  -- the lower end of a position
  pub lower_moved : (S p : ℕ) → 1 ≤ S → 1 ≤ p → lower_end early (moved m S) (moved m p) ≡ lift m (lower_end late S p)
  unfolding lower_end
  lower_moved S p h k =
      let before : moved m p - 1 ≡ moved m (p - 1) = omega arith in
      rw before
      (ap (last_or 0) (over_moved S (p - 1) p h k)
      ∙ ap (λ (z : ℕ). last_or z (map (lift m) (filter (λ q. late q p) (between S (p - 1))))) (sym (lift_zero m))
      ∙ last_map (lift m) 0 (filter (λ q. late q p) (between S (p - 1))))

  -- its upper end
  pub upper_moved : (M p : ℕ) → 1 ≤ p → upper_end early (moved m M) (moved m p) ≡ lift m (upper_end late M p)
  unfolding upper_end
  upper_moved M p k =
      let behind : suc (moved m p) ≡ moved m (suc p) = omega arith in
      rw behind
      (ap (head_or 0) (over_moved (suc p) M p (omega arith) k)
      ∙ ap (λ (z : ℕ). head_or z (map (lift m) (filter (λ q. late q p) (between (suc p) M)))) (sym (lift_zero m))
      ∙ head_map (lift m) 0 (filter (λ q. late q p) (between (suc p) M)))

  -- whether a window has one over it
  dominated_moved : (a b p : ℕ) → 1 ≤ a → 1 ≤ p → dominated_in early (moved m a) (moved m b) (moved m p) ≡ dominated_in late a b p
  unfolding dominated_in between
  dominated_moved a b p h k =
      ap (any (λ q. early q (moved m p))) (between_moved m a b)
      ∙ any_map (λ q. early q (moved m p)) (moved m) (between a b)
      ∙ any_same (λ q. early (moved m q) (moved m p)) (λ q. late q p) a (suc b - a) (λ q u v. shifts q p (omega arith) k)

  -- the skyline of a window, now or past
  pub skyline_moved : (a b : ℕ) → 1 ≤ a → skyline early (moved m a) (moved m b) ≡ shifted m (skyline late a b)
  unfolding skyline between
  skyline_moved a b h =
      ap (filter (λ p. not (dominated_in early (moved m a) (moved m b) p))) (between_moved m a b)
      ∙ filter_map (λ p. not (dominated_in early (moved m a) (moved m b) p)) (moved m) (between a b)
      ∙ ap (shifted m)
      (filter_same (λ p. not (dominated_in early (moved m a) (moved m b) (moved m p))) (λ p. not (dominated_in late a b p)) a (suc b - a)
      (λ p u v. ap not (dominated_moved a b p h (omega arith))))

-- ---- changes

-- a position is on a list exactly if it is, m further on, on the list m further on
contains_moved : (m p : ℕ) (l : List ℕ) → contains (moved m p) (shifted m l) ≡ contains p l
unfolding contains any
contains_moved m p [] = refl
contains_moved m p (q ∷ l) = rw (same, contains_moved m p l)
  where
    same : eqb (moved m p) (moved m q) ≡ eqb p q
    same =
        agree (eqb (moved m p) (moved m q)) (eqb p q)
        (λ t. let e = eqb-true (moved m p) (moved m q) t in eq-eqb p q (omega arith))
        (λ t. let e = eqb-true p q t in eq-eqb (moved m p) (moved m q) (omega arith))

missing_moved : (m : ℕ) (these those : List ℕ) → missing (shifted m these) (shifted m those) ≡ shifted m (missing these those)
unfolding missing
missing_moved m these those =
    filter_map (λ p. not (contains p (shifted m those))) (moved m) these
    ∙ simp contains_moved

-- the changes between two lists
pub changes_moved : (m : ℕ) (before after : List ℕ) → list_changes (shifted m before) (shifted m after) ≡ map (moved_change m) (list_changes before after)
unfolding list_changes moved_change
changes_moved m before after =
    rw (
      missing_moved m before after,
      missing_moved m after before,
      map-append (moved_change m) (map Leaves (missing before after)) (map Joins (missing after before)),
      map_map Leaves (moved m) (missing before after),
      map_map Joins (moved m) (missing after before),
      map_map (moved_change m) Leaves (missing before after),
      map_map (moved_change m) Joins (missing after before),
    )

-- the joins of a list
pub joins_moved : (m : ℕ) (l : List ℕ) → map Joins (shifted m l) ≡ map (moved_change m) (map Joins l)
unfolding moved_change
joins_moved m l = map_map Joins (moved m) l ∙ sym (map_map (moved_change m) Joins l)
