-- What one more element does: to the tests of a prefix, and to a list written over the front of another.
use mathlib.Core.Path.{◌≡◌, refl, ap}
use Prim.Native.Nat.{ℕ, suc, ◌+◌, ◌-◌, ◌<◌, ◌≤◌}
use native.Mathlib.Numerals.{add-one}
use native.Mathlib.Omega.{arith}
use mathlib.Core.Bool.{Bool, true, false, ◌||◌}
use mathlib.Core.List.{List, [], ◌∷◌, ◌++◌, append_assoc}
use lib.ListN.{length, get_or, take, drop, set, replicate, length-append, length-take}
use lib.Seq.{take-suc, drop-cons, set_at}
use Rattle.lists.specs.Lists.{keep, filter, any, laid, padded}
use Rattle.lists.proofs.Filters.{filter_append, length_filter, any_append}

or-false : (b : Bool) → b || false ≡ b
or-false true = refl
or-false false = refl

-- no more elements of a prefix pass than it has
pub length_prefix : {A : Type 0} (f : A → Bool) (l : List A) (i : ℕ) → length (filter f (take i l)) ≤ i
length_prefix f l i = omega (arith, length_filter f (take i l), length-take i l)

module _ {A : Type 0} (f : A → Bool) (l : List A) (i : ℕ) (d : A) (h : i < length l) where
  -- a prefix longer by one element passes one element more, or none
  pub filter_more : filter f (take (suc i) l) ≡ filter f (take i l) ++ keep (f (get_or l i d)) (get_or l i d) []
  unfolding filter
  filter_more = rw (take-suc l i d h) (filter_append f (take i l) (get_or l i d ∷ []))

  -- an element passes in a prefix longer by one if one did before, or the new one does
  pub any_more : any f (take (suc i) l) ≡ any f (take i l) || f (get_or l i d)
  unfolding any
  any_more = rw (take-suc l i d h, any_append) (ap (λ (b : Bool). any f (take i l) || b) (or-false (f (get_or l i d))))

-- one more written behind what is written
pub padded_more : (n : ℕ) (l before : List ℕ) (x : ℕ) → length l < n → set (padded n l before) (length l) x ≡ padded n (l ++ (x ∷ [])) before
unfolding padded
padded_more n l before x h =
    let e : n - length l ≡ suc (n - (length l + 1)) = omega arith in
    rw (e, append_assoc, length-append) (set_at l 0 (replicate (n - (length l + 1)) 0 ++ drop n before) x (length l) refl)

pub laid_more : (l before : List ℕ) (x : ℕ) → length l < length before → set (laid l before) (length l) x ≡ laid (l ++ (x ∷ [])) before
unfolding laid
laid_more l before x h =
    rw (drop-cons before (length l) 0 h, append_assoc, length-append, add-one) (set_at l (get_or before (length l) 0) (drop (suc (length l)) before) x (length l) refl)
