-- Laws of `filter`, `any`, `last_or` and `flat` over any list.
use mathlib.Core.Path.{◌≡◌, refl, sym, ap, ◌∙◌}
use Prim.Native.Nat.{suc, ◌≤◌}
use native.Mathlib.Nat.{le_refl}
use native.Mathlib.Omega.{arith}
use mathlib.Core.Bool.{Bool, true, false, ◌&&◌, ◌||◌}
use mathlib.Core.List.{List, [], ◌∷◌, ◌++◌, map, append_assoc}
use lib.ListN.{length}
use Rattle.lists.specs.Lists.{keep, filter, any, last_or, flat}
use Rattle.lists.proofs.Booleans.{or_assoc}

module _ {A : Type 0} where
  keep_append : (b : Bool) (x : A) (l m : List A) → keep b x l ++ m ≡ keep b x (l ++ m)
  keep_append true x l m = refl
  keep_append false x l m = refl

  pub filter_append : (f : A → Bool) (l m : List A) → filter f (l ++ m) ≡ filter f l ++ filter f m
  unfolding filter
  filter_append f [] m = refl
  filter_append f (x ∷ xs) m = ap (λ (r : List A). keep (f x) x r) (filter_append f xs m) ∙ sym (keep_append (f x) x (filter f xs) (filter f m))

  filter_keep : (f : A → Bool) (b : Bool) (x : A) (l : List A) → filter f (keep b x l) ≡ keep (b && f x) x (filter f l)
  unfolding filter
  filter_keep f true x l = refl
  filter_keep f false x l = refl

  -- a filter of a filter is one filter by both tests
  pub filter_filter : (f g : A → Bool) (l : List A) → filter f (filter g l) ≡ filter (λ x. g x && f x) l
  unfolding filter
  filter_filter f g [] = refl
  filter_filter f g (x ∷ xs) = filter_keep f (g x) x (filter g xs) ∙ ap (λ (r : List A). keep (g x && f x) x r) (filter_filter f g xs)

  pub length_filter : (f : A → Bool) (l : List A) → length (filter f l) ≤ length l
  unfolding filter
  length_filter f [] = le_refl 0
  length_filter f (x ∷ xs) = go (f x) (length_filter f xs)
    where
      go : (b : Bool) → length (filter f xs) ≤ length xs → length (keep b x (filter f xs)) ≤ suc (length xs)
      go true h = omega arith
      go false h = omega arith

  pub any_append : (f : A → Bool) (l m : List A) → any f (l ++ m) ≡ any f l || any f m
  unfolding any
  any_append f [] m = refl
  any_append f (x ∷ xs) m = rw (any_append f xs m) (or_assoc (f x) (any f xs) (any f m))

  pub last_snoc : (z : A) (l : List A) (x : A) → last_or z (l ++ (x ∷ [])) ≡ x
  unfolding last_or
  last_snoc z [] x = refl
  last_snoc z (y ∷ ys) x = last_snoc y ys x

  pub flat_append : (l m : List (List A)) → flat (l ++ m) ≡ flat l ++ flat m
  unfolding flat
  flat_append [] m = refl
  flat_append (x ∷ xs) m = rw (flat_append xs m) (sym (append_assoc x (flat xs) (flat m)))

pub filter_map : {A B : Type 0} (f : B → Bool) (g : A → B) (l : List A) → filter f (map g l) ≡ map g (filter (λ a. f (g a)) l)
unfolding filter
filter_map f g [] = refl
filter_map {A} {B} f g (x ∷ xs) = rw (filter_map f g xs) (go (f (g x)))
  where
    R : List A
    R = filter (λ a. f (g a)) xs

    go : (b : Bool) → keep b (g x) (map g R) ≡ map g (keep b x R)
    go true = refl
    go false = refl

pub any_map : {A B : Type 0} (f : B → Bool) (g : A → B) (l : List A) → any f (map g l) ≡ any (λ a. f (g a)) l
unfolding any
any_map f g [] = refl
any_map f g (x ∷ xs) = ap (λ (b : Bool). f (g x) || b) (any_map f g xs)

pub map-append : {A B : Type 0} (f : A → B) (l m : List A) → map f (l ++ m) ≡ map f l ++ map f m
map-append f [] m = refl
map-append {B = B} f (x ∷ xs) m = ap (λ (r : List B). f x ∷ r) (map-append f xs m)

pub map_map : {A B C : Type 0} (f : B → C) (g : A → B) (l : List A) → map f (map g l) ≡ map (λ a. f (g a)) l
map_map f g [] = refl
map_map {C = C} f g (x ∷ xs) = ap (λ (r : List C). f (g x) ∷ r) (map_map f g xs)

pub map-id : {A : Type 0} (l : List A) → map (λ a. a) l ≡ l
map-id [] = refl
map-id {A} (x ∷ xs) = ap (λ (r : List A). x ∷ r) (map-id xs)
