-- Laws of membership: in filters, maps and lists of numbers.
use mathlib.Core.Path.{◌≡◌, refl, ap, ap₂}
use mathlib.Core.Logic.{◌⊎◌, inl, inr}
use Prim.Native.Nat.{ℕ}
use mathlib.Core.Bool.{Bool, true, false, ◌&&◌}
use mathlib.Core.List.Memᴰ
use mathlib.Core.List.{List, [], ◌∷◌, map, Memᴰ}
use lib.Dec.{eqb}
use borrow.Author.Tests.{eqb-true, eq-eqb}
use Rattle.lists.specs.Lists.{keep, filter, any, contains}
use Rattle.lists.proofs.Booleans.{agree, clash, refute, and_left, and_right, both, or_cases, or_left, or_right}

module _ {A : Type 0} where
  pub mem_any : (f : A → Bool) (x : A) (l : List A) → Memᴰ x l → f x ≡ true → any f l ≡ true
  unfolding any
  mem_any f x _ (Memᴰ.head {x = y} {xs} e) t = or_left (f y) (any f xs) (rw e at t)
  mem_any f x _ (Memᴰ.tail {x = y} {xs} m) t = or_right (f y) (any f xs) (mem_any f x xs m t)

  pub any_mem : (f : A → Bool) (l : List A) → any f l ≡ true → (x : A) × Memᴰ x l × (f x ≡ true)
  unfolding any
  any_mem f [] e = absurd (clash false e refl)
  any_mem f (y ∷ ys) e = go (or_cases (f y) (any f ys) e) (λ t. any_mem f ys t)
    where
      go : (f y ≡ true) ⊎ (any f ys ≡ true) → (any f ys ≡ true → (x : A) × Memᴰ x ys × (f x ≡ true)) → (x : A) × Memᴰ x (y ∷ ys) × (f x ≡ true)
      go (inl t) r = (y, Memᴰ.head refl, t)
      go (inr t) r = let z = r t in (z.0, Memᴰ.tail z.1, z.2)

  -- where no element passes, a member does not
  pub mem_none : (f : A → Bool) (x : A) (l : List A) → Memᴰ x l → any f l ≡ false → f x ≡ false
  mem_none f x l m e = refute (f x) (λ t. clash (any f l) (mem_any f x l m t) e)

  -- where no member passes, no element does
  pub none_mem : (f : A → Bool) (l : List A) → ((x : A) → Memᴰ x l → f x ≡ false) → any f l ≡ false
  none_mem f l h = refute (any f l) (λ e. let t = any_mem f l e in clash (f t.0) t.2 (h t.0 t.1))

  pub into_filter : (f : A → Bool) (x : A) (l : List A) → Memᴰ x l → f x ≡ true → Memᴰ x (filter f l)
  unfolding filter
  into_filter f x _ (Memᴰ.head {x = y} {xs} e) t = rw (rw e at t) (Memᴰ.head e)
  into_filter f x _ (Memᴰ.tail {x = y} {xs} m) t = go (f y) (into_filter f x xs m t)
    where
      go : (b : Bool) → Memᴰ x (filter f xs) → Memᴰ x (keep b y (filter f xs))
      go true r = Memᴰ.tail r
      go false r = r

  pub of_filter : (f : A → Bool) (x : A) (l : List A) → Memᴰ x (filter f l) → Memᴰ x l × (f x ≡ true)
  unfolding filter
  of_filter f x [] m = absurd (Memᴰ.not-nil m)
  of_filter f x (y ∷ ys) m = go (f y) refl m (λ r. of_filter f x ys r)
    where
      go : (b : Bool) → f y ≡ b → Memᴰ x (keep b y (filter f ys)) → (Memᴰ x (filter f ys) → Memᴰ x ys × (f x ≡ true)) → Memᴰ x (y ∷ ys) × (f x ≡ true)
      go true e m r = pick (Memᴰ.cases_cons m)
        where
          pick : (x ≡ y) ⊎ Memᴰ x (filter f ys) → Memᴰ x (y ∷ ys) × (f x ≡ true)
          pick (inl q) = (Memᴰ.head q, rw q e)
          pick (inr n) = (Memᴰ.tail (r n).0, (r n).1)
      go false e m r = (Memᴰ.tail (r m).0, (r m).1)

  -- two tests that agree on the members make one filter
  pub filter_same_mem : (f h : A → Bool) (l : List A) → ((x : A) → Memᴰ x l → f x ≡ h x) → filter f l ≡ filter h l
  unfolding filter
  filter_same_mem f h [] e = refl
  filter_same_mem f h (x ∷ xs) e = rw (e x (Memᴰ.head refl), filter_same_mem f h xs (λ z m. e z (Memᴰ.tail m)))

module _ {A B : Type 0} where
  pub into_map : (g : A → B) (x : A) (l : List A) → Memᴰ x l → Memᴰ (g x) (map g l)
  into_map g x _ (Memᴰ.head e) = Memᴰ.head (ap g e)
  into_map g x _ (Memᴰ.tail {xs = xs} m) = Memᴰ.tail (into_map g x xs m)

  pub of_map : (g : A → B) (y : B) (l : List A) → Memᴰ y (map g l) → (x : A) × Memᴰ x l × (y ≡ g x)
  of_map g y [] m = absurd (Memᴰ.not-nil m)
  of_map g y (x ∷ xs) m = go (Memᴰ.cases_cons m) (λ t. of_map g y xs t)
    where
      go : (y ≡ g x) ⊎ Memᴰ y (map g xs) → (Memᴰ y (map g xs) → (z : A) × Memᴰ z xs × (y ≡ g z)) → (z : A) × Memᴰ z (x ∷ xs) × (y ≡ g z)
      go (inl e) r = (x, Memᴰ.head refl, e)
      go (inr t) r = let z = r t in (z.0, Memᴰ.tail z.1, z.2)

  -- two functions that agree on the members map alike
  pub map_same_mem : (g h : A → B) (l : List A) → ((x : A) → Memᴰ x l → g x ≡ h x) → map g l ≡ map h l
  map_same_mem g h [] e = refl
  map_same_mem g h (x ∷ xs) e = ap₂ {C = List B} (λ (y : B) (r : List B). y ∷ r) (e x (Memᴰ.head refl)) (map_same_mem g h xs (λ z m. e z (Memᴰ.tail m)))

pub contains_mem : (p : ℕ) (l : List ℕ) → contains p l ≡ true → Memᴰ p l
unfolding contains
contains_mem p l e = let t = any_mem (eqb p) l e in rw (eqb-true p t.0 t.2) t.1

pub mem_contains : (p : ℕ) (l : List ℕ) → Memᴰ p l → contains p l ≡ true
unfolding contains
mem_contains p l m = mem_any (eqb p) p l m (eq-eqb p p refl)

pub contains_filter : (f : ℕ → Bool) (p : ℕ) (l : List ℕ) → contains p (filter f l) ≡ contains p l && f p
contains_filter f p l =
    agree (contains p (filter f l)) (contains p l && f p)
    (λ t. let m = of_filter f p l (contains_mem p (filter f l) t) in both (contains p l) (f p) (mem_contains p l m.0) m.1)
    (λ t. mem_contains p (filter f l) (into_filter f p l (contains_mem p l (and_left (contains p l) (f p) t)) (and_right (contains p l) (f p) t)))
