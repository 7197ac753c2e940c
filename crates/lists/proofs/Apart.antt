-- Parts of lists: two tests that never both pass, rising lists within rising lists, one more at the
-- end, wider bounds, and membership in what is put together or taken out.
use mathlib.Core.Path.{◌≡◌, refl, sym, ap, ◌∙◌}
use Prim.Native.Nat.{ℕ, suc, ◌+◌, ◌≤◌, ◌<◌}
use native.Mathlib.Nat.{le_refl}
use native.Mathlib.Omega.{arith}
use mathlib.Core.Bool.{Bool, true, false, ◌&&◌, ◌||◌, not}
use mathlib.Core.List.{List, [], ◌∷◌, ◌++◌, map}
use lib.Dec.{eqb}
use lib.ListN.{length}
use borrow.Author.Tests.{le-leb, eqb-true, eq-eqb}
use Rattle.lists.specs.Lists.{keep, filter, contains, rising, without}
use Rattle.lists.proofs.Booleans.{agree, clash, and_right, both}
use Rattle.lists.proofs.Filters.{any_append}
use Rattle.lists.proofs.Members.{of_filter, into_map, of_map, contains_mem, mem_contains, contains_filter}
use Rattle.lists.proofs.Rising.{Rises, rising_cons, cons_rising, rising_weak, rising_filter, rising_ext}

-- two tests that never both pass, over any list
pub length_apart : {A : Type 0} (f g : A → Bool) (l : List A) → ((x : A) → f x && g x ≡ false) → length (filter f l) + length (filter g l) ≤ length l
unfolding filter
length_apart f g [] h = le_refl 0
length_apart {A} f g (x ∷ xs) h = go (f x) (g x) (h x) (length_apart f g xs h)
  where
    F : List A
    F = filter f xs

    G : List A
    G = filter g xs

    go : (b c : Bool) → b && c ≡ false → length F + length G ≤ length xs → length (keep b x F) + length (keep c x G) ≤ suc (length xs)
    go true true e r = absurd (clash true refl e)
    go true false e r = omega arith
    go false true e r = omega arith
    go false false e r = omega arith

module _ (lo hi : ℕ) where
  -- a rising list whose members are all in another is a filter of it
  rising_part : (l m : List ℕ) → rising lo hi l ≡ true → rising lo hi m ≡ true → ((p : ℕ) → contains p l ≡ true → contains p m ≡ true)
      → l ≡ filter (λ p. contains p l) m
  rising_part l m e f part =
      rising_ext lo hi l (filter (λ p. contains p l) m) e (rising_filter (λ p. contains p l) lo hi m f)
      (λ p. sym (contains_filter (λ p. contains p l) p m ∙ agree (contains p m && contains p l) (contains p l) (and_right (contains p m) (contains p l)) (λ t. both (contains p m) (contains p l) (part p t) t)))

  -- two rising lists without a common member are together no longer than a rising list that has the members of both
  pub parts_fit : (l k m : List ℕ) → rising lo hi l ≡ true → rising lo hi k ≡ true → rising lo hi m ≡ true
      → ((p : ℕ) → contains p l ≡ true → contains p m ≡ true) → ((p : ℕ) → contains p k ≡ true → contains p m ≡ true)
      → ((p : ℕ) → contains p l && contains p k ≡ false) → length l + length k ≤ length m
  parts_fit l k m el ek em pl pk apart =
      let bl = ap length (rising_part l m el em pl) in
      let bk = ap length (rising_part k m ek em pk) in
      omega (arith, length_apart (λ p. contains p l) (λ p. contains p k) m apart, bl, bk)

-- a rising list of images stays rising where a test is made of what they are images of
pub rising_map_filter : {A : Type 0} (g : A → ℕ) (f : A → Bool) (lo hi : ℕ) (l : List A) → rising lo hi (map g l) ≡ true → rising lo hi (map g (filter f l)) ≡ true
unfolding filter
rising_map_filter g f lo hi [] e = e
rising_map_filter {A} g f lo hi (x ∷ xs) e = let r = rising_cons lo hi (g x) (map g xs) e in go (f x) r (rising_map_filter g f (suc (g x)) hi xs r.rest)
  where
    go : (b : Bool) → Rises lo hi (g x) (map g xs) → rising (suc (g x)) hi (map g (filter f xs)) ≡ true → rising lo hi (map g (keep b x (filter f xs))) ≡ true
    go true r h = cons_rising lo hi (g x) (map g (filter f xs)) record { low = r.low; high = r.high; rest = h }
    go false r h = rising_weak lo (suc (g x)) hi (map g (filter f xs)) (let l = r.low in omega arith) h

-- one more at the end
pub rising_snoc : (lo hi x : ℕ) (l : List ℕ) → lo ≤ x → hi < x → rising lo hi l ≡ true → rising lo x (l ++ (x ∷ [])) ≡ true
unfolding rising
rising_snoc lo hi x [] h k e = rw (le-leb lo x h, le-leb x x (le_refl x))
rising_snoc lo hi x (y ∷ ys) h k e =
    let r = rising_cons lo hi y ys e in
    let u = r.high in
    cons_rising lo x y (ys ++ (x ∷ [])) record { low = r.low; high = omega arith; rest = rising_snoc (suc y) hi x ys (omega arith) k r.rest }

-- up to a higher bound
pub rising_wide : (lo hi hi' : ℕ) (l : List ℕ) → hi ≤ hi' → rising lo hi l ≡ true → rising lo hi' l ≡ true
unfolding rising
rising_wide lo hi hi' [] h e = refl
rising_wide lo hi hi' (x ∷ xs) h e =
    let r = rising_cons lo hi x xs e in
    let u = r.high in
    cons_rising lo hi' x xs record { low = r.low; high = omega arith; rest = rising_wide (suc x) hi hi' xs h r.rest }

-- an image of what passes a test is an image
pub contains_map_filter : {A : Type 0} (g : A → ℕ) (f : A → Bool) (l : List A) (p : ℕ) → contains p (map g (filter f l)) ≡ true → contains p (map g l) ≡ true
contains_map_filter g f l p e =
    let t = of_map g p (filter f l) (contains_mem p (map g (filter f l)) e) in
    mem_contains p (map g l) (rw t.2 (into_map g t.0 l (of_filter f t.0 l t.1).0))

pub contains_append : (p : ℕ) (l m : List ℕ) → contains p (l ++ m) ≡ contains p l || contains p m
unfolding contains
contains_append p l m = any_append (eqb p) l m

pub eqb_swap : (a b : ℕ) → eqb a b ≡ eqb b a
eqb_swap a b = agree (eqb a b) (eqb b a) (λ t. eq-eqb b a (sym (eqb-true a b t))) (λ t. eq-eqb a b (sym (eqb-true b a t)))

pub contains_without : (q p : ℕ) (l : List ℕ) → contains q (without p l) ≡ contains q l && not (eqb q p)
unfolding without
contains_without q p l = contains_filter (λ y. not (eqb p y)) q l ∙ ap (λ (b : Bool). contains q l && not b) (eqb_swap p q)
