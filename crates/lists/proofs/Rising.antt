-- Laws of rising lists: bounds, filters, insertion, and that members decide them.
use mathlib.Core.Path.{◌≡◌, refl, sym, ap, ◌∙◌, subst}
use mathlib.Core.Logic.{◌⊎◌, inl, inr}
use Prim.Native.Nat.{ℕ, zero, suc, ◌+◌, ◌-◌, ◌≤◌, ◌<◌}
use native.Mathlib.Nat.{le_refl}
use native.Mathlib.Omega.{arith}
use lib.Arith.{lt_of_le-ne}
use mathlib.Core.Bool.{Bool, true, false, ◌&&◌, ◌||◌, cond}
use mathlib.Core.List.{List, [], ◌∷◌, Memᴰ}
use lib.Dec.{ltb, leb, eqb}
use lib.ListN.{length}
use borrow.Author.Tests.{ltb-true, ltb-false, leb-true, le-leb, eqb-false, eq-eqb, ne_eqb}
use Rattle.lists.specs.Lists.{keep, filter, any, run, between, contains, rising, insert}
use Rattle.lists.proofs.Booleans.{either, and_left, and_right, none_left, none_right, or_swap}
use Rattle.lists.proofs.Members.{of_filter}
use Rattle.lists.proofs.Runs.{filter_same, filter_none, filter_from, of_run}

-- what rising says of a first element and the rest
pub record Rises (lo hi x : ℕ) (xs : List ℕ) : Type 0 where
  pub low : lo ≤ x
  pub high : x ≤ hi
  pub rest : rising (suc x) hi xs ≡ true

pub rising_cons : (lo hi x : ℕ) (xs : List ℕ) → rising lo hi (x ∷ xs) ≡ true → Rises lo hi x xs
unfolding rising
rising_cons lo hi x xs e =
    let u = and_left (leb lo x && leb x hi) (rising (suc x) hi xs) e in
    record {
      low = leb-true lo x (and_left (leb lo x) (leb x hi) u);
      high = leb-true x hi (and_right (leb lo x) (leb x hi) u);
      rest = and_right (leb lo x && leb x hi) (rising (suc x) hi xs) e;
    }

pub cons_rising : (lo hi x : ℕ) (xs : List ℕ) → Rises lo hi x xs → rising lo hi (x ∷ xs) ≡ true
unfolding rising
cons_rising lo hi x xs r = rw (le-leb lo x r.low, le-leb x hi r.high) r.rest

pub rising_run : (lo hi a k : ℕ) → lo ≤ a → a + k ≤ suc hi → rising lo hi (run a k) ≡ true
unfolding run rising
rising_run lo hi a zero h j = refl
rising_run lo hi a (suc k) h j = rw (le-leb lo a h, le-leb a hi (omega arith)) (rising_run (suc a) hi (suc a) k (le_refl (suc a)) (omega arith))

pub rising_between : (lo hi : ℕ) → lo ≤ suc hi → rising lo hi (between lo hi) ≡ true
unfolding between
rising_between lo hi h = rising_run lo hi lo (suc hi - lo) (le_refl lo) (omega arith)

-- from a lower bound on
pub rising_weak : (lo lo' hi : ℕ) (l : List ℕ) → lo ≤ lo' → rising lo' hi l ≡ true → rising lo hi l ≡ true
unfolding rising
rising_weak lo lo' hi [] h e = refl
rising_weak lo lo' hi (x ∷ xs) h e =
    let r = rising_cons lo' hi x xs e in
    cons_rising lo hi x xs record { low = omega arith; high = r.high; rest = r.rest }

pub rising_filter : (f : ℕ → Bool) (lo hi : ℕ) (l : List ℕ) → rising lo hi l ≡ true → rising lo hi (filter f l) ≡ true
unfolding filter
rising_filter f lo hi [] e = e
rising_filter f lo hi (x ∷ xs) e = let r = rising_cons lo hi x xs e in go (f x) r (rising_filter f (suc x) hi xs r.rest)
  where
    go : (b : Bool) → Rises lo hi x xs → rising (suc x) hi (filter f xs) ≡ true → rising lo hi (keep b x (filter f xs)) ≡ true
    go true r h = cons_rising lo hi x (filter f xs) record { low = r.low; high = r.high; rest = h }
    go false r h = rising_weak lo (suc x) hi (filter f xs) (let l = r.low in omega arith) h

-- what stands below the first bound is no member
pub rising_above : (lo hi p : ℕ) (l : List ℕ) → p < lo → rising lo hi l ≡ true → contains p l ≡ false
unfolding contains any
rising_above lo hi p [] h e = refl
rising_above lo hi p (x ∷ xs) h e =
    let r = rising_cons lo hi x xs e in
    let l = r.low in
    rw (ne_eqb p x (λ q. omega arith)) (rising_above (suc x) hi p xs (omega arith) r.rest)

-- a rising list is the numbers between its bounds that it contains
pub rising_is : (lo hi : ℕ) (l : List ℕ) → rising lo hi l ≡ true → l ≡ filter (λ p. contains p l) (run lo (suc hi - lo))
unfolding filter run contains any
rising_is lo hi [] e = sym (filter_none (λ p. false) lo (suc hi - lo) (λ q u v. refl))
rising_is lo hi (x ∷ xs) e =
    let r = rising_cons lo hi x xs e in
    let u = r.low in
    let v = r.high in
    let cut : suc hi - lo ≡ (x - lo) + suc (hi - x) = omega arith in
    let mid : lo + (x - lo) ≡ x = omega arith in
    let fin : suc hi - suc x ≡ hi - x = omega arith in
    sym (
    ap (λ (k : ℕ). filter f (run lo k)) cut
    ∙ filter_from f lo (x - lo) (suc (hi - x)) (λ q a b. rw (ne_eqb q x (λ w. omega arith)) (rising_above (suc x) hi q xs (omega arith) r.rest))
    ∙ ap (λ (a : ℕ). filter f (run a (suc (hi - x)))) mid
    ∙ rw (eq-eqb x x refl) (ap (λ (t : List ℕ). x ∷ t)
    (filter_same f (λ p. contains p xs) (suc x) (hi - x) (λ q a b. rw (ne_eqb q x (λ w. omega arith)))
    ∙ ap (λ (k : ℕ). filter (λ p. contains p xs) (run (suc x) k)) (sym fin)
    ∙ sym (rising_is (suc x) hi xs r.rest)))
    )
  where
    f : ℕ → Bool
    f p = contains p (x ∷ xs)

-- two rising lists with the same members are equal
pub rising_ext : (lo hi : ℕ) (l m : List ℕ) → rising lo hi l ≡ true → rising lo hi m ≡ true → ((p : ℕ) → contains p l ≡ contains p m) → l ≡ m
rising_ext lo hi l m e f h =
    rising_is lo hi l e ∙ filter_same (λ p. contains p l) (λ p. contains p m) lo (suc hi - lo) (λ q u v. h q) ∙ sym (rising_is lo hi m f)

pub rising_bounds : (lo hi p : ℕ) (l : List ℕ) → rising lo hi l ≡ true → Memᴰ p l → (lo ≤ p) × (p ≤ hi)
rising_bounds lo hi p l e m =
    let t = of_run lo (suc hi - lo) p (of_filter (λ q. contains q l) p (run lo (suc hi - lo)) (subst (λ (z : List ℕ). Memᴰ p z) (rising_is lo hi l e) m)).0 in
    (t.0, omega arith)

-- ---- insertion

pub length_insert : (x : ℕ) (l : List ℕ) → length (insert x l) ≡ suc (length l)
unfolding insert
length_insert x [] = refl
length_insert x (y ∷ ys) = go (ltb x y) (length_insert x ys)
  where
    go : (b : Bool) → length (insert x ys) ≡ suc (length ys) → length (cond b (x ∷ y ∷ ys) (y ∷ insert x ys)) ≡ suc (suc (length ys))
    go true h = refl
    go false h = ap suc h

pub contains_insert : (p x : ℕ) (l : List ℕ) → contains p (insert x l) ≡ eqb p x || contains p l
unfolding insert contains any
contains_insert p x [] = refl
contains_insert p x (y ∷ ys) = go (ltb x y) (contains_insert p x ys)
  where
    go : (b : Bool) → contains p (insert x ys) ≡ eqb p x || contains p ys → contains p (cond b (x ∷ y ∷ ys) (y ∷ insert x ys)) ≡ eqb p x || (eqb p y || contains p ys)
    go true e = refl
    go false e = ap (λ (z : Bool). eqb p y || z) e ∙ or_swap (eqb p y) (eqb p x) (contains p ys)

pub rising_insert : (lo hi x : ℕ) (l : List ℕ) → lo ≤ x → x ≤ hi → contains x l ≡ false → rising lo hi l ≡ true → rising lo hi (insert x l) ≡ true
unfolding insert contains any rising
rising_insert lo hi x [] h k f e = rw (le-leb lo x h, le-leb x hi k)
rising_insert lo hi x (y ∷ ys) h k f e =
    let r = rising_cons lo hi y ys e in
    go (either (ltb x y)) r (λ v. rising_insert (suc y) hi x ys v k (none_right (eqb x y) (contains x ys) f) r.rest)
  where
    go : (ltb x y ≡ true) ⊎ (ltb x y ≡ false) → Rises lo hi y ys → (suc y ≤ x → rising (suc y) hi (insert x ys) ≡ true)
        → rising lo hi (cond (ltb x y) (x ∷ y ∷ ys) (y ∷ insert x ys)) ≡ true
    go (inl t) r ih = rw (t, le-leb lo x h, le-leb x hi k, le-leb (suc x) y (ltb-true x y t), le-leb y hi r.high) r.rest
    go (inr t) r ih =
        rw (t, le-leb lo y r.low, le-leb y hi r.high)
        (ih (let a = ltb-false x y t in let b : x ≡ y → ⊥ = eqb-false x y (none_left (eqb x y) (contains x ys) f) in lt_of_le-ne a (λ q. b (sym q))))
