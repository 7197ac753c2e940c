-- Laws of runs of numbers: their parts, tests over them, the first and the last that pass.
use mathlib.Core.Path.{◌≡◌, refl, sym, ap, ◌∙◌}
use mathlib.Core.Logic.{◌⊎◌, inl, inr}
use Prim.Native.Nat.{ℕ, zero, suc, ◌+◌, ◌-◌, ◌≤◌, ◌<◌}
use native.Mathlib.Nat.{add-suc, suc-add, add-zero, zero-add, le_refl}
use native.Mathlib.Omega.{arith}
use native.Mathlib.Numerals.{add-one}
use native.Mathlib.Decide.{dec_le, dec_lt}
use mathlib.Core.Bool.{Bool, true, false}
use mathlib.Core.List.Memᴰ
use mathlib.Core.List.{List, [], ◌∷◌, ◌++◌, map, Memᴰ, append-nil}
use lib.ListN.{length, get_or}
use Rattle.lists.specs.Lists.{keep, filter, any, head_or, last_or, run, between}
use Rattle.lists.proofs.Booleans.{clash, none_left, none_right}
use Rattle.lists.proofs.Filters.{filter_append, filter_map}

pub length_run : (a k : ℕ) → length (run a k) ≡ k
unfolding run
length_run a zero = refl
length_run a (suc k) = ap suc (length_run (suc a) k)

pub run_append : (a k j : ℕ) → run a (k + j) ≡ run a k ++ run (a + k) j
unfolding run
run_append a zero j = rw (zero-add, add-zero)
run_append a (suc k) j = rw (suc-add, add-suc, ← suc-add) (ap (λ (r : List ℕ). a ∷ r) (run_append (suc a) k j))

-- one more at the end
pub run_snoc : (a k : ℕ) → run a (suc k) ≡ run a k ++ ((a + k) ∷ [])
unfolding run
run_snoc a k = ap (run a) (sym (add-one k)) ∙ run_append a k 1

pub between_snoc : (a b : ℕ) → a ≤ suc b → between a (suc b) ≡ between a b ++ (suc b ∷ [])
unfolding between
between_snoc a b h =
    let k : suc (suc b) - a ≡ suc (suc b - a) = omega arith in
    let e : a + (suc b - a) ≡ suc b = omega arith in
    ap (run a) k ∙ run_snoc a (suc b - a) ∙ ap (λ (x : ℕ). run a (suc b - a) ++ (x ∷ [])) e

pub get_or_run : {A : Type 0} (g : ℕ → A) (z : A) (a k i : ℕ) → i < k → get_or (map g (run a k)) i z ≡ g (a + i)
unfolding run
get_or_run g z a zero i h = absurd (omega arith)
get_or_run g z a (suc k) zero h = rw add-zero
get_or_run g z a (suc k) (suc i) h = rw (add-suc, ← suc-add) (get_or_run g z (suc a) k i (omega arith))

-- ---- tests over a run

pub filter_same : (f g : ℕ → Bool) (a k : ℕ) → ((q : ℕ) → a ≤ q → q < a + k → f q ≡ g q) → filter f (run a k) ≡ filter g (run a k)
unfolding filter run
filter_same f g a zero h = refl
filter_same f g a (suc k) h =
    rw (h a (le_refl a) (omega arith)) (ap (λ (r : List ℕ). keep (g a) a r) (filter_same f g (suc a) k (λ q u v. h q (omega arith) (omega arith))))

pub any_same : (f g : ℕ → Bool) (a k : ℕ) → ((q : ℕ) → a ≤ q → q < a + k → f q ≡ g q) → any f (run a k) ≡ any g (run a k)
unfolding any run
any_same f g a zero h = refl
any_same f g a (suc k) h = rw (h a (le_refl a) (omega arith), any_same f g (suc a) k (λ q u v. h q (omega arith) (omega arith)))

pub filter_none : (f : ℕ → Bool) (a k : ℕ) → ((q : ℕ) → a ≤ q → q < a + k → f q ≡ false) → filter f (run a k) ≡ []
unfolding filter run
filter_none f a zero h = refl
filter_none f a (suc k) h = rw (h a (le_refl a) (omega arith)) (filter_none f (suc a) k (λ q u v. h q (omega arith) (omega arith)))

pub filter_all : (f : ℕ → Bool) (a k : ℕ) → ((q : ℕ) → a ≤ q → q < a + k → f q ≡ true) → filter f (run a k) ≡ run a k
unfolding filter run
filter_all f a zero h = refl
filter_all f a (suc k) h = rw (h a (le_refl a) (omega arith)) (ap (λ (r : List ℕ). a ∷ r) (filter_all f (suc a) k (λ q u v. h q (omega arith) (omega arith))))

pub any_none : (f : ℕ → Bool) (a k : ℕ) → ((q : ℕ) → a ≤ q → q < a + k → f q ≡ false) → any f (run a k) ≡ false
unfolding any run
any_none f a zero h = refl
any_none f a (suc k) h = rw (h a (le_refl a) (omega arith)) (any_none f (suc a) k (λ q u v. h q (omega arith) (omega arith)))

pub none_any : (f : ℕ → Bool) (a k : ℕ) → any f (run a k) ≡ false → (q : ℕ) → a ≤ q → q < a + k → f q ≡ false
unfolding any run
none_any f a zero e q u v = absurd (omega arith)
none_any f a (suc k) e q u v = go (dec_le (suc a) q) (λ w. none_any f (suc a) k (none_right (f a) (any f (run (suc a) k)) e) q w (omega arith))
  where
    go : Dec (suc a ≤ q) → (suc a ≤ q → f q ≡ false) → f q ≡ false
    go (yes w) r = r w
    go (no n) r = let z : q ≡ a = omega arith in rw z (none_left (f a) (any f (run (suc a) k)) e)

pub order : (a b : ℕ) → (a < b) ⊎ ((a ≡ b) ⊎ (b < a))
order a b = go (dec_lt a b) (dec_lt b a)
  where
    go : Dec (a < b) → Dec (b < a) → (a < b) ⊎ ((a ≡ b) ⊎ (b < a))
    go (yes h) d = inl h
    go (no h) (yes k) = inr (inr k)
    go (no h) (no k) = inr (inl (omega arith))

-- ---- the last of a run that passes

pub record Last (f : ℕ → Bool) (a k y : ℕ) : Type 0 where
  pub low : a ≤ y
  pub high : y < a + k
  pub passes : f y ≡ true
  pub after : (q : ℕ) → y < q → q < a + k → f q ≡ false

-- none passes, or the last that does is found
pub last_spec : (f : ℕ → Bool) (z a k : ℕ) → ((last_or z (filter f (run a k)) ≡ z) × ((q : ℕ) → a ≤ q → q < a + k → f q ≡ false)) ⊎ Last f a k (last_or z (filter f (run a k)))
unfolding filter last_or run
last_spec f z a zero = inl (refl, λ q u v. absurd (omega arith))
last_spec f z a (suc k) = go (f a) refl (last_spec f z (suc a) k) (last_spec f a (suc a) k)
  where
    R : List ℕ
    R = filter f (run (suc a) k)

    go : (b : Bool) → f a ≡ b → ((last_or z R ≡ z) × ((q : ℕ) → suc a ≤ q → q < suc a + k → f q ≡ false)) ⊎ Last f (suc a) k (last_or z R)
        → ((last_or a R ≡ a) × ((q : ℕ) → suc a ≤ q → q < suc a + k → f q ≡ false)) ⊎ Last f (suc a) k (last_or a R)
        → ((last_or z (keep b a R) ≡ z) × ((q : ℕ) → a ≤ q → q < a + suc k → f q ≡ false)) ⊎ Last f a (suc k) (last_or z (keep b a R))
    go true e r (inl t) = inr (rw t.0 (record { low = le_refl a; high = omega arith; passes = e; after = λ q u v. t.1 q u (omega arith) }))
    go true e r (inr t) = inr (record { low = omega arith; high = omega arith; passes = t.passes; after = λ q u v. t.after q u (omega arith) })
    go false e (inl t) r = inl (t.0, λ q u v. here q u v (dec_le (suc a) q))
      where
        here : (q : ℕ) → a ≤ q → q < a + suc k → Dec (suc a ≤ q) → f q ≡ false
        here q u v (yes w) = t.1 q w (omega arith)
        here q u v (no n) = let s : q ≡ a = omega arith in rw s e
    go false e (inr t) r = inr (record { low = omega arith; high = omega arith; passes = t.passes; after = λ q u v. t.after q u (omega arith) })

pub last_none : (f : ℕ → Bool) (z a k : ℕ) → ((q : ℕ) → a ≤ q → q < a + k → f q ≡ false) → last_or z (filter f (run a k)) ≡ z
unfolding last_or
last_none f z a k h = rw (filter_none f a k h)

pub last_at : (f : ℕ → Bool) (z a k y : ℕ) → Last f a k y → last_or z (filter f (run a k)) ≡ y
last_at f z a k y l = go (last_spec f z a k)
  where
    x : ℕ
    x = last_or z (filter f (run a k))

    cmp : Last f a k x → (x < y) ⊎ ((x ≡ y) ⊎ (y < x)) → x ≡ y
    cmp m (inl h) = absurd (clash (f y) l.passes (m.after y h l.high))
    cmp m (inr (inl h)) = h
    cmp m (inr (inr h)) = absurd (clash (f x) m.passes (l.after x h m.high))

    go : ((x ≡ z) × ((q : ℕ) → a ≤ q → q < a + k → f q ≡ false)) ⊎ Last f a k x → x ≡ y
    go (inl t) = absurd (clash (f y) l.passes (t.1 y l.low l.high))
    go (inr m) = cmp m (order x y)

-- ---- the first of a run that passes

pub record First (f : ℕ → Bool) (a k y : ℕ) : Type 0 where
  pub low : a ≤ y
  pub high : y < a + k
  pub passes : f y ≡ true
  pub before : (q : ℕ) → a ≤ q → q < y → f q ≡ false

-- none passes, or the first that does is found
pub first_spec : (f : ℕ → Bool) (z a k : ℕ) → ((head_or z (filter f (run a k)) ≡ z) × ((q : ℕ) → a ≤ q → q < a + k → f q ≡ false)) ⊎ First f a k (head_or z (filter f (run a k)))
unfolding filter head_or run
first_spec f z a zero = inl (refl, λ q u v. absurd (omega arith))
first_spec f z a (suc k) = go (f a) refl (first_spec f z (suc a) k)
  where
    R : List ℕ
    R = filter f (run (suc a) k)

    from : f a ≡ false → (q : ℕ) → a ≤ q → (suc a ≤ q → f q ≡ false) → Dec (suc a ≤ q) → f q ≡ false
    from e q u r (yes w) = r w
    from e q u r (no n) = let s : q ≡ a = omega arith in rw s e

    go : (b : Bool) → f a ≡ b → ((head_or z R ≡ z) × ((q : ℕ) → suc a ≤ q → q < suc a + k → f q ≡ false)) ⊎ First f (suc a) k (head_or z R)
        → ((head_or z (keep b a R) ≡ z) × ((q : ℕ) → a ≤ q → q < a + suc k → f q ≡ false)) ⊎ First f a (suc k) (head_or z (keep b a R))
    go true e r = inr (record { low = le_refl a; high = omega arith; passes = e; before = λ q u v. absurd (omega arith) })
    go false e (inl t) = inl (t.0, λ q u v. from e q u (λ w. t.1 q w (omega arith)) (dec_le (suc a) q))
    go false e (inr t) = inr (record { low = omega arith; high = omega arith; passes = t.passes; before = λ q u v. from e q u (λ w. t.before q w v) (dec_le (suc a) q) })

-- ---- parts of a run that pass no test

-- where the older part passes no test, the filter is that of the younger part
pub filter_from : (f : ℕ → Bool) (a k j : ℕ) → ((q : ℕ) → a ≤ q → q < a + k → f q ≡ false) → filter f (run a (k + j)) ≡ filter f (run (a + k) j)
filter_from f a k j h = rw (run_append, filter_append, filter_none f a k h)

-- where the younger part passes no test, the filter is that of the older part
pub filter_upto : (f : ℕ → Bool) (a k j : ℕ) → ((q : ℕ) → a + k ≤ q → q < a + k + j → f q ≡ false) → filter f (run a (k + j)) ≡ filter f (run a k)
filter_upto f a k j h = rw (run_append, filter_append, filter_none f (a + k) j h) (append-nil (filter f (run a k)))

-- two functions that agree wherever the test passes
pub map_same : {B : Type 0} (f : ℕ → Bool) (g h : ℕ → B) (a k : ℕ) → ((q : ℕ) → a ≤ q → q < a + k → f q ≡ true → g q ≡ h q)
    → map g (filter f (run a k)) ≡ map h (filter f (run a k))
unfolding filter run
map_same f g h a zero e = refl
map_same {B} f g h a (suc k) e =
    go (f a) (λ t. e a (le_refl a) (omega arith) t) (map_same f g h (suc a) k (λ q u v t. e q (omega arith) (omega arith) t))
  where
    R : List ℕ
    R = filter f (run (suc a) k)

    go : (b : Bool) → (b ≡ true → g a ≡ h a) → map g R ≡ map h R → map g (keep b a R) ≡ map h (keep b a R)
    go true x r = rw (x refl, r)
    go false x r = r

-- ---- membership in a run

pub into_run : (a k q : ℕ) → a ≤ q → q < a + k → Memᴰ q (run a k)
unfolding run
into_run a zero q u v = absurd (omega arith)
into_run a (suc k) q u v = go (dec_lt a q) (λ w. into_run (suc a) k q w (omega arith))
  where
    go : Dec (a < q) → (a < q → Memᴰ q (run (suc a) k)) → Memᴰ q (a ∷ run (suc a) k)
    go (yes w) r = Memᴰ.tail (r w)
    go (no n) r = let e : q ≡ a = omega arith in Memᴰ.head e

pub of_run : (a k q : ℕ) → Memᴰ q (run a k) → (a ≤ q) × (q < a + k)
unfolding run
of_run a zero q m = absurd (Memᴰ.not-nil m)
of_run a (suc k) q m = go (Memᴰ.cases_cons m) (λ n. of_run (suc a) k q n)
  where
    go : (q ≡ a) ⊎ Memᴰ q (run (suc a) k) → (Memᴰ q (run (suc a) k) → (suc a ≤ q) × (q < suc a + k)) → (a ≤ q) × (q < a + suc k)
    go (inl e) r = (omega arith, omega arith)
    go (inr n) r = let t = r n in (omega arith, omega arith)

-- a run that begins further on
pub run_from : (first a k : ℕ) → run (first + a) k ≡ map (λ i. first + i) (run a k)
unfolding run
run_from first a zero = refl
run_from first a (suc k) = ap (λ (r : List ℕ). (first + a) ∷ r) (rw (← add-suc) (run_from first (suc a) k))

-- a test of the places of a run
pub filter_places : (g : ℕ → Bool) (first a k : ℕ) → filter (λ p. g (p - first)) (run (first + a) k) ≡ map (λ i. first + i) (filter g (run a k))
filter_places g first a k =
    ap (filter (λ p. g (p - first))) (run_from first a k)
    ∙ filter_map (λ p. g (p - first)) (λ i. first + i) (run a k)
    ∙ ap (map (λ i. first + i)) (filter_same (λ i. g (first + i - first)) g a k (λ i _ _. let e : first + i - first ≡ i = omega arith in ap g e))
