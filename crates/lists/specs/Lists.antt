-- Lists by a Boolean test, runs of numbers, and lists written over the front of what stood before.
use Rattle.std.specs.Prelude.{ℕ, zero, suc, ◌-◌, Bool, true, false, ◌&&◌, ◌||◌, not, cond, List, [], ◌∷◌, ◌++◌, ltb, leb, eqb, length, drop, replicate}

module _ {A : Type 0} where
  -- x in front of xs, if the test of x passed
  abbrev pub keep : Bool → A → List A → List A
  keep true x xs = x ∷ xs
  keep false x xs = xs

  -- the elements that pass the test, in their order
  unfoldable pub filter : (A → Bool) → List A → List A
  filter f [] = []
  filter f (x ∷ xs) = keep (f x) x (filter f xs)

  -- some element passes the test
  unfoldable pub any : (A → Bool) → List A → Bool
  any f [] = false
  any f (x ∷ xs) = f x || any f xs

  -- the first element, or z where there is none
  unfoldable pub head_or : A → List A → A
  head_or z [] = z
  head_or z (x ∷ xs) = x

  -- the last element, or z where there is none
  unfoldable pub last_or : A → List A → A
  last_or z [] = z
  last_or z (x ∷ xs) = last_or x xs

  -- the lists of a list, each behind the one before
  unfoldable pub flat : List (List A) → List A
  flat [] = []
  flat (l ∷ ls) = l ++ flat ls

-- k numbers from a on
unfoldable pub run : ℕ → ℕ → List ℕ
run a zero = []
run a (suc k) = a ∷ run (suc a) k

-- the numbers from a to b, both included
unfoldable pub between : ℕ → ℕ → List ℕ
between a b = run a (suc b - a)

-- x is an element of the list
unfoldable pub contains : ℕ → List ℕ → Bool
contains x l = any (eqb x) l

-- strictly rising, with no element below lo or above hi
unfoldable pub rising : ℕ → ℕ → List ℕ → Bool
rising lo hi [] = true
rising lo hi (x ∷ xs) = leb lo x && leb x hi && rising (suc x) hi xs

-- x put into a rising list in its place
unfoldable pub insert : ℕ → List ℕ → List ℕ
insert x [] = x ∷ []
insert x (y ∷ ys) = cond (ltb x y) (x ∷ y ∷ ys) (y ∷ insert x ys)

-- the list without x
unfoldable pub without : ℕ → List ℕ → List ℕ
without x l = filter (λ y. not (eqb x y)) l

-- l over the front of what stood before
unfoldable pub laid : List ℕ → List ℕ → List ℕ
laid l before = l ++ drop (length l) before

-- l over the front of what stood before, with zeros behind it up to place n
unfoldable pub padded : ℕ → List ℕ → List ℕ → List ℕ
padded n l before = l ++ (replicate (n - length l) 0 ++ drop n before)
