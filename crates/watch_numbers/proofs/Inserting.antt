-- The pass that puts a watch into its place: its invariant, and what it comes to.
use mathlib.Core.Path.{◌≡◌, refl, ap, ◌∙◌}
use mathlib.Core.Logic.{◌⊎◌, inl, inr}
use Prim.Native.Nat.{ℕ, zero, suc, ◌+◌, ◌-◌, ◌<◌, ◌≤◌}
use native.Mathlib.Numerals.{add-one}
use native.Mathlib.Omega.{arith}
use mathlib.Core.Bool.{Bool, true, false, ◌&&◌, ◌||◌, not, cond}
use mathlib.Core.List.{List, [], ◌∷◌, ◌++◌, append-nil, append_assoc}
use lib.Dec.{ltb, leb, eqb}
use lib.ListN.{length, get_or, take, drop, set, replicate, length-set, length-replicate, drop_of_length-le}
use lib.Seq.{take_all, drop-cons, take-suc-set}
use borrow.Author.Tests.{leb-true, lt-ltb, ne_eqb, not-true, not-false}
use Rattle.lists.specs.Lists.{filter, any, insert, padded}
use Rattle.lists.proofs.Booleans.{either, clash, and_left, and_right, none_left}
use Rattle.lists.proofs.Rising.{length_insert}
use Rattle.model.specs.Shares.{above_shares}
use Rattle.model.specs.Book.{is_watch, ordered, standing, torn_watches}

-- where the watch carried goes before the watch in hand
unfoldable pub goes_here : ℕ → ℕ → Bool
goes_here carried watch = eqb watch 0 || ltb carried watch

-- the watches with the one carried put in: each that gives way is carried on
unfoldable pub pushed : ℕ → List ℕ → List ℕ
pushed carried [] = []
pushed carried (watch ∷ rest) = cond (goes_here carried watch) carried watch ∷ pushed (cond (goes_here carried watch) watch carried) rest

-- ---- what the pass comes to on watches in order

-- where none stands, all are empty
all_empty : (l : List ℕ) → any (ltb 0) l ≡ false → l ≡ replicate (length l) 0
unfolding any
all_empty [] e = refl
all_empty (zero ∷ xs) e = ap (λ (r : List ℕ). 0 ∷ r) (all_empty xs e)
all_empty (suc x ∷ xs) e = absurd (clash (ltb 0 (suc x)) (lt-ltb 0 (suc x) (omega arith)) (none_left (ltb 0 (suc x)) (any (ltb 0) xs) e))

-- empty records stand for no watch
pub none_stand : (k : ℕ) → filter (ltb 0) (replicate k 0) ≡ []
unfolding filter
none_stand zero = refl
none_stand (suc k) = none_stand k

pushed_empty : (k : ℕ) → pushed 0 (replicate k 0) ≡ replicate k 0
unfolding pushed goes_here
pushed_empty zero = refl
pushed_empty (suc k) = ap (λ (r : List ℕ). 0 ∷ r) (pushed_empty k)

-- what order says of a watch that stands and the rest
record Ordered (lo capacity watch : ℕ) (rest : List ℕ) : Type 0 where
  pub low : lo ≤ watch
  pub after : ordered (suc watch) capacity rest ≡ true

ordered_standing : (lo capacity watch : ℕ) (rest : List ℕ) → 0 < watch → ordered lo capacity (watch ∷ rest) ≡ true → Ordered lo capacity watch rest
unfolding ordered
ordered_standing lo capacity watch rest h e =
    let f = rw (ne_eqb watch 0 (λ z. omega arith)) at e in
    let g = and_left (leb lo watch && is_watch capacity watch) (ordered (suc watch) capacity rest) f in
    record {
      low = leb-true lo watch (and_left (leb lo watch) (is_watch capacity watch) g);
      after = and_right (leb lo watch && is_watch capacity watch) (ordered (suc watch) capacity rest) f;
    }

ordered_empty : (lo capacity : ℕ) (rest : List ℕ) → ordered lo capacity (0 ∷ rest) ≡ true → rest ≡ replicate (length rest) 0
unfolding ordered
ordered_empty lo capacity rest e = all_empty rest (not-true (any (ltb 0) rest) e)

-- a watch below all that stand goes in front of them
insert_first : (capacity watch : ℕ) (l : List ℕ) → ordered (suc watch) capacity l ≡ true → insert watch (filter (ltb 0) l) ≡ watch ∷ filter (ltb 0) l
unfolding insert filter
insert_first capacity watch [] e = refl
insert_first capacity watch (zero ∷ xs) e = rw (ordered_empty (suc watch) capacity xs e, none_stand)
insert_first capacity watch (suc x ∷ xs) e =
    let o = ordered_standing (suc watch) capacity (suc x) xs (omega arith) e in
    rw (lt-ltb 0 (suc x) (omega arith), lt-ltb watch (suc x) o.low)

-- the empties behind the watches of l, once one more is put in
unfoldable behind : List ℕ → List ℕ
behind l = replicate (length l - suc (length (filter (ltb 0) l))) 0

behind_standing : (watch : ℕ) (rest : List ℕ) → 0 < watch → behind (watch ∷ rest) ≡ behind rest
unfolding behind filter
behind_standing watch rest h =
    let e : suc (length rest) - suc (suc (length (filter (ltb 0) rest))) ≡ length rest - suc (length (filter (ltb 0) rest)) = omega arith in
    rw (lt-ltb 0 watch h, e)

pushed_into_empty : (carried k : ℕ) → pushed carried (0 ∷ replicate k 0) ≡ insert carried (filter (ltb 0) (0 ∷ replicate k 0)) ++ behind (0 ∷ replicate k 0)
unfolding filter pushed goes_here insert behind
pushed_into_empty carried k = let e : suc k - 1 ≡ k = omega arith in rw (none_stand k, pushed_empty k, length-replicate {A = ℕ} k 0, e)

-- at a watch that stands, the pass puts the one carried before it or behind it
pushed_at_standing : (capacity carried watch : ℕ) (rest : List ℕ) → 0 < watch → ordered (suc watch) capacity rest ≡ true
    → ((k : ℕ) → pushed k rest ≡ insert k (filter (ltb 0) rest) ++ behind rest)
    → pushed carried (watch ∷ rest) ≡ insert carried (watch ∷ filter (ltb 0) rest) ++ behind rest
unfolding pushed goes_here insert
pushed_at_standing capacity carried watch rest h o ih = rw (ne_eqb watch 0 (λ z. omega arith)) (go (either (ltb carried watch)))
  where
    F : List ℕ
    F = filter (ltb 0) rest

    go : (ltb carried watch ≡ true) ⊎ (ltb carried watch ≡ false)
        → cond (ltb carried watch) carried watch ∷ pushed (cond (ltb carried watch) watch carried) rest
        ≡ cond (ltb carried watch) (carried ∷ watch ∷ F) (watch ∷ insert carried F) ++ behind rest
    go (inl t) = rw (t, ih watch, insert_first capacity watch rest o)
    go (inr t) = rw (t, ih carried)

-- where a place is free, the pass puts the watch into its place
pushed_inserts : (lo capacity carried : ℕ) (l : List ℕ) → ordered lo capacity l ≡ true → length (filter (ltb 0) l) < length l
    → pushed carried l ≡ insert carried (filter (ltb 0) l) ++ behind l
unfolding filter
pushed_inserts lo capacity carried [] e h = absurd (omega arith)
pushed_inserts lo capacity carried (zero ∷ xs) e h = rw (ordered_empty lo capacity xs e) (pushed_into_empty carried (length xs))
pushed_inserts lo capacity carried (suc x ∷ xs) e h =
    let stands : 0 < suc x = omega arith in
    let o = (ordered_standing lo capacity (suc x) xs stands e).after in
    let p : ltb 0 (suc x) ≡ true = lt-ltb 0 (suc x) stands in
    let free : length (filter (ltb 0) xs) < length xs = (let g = rw p at h in omega arith) in
    rw (p, behind_standing (suc x) xs stands) (pushed_at_standing capacity carried (suc x) xs stands o (λ k. pushed_inserts (suc (suc x)) capacity k xs o free))

-- on eight watches in order of which fewer stand, the pass is what inserting means
inserted : (capacity n : ℕ) (watches : List ℕ) → length watches ≡ 8 → torn_watches capacity watches ≡ false → length (standing watches) < 8
    → pushed n watches ≡ padded 8 (insert n (standing watches)) watches
unfolding torn_watches standing padded behind
inserted capacity n watches e t h =
    let whole : take 8 watches ≡ watches = take_all 8 watches (omega arith) in
    let beyond : drop 8 watches ≡ [] = drop_of_length-le watches {i = 8} (omega arith) in
    let o : ordered 1 capacity watches ≡ true = rw whole at (not-false (ordered 1 capacity (take 8 watches)) (none_left (not (ordered 1 capacity (take 8 watches))) (ltb 2 (above_shares (standing watches))) t)) in
    let free : length (filter (ltb 0) watches) < length watches = (let f = rw whole at h in omega arith) in
    rw (whole, beyond, append-nil, length_insert, pushed_inserts 1 capacity n watches o free, e)

-- ---- the pass

-- the first i of eight places are written, and one watch is carried on
pub record Inserting (watches : List ℕ) (n : ℕ) (after : List ℕ) (carried i : ℕ) : Type 0 where
  pub eight : length watches ≡ 8
  pub within : i ≤ 8
  pub sized : length after ≡ 8
  pub written : take i after ++ pushed carried (drop i watches) ≡ pushed n watches

module _ (watches : List ℕ) (n : ℕ) where
  pub start : length watches ≡ 8 → Inserting watches n (replicate 8 0) n 0
  start e = record { eight = e; within = omega arith; sized = refl; written = refl }

  module _ (after : List ℕ) (carried i : ℕ) (s : Inserting watches n after carried i) where
    abbrev watch : ℕ
    watch = get_or watches i 0

    abbrev here : Bool
    here = goes_here carried watch

    pub more : i < 8 → Inserting watches n (set after i (cond here carried watch)) (cond here watch carried) (i + 1)
    unfolding pushed
    more h =
        let l : i < length watches = omega (arith, s.eight) in
        let m : i < length after = omega (arith, s.sized) in
        record {
          eight = s.eight;
          within = omega arith;
          sized = rw length-set s.sized;
          written = rw (add-one i, take-suc-set after i (cond here carried watch) m, append_assoc) (rw (drop-cons watches i 0 l) at s.written);
        }

    pub finish : (capacity : ℕ) → 8 ≤ i → torn_watches capacity watches ≡ false → length (standing watches) < 8 → after ≡ padded 8 (insert n (standing watches)) watches
    unfolding pushed
    finish capacity h t free =
        rw (drop_of_length-le watches {i = i} (omega (arith, s.eight)), append-nil, take_all i after (omega (arith, s.sized))) at s.written
        ∙ inserted capacity n watches s.eight t free
