-- The pass that judges the order of the watches: its invariant, and what it comes to.
use mathlib.Core.Path.{◌≡◌, refl}
use mathlib.Core.Logic.{◌⊎◌, inl, inr}
use Prim.Native.Nat.{ℕ, zero, suc, ◌+◌, ◌<◌, ◌≤◌}
use native.Mathlib.Numerals.{add-one}
use native.Mathlib.Omega.{arith}
use mathlib.Core.Bool.{Bool, true, false, ◌&&◌, ◌||◌, not, cond}
use mathlib.Core.List.{List, [], ◌∷◌}
use lib.Dec.{ltb, leb, eqb}
use lib.ListN.{length, get_or, take, drop, drop_of_length-le}
use lib.Seq.{take_all, drop-cons}
use borrow.Author.Tests.{leb-true, leb-false, lt-ltb, le-ltb, ne_eqb}
use Rattle.lists.specs.Lists.{any}
use Rattle.lists.proofs.Booleans.{either}
use Rattle.model.specs.Book.{is_watch, ordered}

-- what is torn of the watches still to come, after an empty one or after one that stands
unfoldable pub torn_rest : ℕ → Bool → ℕ → List ℕ → Bool
torn_rest capacity ended last rest = cond ended (any (ltb 0) rest) (not (ordered (suc last) capacity rest))

flip : (a b : ℕ) → ltb a b ≡ not (leb b a)
flip a b = go (either (leb b a))
  where
    go : (leb b a ≡ true) ⊎ (leb b a ≡ false) → ltb a b ≡ not (leb b a)
    go (inl t) = rw t (le-ltb a b (leb-true b a t))
    go (inr t) = rw t (lt-ltb a b (leb-false b a t))

de_morgan : (a b c : Bool) → (a || not b) || not c ≡ not ((not a && b) && c)
de_morgan true b c = refl
de_morgan false true c = refl
de_morgan false false c = refl

-- a watch that stands is judged by the last one before it
judge_standing : (capacity last watch : ℕ) (rest : List ℕ) → 0 < watch
    → (ltb 0 watch && (leb watch last || not (is_watch capacity watch))) || torn_rest capacity (eqb watch 0) watch rest ≡ torn_rest capacity false last (watch ∷ rest)
unfolding torn_rest ordered
judge_standing capacity last watch rest h =
    rw (lt-ltb 0 watch h, ne_eqb watch 0 (λ e. omega arith), flip last watch)
    (de_morgan (leb watch last) (is_watch capacity watch) (ordered (suc watch) capacity rest))

-- one watch more is judged
judge_one : (capacity : ℕ) (torn ended : Bool) (last watch : ℕ) (rest : List ℕ)
    → (torn || (ltb 0 watch && ((ended || leb watch last) || not (is_watch capacity watch)))) || torn_rest capacity (ended || eqb watch 0) watch rest
    ≡ torn || torn_rest capacity ended last (watch ∷ rest)
unfolding torn_rest ordered any
judge_one capacity true ended last watch rest = refl
judge_one capacity false true last watch rest = go (ltb 0 watch)
  where
    go : (b : Bool) → (b && true) || any (ltb 0) rest ≡ b || any (ltb 0) rest
    go true = refl
    go false = refl
judge_one capacity false false last zero rest = go (any (ltb 0) rest)
  where
    go : (b : Bool) → b ≡ not (not b)
    go true = refl
    go false = refl
judge_one capacity false false last (suc watch) rest = judge_standing capacity last (suc watch) rest (omega arith)

-- where no watch is left, the answer is there
judge_none : (capacity : ℕ) (torn ended : Bool) (last : ℕ) → torn || torn_rest capacity ended last [] ≡ torn
unfolding torn_rest ordered any
judge_none capacity true ended last = refl
judge_none capacity false true last = refl
judge_none capacity false false last = refl

-- the first i of the eight watches are passed, and torn with what is torn of the rest is the answer
pub record Judging (capacity : ℕ) (watches : List ℕ) (torn ended : Bool) (last i : ℕ) : Type 0 where
  pub eight : length watches ≡ 8
  pub within : i ≤ 8
  pub judged : torn || torn_rest capacity ended last (drop i watches) ≡ not (ordered 1 capacity (take 8 watches))

module _ (capacity : ℕ) (watches : List ℕ) where
  pub start : length watches ≡ 8 → Judging capacity watches false false 0 0
  unfolding torn_rest
  start e = record { eight = e; within = omega arith; judged = rw (take_all 8 watches (omega arith)) }

  module _ (torn ended : Bool) (last i : ℕ) (s : Judging capacity watches torn ended last i) where
    abbrev watch : ℕ
    watch = get_or watches i 0

    pub more : i < 8 → Judging capacity watches (torn || (ltb 0 watch && ((ended || leb watch last) || not (is_watch capacity watch)))) (ended || eqb watch 0) watch (i + 1)
    more h =
        let l : i < length watches = omega (arith, s.eight) in
        record {
          eight = s.eight;
          within = omega arith;
          judged = rw (add-one i, judge_one capacity torn ended last watch (drop (suc i) watches)) (rw (drop-cons watches i 0 l) at s.judged);
        }

    pub finish : 8 ≤ i → torn ≡ not (ordered 1 capacity (take 8 watches))
    finish h = rw (drop_of_length-le watches {i = i} (omega (arith, s.eight)), judge_none) at s.judged
