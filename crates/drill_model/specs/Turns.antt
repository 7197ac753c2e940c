-- Two sides lay the quotes of their hands in turn (02, 12/13): who wins against every reply, as a strategy, and the same by judging turn after turn.
use Rattle.std.specs.Prelude.{◌≡◌, ℕ, zero, suc, ◌+◌, ◌<◌, Bool, true, false, ◌&&◌, ◌||◌, cond, List, [], ◌∷◌, ◌++◌, length, get_or}

-- a side of the drill; the first begins
pub data Side : Type 0 where
  First : Side
  Second : Side

module _ {Q : Type 0} where
  -- what is left of a hand once the quote at a place, counted from 0, is laid
  unfoldable pub left : ℕ → List Q → List Q
  left i [] = []
  left zero (x ∷ xs) = xs
  left (suc i) (x ∷ xs) = x ∷ left i xs

  -- the quotes laid, once that at a place of a hand is laid too; none stands for a quote where there is no such place
  unfoldable pub laying : Q → ℕ → List Q → List Q → List Q
  laying none i hand laid = laid ++ (get_or hand i none ∷ [])

  -- the side that lays the next quote: the one whose turn it is, or the other where its hand is empty
  unfoldable pub layer : Side → List Q → List Q → Side
  layer First [] second = Second
  layer First (x ∷ first) second = First
  layer Second first [] = First
  layer Second first (x ∷ second) = Second

-- one thing for the first side, another for the second
abbrev pub by_side : {A : Type 0} → Side → A → A → A
by_side First x y = x
by_side Second x y = y

-- some of the first k numbers pass the test
unfoldable pub some_below : (ℕ → Bool) → ℕ → Bool
some_below f zero = false
some_below f (suc k) = some_below f k || f k

-- each of the first k numbers passes the test
unfoldable pub each_below : (ℕ → Bool) → ℕ → Bool
each_below f zero = true
each_below f (suc k) = each_below f k && f k

-- the least of the first k numbers that passes the test, counted from 1, or 0 where none does
unfoldable pub least_below : (ℕ → Bool) → ℕ → ℕ
least_below f zero = 0
least_below f (suc k) = cond (some_below f k) (least_below f k) (cond (f k) (suc k) 0)

-- the quotes laid by both sides decide who has won (won) once both hands are empty
module _ {Q : Type 0} (none : Q) (won : List Q → Bool) where
  -- the first side, on whose turn or the other's it is, with these two hands and these quotes laid, has a way of choosing that wins
  -- against every reply (02): it has won where both hands are empty; on its turn it wins after laying some quote; on the other's turn it
  -- wins after each quote that the other can lay; a side with none left passes
  pub data Wins : Side → List Q → List Q → List Q → Type 0 where
    over : {turn : Side} {laid : List Q} → won laid ≡ true → Wins turn [] [] laid
    lays : {first second laid : List Q} (i : ℕ) → i < length first → Wins Second (left i first) second (laying none i first laid)
        → Wins First first second laid
    faces : {first second laid : List Q} → 0 < length second
        → ((i : ℕ) → i < length second → Wins First first (left i second) (laying none i second laid)) → Wins Second first second laid
    passes : {second laid : List Q} → 0 < length second → Wins Second [] second laid → Wins First [] second laid
    repasses : {first laid : List Q} → 0 < length first → Wins First first [] laid → Wins Second first [] laid

  -- laying the quote at a place of the first hand, counted from 0, keeps the win
  pub record Keeps (first second laid : List Q) (i : ℕ) : Type 0 where
    pub place : i < length first
    pub wins : Wins Second (left i first) second (laying none i first laid)

  -- the same judged turn by turn, with k quotes in hand: each quote laid leaves one fewer
  unfoldable pub judged : ℕ → Side → List Q → List Q → List Q → Bool
  judged zero turn first second laid = won laid
  judged (suc k) turn first second laid =
      by_side (layer turn first second)
      (some_below (λ i. judged k Second (left i first) second (laying none i first laid)) (length first))
      (each_below (λ i. judged k First first (left i second) (laying none i second laid)) (length second))

  -- whether the first side is judged to win
  unfoldable pub wins : Side → List Q → List Q → List Q → Bool
  wins turn first second laid = judged (length first + length second) turn first second laid

  -- whether laying the quote at a place of the first hand is judged to keep the win
  unfoldable pub keeps : List Q → List Q → List Q → ℕ → Bool
  keeps first second laid i = wins Second (left i first) second (laying none i first laid)

  -- the earliest place, counted from 1, whose laying is judged to keep the win, or 0 where there is none
  unfoldable pub best_place : List Q → List Q → List Q → ℕ
  best_place first second laid = least_below (keeps first second laid) (length first)
