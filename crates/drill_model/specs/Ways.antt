-- A way of choosing as a map from the replies so far to a place, and whether the first side wins by it against a given order of replies
-- (02, 12/13).
use Rattle.std.specs.Prelude.{ℕ, zero, suc, ◌+◌, ◌<◌, Bool, true, ◌&&◌, List, [], ◌∷◌, ◌≡◌, ltb, length, get_or, drop}
use Rattle.drill_model.specs.Turns.{Side, First, Second, by_side, left, laying, layer}

-- a way of choosing: from how many quotes the first side has laid, and the places of the replies so far, to the place of its next
abbrev pub Way : Type 0
Way = ℕ → List ℕ → ℕ

-- the way from there on where one quote more is laid
abbrev pub once_laid : Way → Way
once_laid way = λ count replies. way (suc count) replies

-- the way from there on where one reply more has come
abbrev pub once_replied : ℕ → Way → Way
once_replied reply way = λ count replies. way count (reply ∷ replies)

module _ {Q : Type 0} where
  -- an order in which a hand can be laid: a place of it, then an order of what is left
  pub data Order : List Q → List ℕ → Type 0 where
    done : Order [] []
    next : {hand : List Q} {order : List ℕ} (i : ℕ) → i < length hand → Order (left i hand) order → Order hand (i ∷ order)

module _ {Q : Type 0} (none : Q) (won : List Q → Bool) where
  -- with k quotes in hand: the way chooses places of the first side's hand only, and once the second side has laid its hand in this order
  -- the first side has won
  unfoldable pub won_by : ℕ → Side → Way → List ℕ → List Q → List Q → List Q → Bool
  won_by zero turn way order first second laid = won laid
  won_by (suc k) turn way order first second laid =
      let i = way 0 [] in
      let j = get_or order 0 0 in
      by_side (layer turn first second)
      (ltb i (length first) && won_by k Second (once_laid way) order (left i first) second (laying none i first laid))
      (won_by k First (once_replied j way) (drop 1 order) first (left j second) (laying none j second laid))

  -- a way of choosing that wins for every order in which the second hand can be laid
  pub record WinningWay (turn : Side) (first second laid : List Q) : Type 0 where
    pub way : Way
    pub wins : (order : List ℕ) → Order second order → won_by (length first + length second) turn way order first second laid ≡ true
