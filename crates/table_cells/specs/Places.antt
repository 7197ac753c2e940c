-- The test of torn rows in two parts: what the head alone shows, and rows in their places.
use Rattle.std.specs.Prelude.{ℕ, suc, min, Bool, true, ◌&&◌, ◌||◌, not, List, [], ◌∷◌, ltb, leb, eqb}
use Rattle.head.specs.declared.Head.{Head}
use Rattle.head.specs.Heads.{last_position}
use Rattle.model.specs.Rows.{Row}

-- no rows could stand under this head: the newest position is past the last, or the number of rows held is not that of the positions in the window of N
unfoldable pub torn_head : Head → Bool
torn_head h = ltb last_position h.newest || not (eqb h.held (min h.newest h.capacity))

-- a row stands at position p, its lower end is below it, and its upper end is 0, or above it and not above M
unfoldable pub in_place : ℕ → ℕ → Row → Bool
in_place M p r =
    eqb r.position p && ltb r.lower_end r.position && (eqb r.upper_end 0 || ltb r.position r.upper_end && leb r.upper_end M)

-- rows are in their places from position p on, one at each position
unfoldable pub in_places : ℕ → ℕ → List Row → Bool
in_places M p [] = true
in_places M p (r ∷ rs) = in_place M p r && in_places M (suc p) rs
