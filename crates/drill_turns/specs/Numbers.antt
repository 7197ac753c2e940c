-- The quotes of both hands by their numbers: the first hand's are 0 to 3, the second's 4 to 7, six cells each.
use Rattle.std.specs.Prelude.{ℕ, ◌*◌, ◌%◌, Bool, ◌&&◌, ◌||◌, not, cond, List, map, ltb, get_or, take, drop}
use Rattle.lists.specs.Lists.{run, any}
use Rattle.dominance.specs.Compared.{compared}
use Rattle.drill_model.specs.Turns.{First, Second}
use Rattle.drill_model.specs.Drill.{Held, first_stands}
use Rattle.drill_turns.specs.declared.game.Rules.{Rules}

-- the quote with a number, of d columns; numbers are counted around from 8 on
unfoldable pub numbered : ℕ → List ℕ → ℕ → Held
numbered d cells number = record {
  side = cond (ltb (number % 8) 4) First Second;
  columns = take d (drop (6 * (number % 8)) cells);
}

-- the first side has won, once the quotes with these numbers were laid
unfoldable pub won_by : List ℕ → Rules → List ℕ → Bool
won_by cells rules laid =
    first_stands rules.dimensions rules.capacity rules.directions rules.n (map (numbered rules.dimensions cells) laid)

-- the quote laid at place j is over the one laid at place i: worse in no column, and better in one or the later
unfoldable pub over_at : List ℕ → Rules → List ℕ → ℕ → ℕ → Bool
over_at cells rules laid j i =
    let found = compared rules.dimensions rules.directions (drop (6 * (get_or laid j 0 % 8)) cells) (drop (6 * (get_or laid i 0 % 8)) cells) in
    not found.worse && (found.better || ltb i j)

-- one of the k quotes laid from a place on is over the one laid at place i
unfoldable pub dominated_at : List ℕ → Rules → List ℕ → ℕ → ℕ → ℕ → Bool
dominated_at cells rules laid from k i = any (λ j. over_at cells rules laid j i) (run from k)
