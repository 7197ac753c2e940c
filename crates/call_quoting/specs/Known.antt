-- What a quote is told of the book in the tables that it is lent.
use Rattle.std.specs.Prelude.{◌≡◌, ◌≤◌, Bool, true, List, ℕ, length}
use Rattle.head.specs.declared.Head.{Head}
use Rattle.model.specs.Rows.{Tables}
use Rattle.model.specs.Calls.{Reached}
use Rattle.model.specs.Promises.{world}

-- each table has room for a row behind those of the largest N, with six columns
pub record Roomy (t : Tables) : Type 0 where
  pub columns : 6150 ≤ length t.columns
  pub positions : 1025 ≤ length t.positions
  pub lower_ends : 1025 ≤ length t.lower_ends
  pub upper_ends : 1025 ≤ length t.upper_ends

-- the tables hold a reachable book and have a place to spare; or nothing is known of them
pub record Known (reachable : Bool) (h : Head) (t : Tables) (ws : List ℕ) : Type 0 where
  pub reached : reachable ≡ true → Reached (world h t ws)
  pub roomy : reachable ≡ true → Roomy t
