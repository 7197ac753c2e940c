-- What is due, by the lower ends.
use Rattle.std.specs.Prelude.{ℕ, ◌-◌, List, map}
use Rattle.lists.specs.Lists.{flat}
use Rattle.skyline.specs.Skyline.{window_start}
use Rattle.head.specs.declared.Head.{Head}
use Rattle.table_listing.specs.Due.{due_positions, due_of}

-- the positions that are due for the head's pair, by the lower ends of rows that fill the window of N
unfoldable pub due_on : Head → List ℕ → List ℕ
due_on h lowers =
    let M = h.newest in
    due_positions (window_start M (h.n1 - 1)) M (window_start M h.n2) (window_start M h.capacity) lowers

-- what is written of them
unfoldable pub due_cells_on : Head → List ℕ → List ℕ
due_cells_on h lowers = flat (map (due_of h.newest h.n1) (due_on h lowers))
