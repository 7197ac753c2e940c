-- Bytes placed within an output.
use Rattle.std.specs.Prelude.{ℕ, List, ◌++◌, take, drop}
use Rattle.lists.specs.Lists.{laid}

-- l from a place on, over what stood there
unfoldable pub placed : List ℕ → ℕ → List ℕ → List ℕ
placed l at before = take at before ++ laid l (drop at before)
