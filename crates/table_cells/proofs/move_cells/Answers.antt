-- `move_cells` meets its contract: what was copied out is copied back to its new place.
use mathlib.Core.Path.{◌≡◌}
use Prim.Native.Nat.{◌+◌, ◌-◌, ◌≤◌}
use native.Mathlib.Omega.{arith}
use lib.ListN.{length, take, drop}
use lib.Seq.{length-take-le}
use Rattle.table_cells.proofs.Pasting.{moved}
use Rattle.table_cells.proofs.move_cells.Goals as goal
use Rattle.table_cells.proofs.move_cells.Goals.{After-held-2-1}

-- as many cells as were copied out stand in front of the copy
held-enough : (c : After-held-2-1) → length (take c.args.n c.put.new.cells) ≡ c.args.n
held-enough c =
    let enough : c.args.n ≤ length c.put.new.cells = omega (arith, c.put.auto.cells, c.requires.n_in_bounds, c.requires.n_in_bounds_2, c.requires.n_bound) in
    length-take-le c.args.n c.put.new.cells enough

pub put-requires-2 : goal.put-requires-2
put-requires-2 c =
    omega (arith, held-enough (goal.at.put-requires-2 c).After-held-2-1, c.requires.n_in_bounds, c.requires.n_in_bounds_2, c.requires.n_bound)

pub returns : goal.returns
returns c =
    let z : c.args.from + c.args.n - c.args.from ≡ c.args.n = omega arith in
    moved c.args.cells.now c.args.from c.args.to c.args.n _ (take (c.args.from + c.args.n - c.args.from) (drop c.args.from c.args.cells.now)) _ _ c.requires.n_in_bounds c.put.ensures c.put-2.ensures (rw z)
