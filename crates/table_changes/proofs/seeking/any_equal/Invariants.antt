-- `any_equal` meets its contract: at each turn the cells before it are tested.
use Rattle.std.proofs.Common.{◌≡◌, ◌==◌, take}
use Rattle.std.specs.List.{list_any}
use Rattle.table_changes.proofs.seeking.any_equal.Given as goal

abbrev pub invariant-loop-cell : goal.invariant-loop-cell
invariant-loop-cell l = l.found ≡ list_any (λ cell. cell == l.x) (take l.cell-index l.cells)
