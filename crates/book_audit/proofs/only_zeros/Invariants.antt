-- `only_zeros` meets its contract: at each turn the cells before it are tested.
use Rattle.std.proofs.Common.{◌≡◌, ◌==◌, take}
use Rattle.std.specs.List.{list_all}
use Rattle.book_audit.proofs.only_zeros.Given as goal

abbrev pub invariant-loop-cell : goal.invariant-loop-cell
invariant-loop-cell l = l.all ≡ list_all (λ x. x == 0) (take l.cell-index l.cells)
