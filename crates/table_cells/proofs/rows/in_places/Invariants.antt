-- `in_places` meets its contract: each turn passes one row.
use Rattle.lent_tables.specs.Lent.{lent}
use Rattle.table_cells.proofs.Passing.{Passing}
use Rattle.table_cells.proofs.rows.in_places.Given as goal

abbrev pub invariant-loop-i : goal.invariant-loop-i
invariant-loop-i l = Passing l.head.newest l.first l.head.held (lent l.tables) l.placed l.live l.position l.i
