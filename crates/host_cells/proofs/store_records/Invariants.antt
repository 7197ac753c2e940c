-- `store_records` meets its contract: each turn stores one record, none past the eighth.
use Rattle.std.proofs.Common.{◌≡◌, drop}
use Rattle.host_cells.proofs.Storing.{Same}
use Rattle.host_cells.proofs.store_records.Given as goal

abbrev pub invariant-loop-i : goal.invariant-loop-i
invariant-loop-i l = record { stored : Same l.records l.cells l.i; beyond : drop 16 l.cells ≡ drop 16 l.initial.cells }
