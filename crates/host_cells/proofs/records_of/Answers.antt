-- `records_of` meets its contract: each turn reads one record.
use Rattle.std.proofs.Common.{refl, arith}
use Rattle.host_cells.proofs.Storing.{read_more, all_same}
use Rattle.host_cells.proofs.records_of.Goals as goal

pub loop-i-init : goal.loop-i-init
loop-i-init c = record { eight = refl; same = λ k h. absurd (omega arith) }

pub loop-i-preserved : goal.loop-i-preserved
loop-i-preserved c = read_more c.loop-i.invariant c.loop-i-test.true

pub returns : goal.returns
returns c = all_same c.loop-i-test.false c.loop-i.invariant
