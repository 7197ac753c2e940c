-- `store_records` meets its contract: each turn stores one record, none past the eighth.
use Rattle.std.proofs.Common.{refl, sym, ◌∙◌, arith}
use Rattle.host_cells.proofs.Storing.{store_more, beyond_stored, all_same}
use Rattle.host_cells.proofs.store_records.Goals as goal

pub loop-i-init : goal.loop-i-init
loop-i-init c = record { stored = record { eight = omega (arith, c.well_formed); same = λ k h. absurd (omega arith) }; beyond = refl }

pub loop-i-preserved : goal.loop-i-preserved
loop-i-preserved c = record {
  stored = store_more c.loop-i.invariant.stored c.loop-i-test.true (omega (arith, c.loop-i.auto.cells, c.requires));
  beyond = beyond_stored c.loop-i.cells c.loop-i.i _ c.loop-i-test.true ∙ c.loop-i.invariant.beyond;
}

pub returns : goal.returns
returns c = record { cells_after = sym (all_same c.loop-i-test.false c.loop-i.invariant.stored); cells_unchanged = c.loop-i.invariant.beyond }
