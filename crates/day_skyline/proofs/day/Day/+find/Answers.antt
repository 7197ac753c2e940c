-- `find` meets its contract: what comes back in the halves is put together.
use Rattle.day_skyline.proofs.Over.{over_irreflexive, over_transitive}
use Rattle.day_skyline.proofs.Halving.{halved, sheet_by_halves}
use Rattle.day_skyline.proofs.day.Day.+find.Goals as goal

pub merge-requires : goal.merge-requires
merge-requires t c =
    halved c.args.cells.now c.find-older.new.cells c.find-older.auto.cells
    c.find-newer.new.cells c.find-newer.auto.cells _ _ _ c.requires c.find-older.ensures c.find-newer.ensures

pub returns : goal.returns
returns t c =
    sheet_by_halves c.args.cells.now c.find-older.new.cells c.find-older.auto.cells
    c.find-newer.new.cells c.find-newer.auto.cells _ _ _ c.requires c.find-older.ensures
    c.find-newer.ensures (over_irreflexive _) (over_transitive _) c.if-n-lt2.false c.merge.ensures
