-- `sheet_in` meets its contract: the sheet is found at the front of the cells, and written from there.
use Rattle.day_skyline.proofs.Answering.{whole_day, kept_fits, sheet_written}
use Rattle.day_skyline.proofs.day.Day.sheet_in.Goals as goal

pub find-kept-requires : goal.find-kept-requires
find-kept-requires c = whole_day c.args.self c.args.cells.now c.requires

pub slice_bounds-lay-end : goal.slice_bounds-lay-end
slice_bounds-lay-end c = kept_fits c.args.self c.args.cells.now c.requires c.find-kept.ensures

pub returns : goal.returns
returns c = sheet_written c.args.self c.args.cells.now c.requires c.find-kept.ensures c.lay.ensures
