-- `main` is safe and ends: the line fits the text.
use Rattle.std.proofs.Common.{sym, length-take-le}
use Rattle.day_frames.proofs.Gathering.{laid_fits}
use Rattle.day_sheet.proofs.main.Goals as goal

pub slice_bounds-text-end : goal.slice_bounds-text-end
slice_bounds-text-end c = laid_fits _ _ c.day_line-used.ensures c.day_line-used.auto.text

pub slice_bounds-put_out-end : goal.slice_bounds-put_out-end
slice_bounds-put_out-end c =
    sym (length-take-le c.day_line-used.result c.day_line-used.new.text (laid_fits _ _ c.day_line-used.ensures c.day_line-used.auto.text))
