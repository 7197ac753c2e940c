-- `bqb_compare_quotes` meets its contract: no kind gives more columns than are read.
use Rattle.std.proofs.Common.{sym, length-take-le}
use Rattle.host.proofs.Answers.{count_fits}
use Rattle.host.proofs.bqb_compare_quotes.Goals as goal

pub slice_bounds-compare_quotes-end : goal.slice_bounds-compare_quotes-end
slice_bounds-compare_quotes-end c = sym (length-take-le _ _ (count_fits _ _ c.read_at.ensures _ _ c.column_count-n.ensures))

pub slice_bounds-compare_quotes-end-2 : goal.slice_bounds-compare_quotes-end-2
slice_bounds-compare_quotes-end-2 c = sym (length-take-le _ _ (count_fits _ _ c.read_at-2.ensures _ _ c.column_count-m.ensures))
