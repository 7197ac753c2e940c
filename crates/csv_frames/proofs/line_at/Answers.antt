-- `line_at` meets its contract: what is scanned is the line at the place.
use Rattle.csv_frames.proofs.LineLaws.{line_fits, line_other, line_long, scan_inside}
use Rattle.csv_frames.proofs.line_at.Goals as goal
use Rattle.std.proofs.Common.{sym, ◌∙◌}

pub returns-in_err-numbers : goal.returns-in_err-numbers
returns-in_err-numbers c = let f = c.from_residual.ensures in rw c.from_residual.ensures (line_other c.args.d _ _ c.requires c.read_fields-end.ensures c.in_err-numbers.ensures)

pub slice_bounds-line_ends-count : goal.slice_bounds-line_ends-count
slice_bounds-line_ends-count c = scan_inside c.args.d _ _ c.requires c.read_fields-end.ensures

pub returns-then-not-line_ends : goal.returns-then-not-line_ends
returns-then-not-line_ends c = line_long c.args.d _ _ c.requires c.read_fields-end.ensures (sym c.if-not-line_ends.true ∙ c.line_ends.ensures)

pub behind-requires : goal.behind-requires
behind-requires c = scan_inside c.args.d _ _ c.requires c.read_fields-end.ensures

pub returns : goal.returns
returns c = line_fits c.args.d _ _ c.requires c.read_fields-end.ensures c.in_ok-numbers.ensures (sym c.if-not-line_ends.false ∙ c.line_ends.ensures) c.behind.ensures

pub slice_bounds-line_ends-start : goal.slice_bounds-line_ends-start
slice_bounds-line_ends-start c = scan_inside c.args.d _ _ c.requires c.read_fields-end.ensures
