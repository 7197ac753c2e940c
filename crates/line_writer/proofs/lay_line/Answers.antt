-- `lay_line` meets its contract.
use Rattle.line_writer.proofs.Laying.{too_long, laid_line}
use Rattle.line_writer.proofs.lay_line.Goals as goal

pub returns-then-line-ge-TOO_LONG : goal.returns-then-line-ge-TOO_LONG
returns-then-line-ge-TOO_LONG c = too_long _ _ c.if-line-ge-TOO_LONG.true

pub returns : goal.returns
returns c = laid_line _ c.write_line.ensures c.if-line-ge-TOO_LONG.false c.requires c.unwrap_or.ensures
