-- `read_line` meets its contract: the first byte of a line is its letter.
use Rattle.std.proofs.Common.{◌∙◌}
use Rattle.line_notation.proofs.Reading.{read_none, read_some}
use Rattle.line_notation.specs.Lines.{nothing}
use Rattle.line_fields.specs.Fields.{no_field}
use Rattle.line_notation.proofs.lines.read_line.Goals as goal

pub returns-in_default : goal.returns-in_default
unfolding nothing no_field
returns-in_default c = read_none _ c.in_default.ensures.item.3

pub returns : goal.returns
unfolding nothing
returns c = read_some _ c.in-Some.ensures.item.3.0 (c.in-Some.ensures.item.3.1 0) c.marked-two.ensures (rw c.from.ensures at c.fields_from-fields.ensures) (c.unwrap_or.ensures ∙ c.message_of-message.ensures)
