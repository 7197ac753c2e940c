-- `fields_from` meets its contract: a byte behind those of fields makes the line invalid.
use Rattle.line_fields.proofs.Invalid.{fields_whole}
use Rattle.line_fields.proofs.fields_from.Goals as goal

pub returns : goal.returns
returns c = fields_whole _ _ _ c.read_fields-end.ensures
