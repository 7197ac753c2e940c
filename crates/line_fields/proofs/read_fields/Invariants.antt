-- `read_fields` meets its contract: what is read of the bytes behind stays the same.
use Rattle.std.proofs.Common.{◌≤◌, max, length}
use Rattle.line_fields.specs.Fields.{fields_at}
use Rattle.line_fields.proofs.Scanning.{Scanning}
use Rattle.line_fields.proofs.read_fields.Given as goal

abbrev pub invariant-loop-at : goal.invariant-loop-at
invariant-loop-at l = record {
  scanning : Scanning l.separator (fields_at l.separator l.first l.text l.place) l.text l.scan l.numbers l.at;
  most : l.at ≤ max l.place (length l.text);
}
