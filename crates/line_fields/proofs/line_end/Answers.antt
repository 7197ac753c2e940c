-- `line_end` meets its contract: a line ends at its first newline.
use Rattle.std.proofs.Common.{◌≡◌, arith}
use Rattle.std.proofs.lemmas.Grind.{common_steps}
use Rattle.line_fields.specs.Fields.{line_length}
use Rattle.line_fields.proofs.Scanning.{line_found}
use Rattle.line_fields.proofs.line_end.Goals as goal

pub returns-in-Some : goal.returns-in-Some
returns-in-Some c =
    let found : line_length c.in-Some.line.now ≡ c.unwrap_or.result = rw (line_found, ← c.newline.ensures, ← c.unwrap_or.ensures) in
    grind (arith, common_steps)
