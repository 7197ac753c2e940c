-- `all_zero` meets its contract: no cell between the two places is above 0.
use Rattle.std.proofs.Common.{◌∙◌}
use Rattle.book_audit.proofs.Zeros.{all_zeros}
use Rattle.book_audit.proofs.all_zero.Goals as goal

pub returns : goal.returns
returns c = c.only_zeros.ensures ∙ all_zeros _ _ _
