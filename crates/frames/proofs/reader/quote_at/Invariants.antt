-- `quote_at` meets its contract: each column is read behind the one before.
use mathlib.Core.Path.{◌≡◌}
use Rattle.frames.proofs.ReadColumns.{columns_to}
use Rattle.frames.proofs.reader.quote_at.Given as goal

abbrev pub invariant-loop-i : goal.invariant-loop-i
invariant-loop-i l = l.columns ≡ columns_to l.tape l.body l.i
