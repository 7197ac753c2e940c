-- `put_hundreds` meets its contract: three digits are stored, or four.
use mathlib.Core.Path.{refl}
use native.Mathlib.Omega.{arith}
use Rattle.text.proofs.Short.{three_digits, four_digits}
use Rattle.text.proofs.put_hundreds.Goals as goal

pub returns-then-hundreds-lt10 : goal.returns-then-hundreds-lt10
returns-then-hundreds-lt10 c = three_digits _ _ c.requires.in_bounds _ _ _ c.requires.le_n (omega (arith, c.if-hundreds-lt10.true)) refl (omega arith) (omega arith)

pub returns : goal.returns
returns c =
    four_digits _ _ c.requires.in_bounds _ _ _ _ (omega (arith, c.if-hundreds-lt10.false)) c.requires.n_bound (omega arith) refl (omega arith) (omega arith)
