-- `put_tens` meets its contract: one digit is stored, or two.
use mathlib.Core.Path.{refl}
use Rattle.text.proofs.Short.{one_digit, two_digits}
use Rattle.text.proofs.put_tens.Goals as goal

pub returns-then-n-lt10 : goal.returns-then-n-lt10
returns-then-n-lt10 c = one_digit _ _ c.requires.in_bounds c.if-n-lt10.true

pub returns : goal.returns
returns c = two_digits _ _ c.requires.in_bounds _ _ c.if-n-lt10.false c.requires.n_bound refl refl
