-- `step` meets its contract: what is over stays, else the frame at the place is taken.
use mathlib.Core.Path.{sym, ◌∙◌}
use native.Mathlib.Omega.{arith}
use native.Mathlib.Nat.{mul-le-mul_right}
use Rattle.day_frames.proofs.Gathering.{stays_over, steps}
use Rattle.day_frames.proofs.step.Goals as goal

pub returns-then-is_some : goal.returns-then-is_some
returns-then-is_some c = stays_over _ _ _ _ (sym c.is_some.ensures ∙ c.if-is_some.true)

pub overflow_mul-at : goal.overflow_mul-at
overflow_mul-at c = omega (arith, mul-le-mul_right c.args.d c.requires, c.ranges.d)

pub returns : goal.returns
returns c = steps _ _ _ _ (sym c.is_some.ensures ∙ c.if-is_some.false) c.read_at-read.result c.read_at-read.ensures c.after-after.ensures c.store.ensures
