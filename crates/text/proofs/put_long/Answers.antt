-- `put_long` meets its contract: the digits are written from the last to the first, each in its place.
use native.Mathlib.Omega.{arith}
use Rattle.text.proofs.Digits.{put_finish}
use Rattle.text.proofs.put_long.Goals as goal

pub returns : goal.returns
returns c = put_finish _ _ _ _ _ _ c.digit_count-count.ensures (omega arith) c.loop-i.invariant
