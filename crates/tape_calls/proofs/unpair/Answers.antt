-- `unpair` meets its contract: the pair is ended, and its line laid.
use native.Mathlib.Omega.{arith}
use Rattle.call_judging.proofs.Answering.{lent_all}
use Rattle.line_answers.proofs.Turning.{unpair_turned}
use Rattle.tape_calls.proofs.unpair.Goals as goal

pub returns : goal.returns
returns c =
    let made = rw (lent_all c.args.watches 8 (omega (arith, c.well_formed)) (omega arith)) at c.unpair-reply.ensures in
    λ bytes. rw c.put_reply.ensures.turn (unpair_turned _ _ _ bytes made c.put_reply.ensures.laid)
