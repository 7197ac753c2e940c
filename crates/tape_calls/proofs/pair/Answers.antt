-- `pair` meets its contract: the pair is set, and its lines laid.
use native.Mathlib.Omega.{arith}
use Rattle.call_judging.proofs.Answering.{lent_all}
use Rattle.tape_calls.proofs.Rooms.{pair_fits}
use Rattle.line_answers.proofs.Turning.{pair_turned}
use Rattle.tape_calls.proofs.pair.Goals as goal

pub put_reply_changes-requires : goal.put_reply_changes-requires
put_reply_changes-requires c =
    record {
      numbers_len_bound = (omega arith, omega (arith, pair_fits c.pair-reply.ensures));
      bytes_len_bound = (omega arith, omega arith);
    }

pub returns : goal.returns
returns c =
    let made = rw (lent_all c.args.watches 8 (omega (arith, c.well_formed)) (omega arith)) at c.pair-reply.ensures in
    rw c.put_reply_changes.ensures.turn (pair_turned _ _ _ _ _ _ made c.put_reply_changes.ensures.laid)
