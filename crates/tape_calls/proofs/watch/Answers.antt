-- `watch` meets its contract: the watch is set, and its lines laid.
use native.Mathlib.Omega.{arith}
use Rattle.tape_calls.proofs.Rooms.{watch_fits}
use Rattle.line_answers.proofs.Turning.{watch_turned}
use Rattle.tape_calls.proofs.watch.Goals as goal

pub put_reply_changes-requires : goal.put_reply_changes-requires
put_reply_changes-requires c =
    record {
      numbers_len_bound = (omega arith, omega (arith, watch_fits c.watch-watched.ensures));
      bytes_len_bound = (omega arith, omega arith);
    }

pub returns : goal.returns
returns c = rw c.put_reply_changes.ensures.turn (watch_turned _ _ _ _ _ _ c.watch-watched.ensures c.put_reply_changes.ensures.laid)
