-- `end` meets its contract: the watch is ended, and its line laid.
use Rattle.line_answers.proofs.Turning.{end_turned}
use Rattle.tape_calls.proofs.end.Goals as goal

pub returns : goal.returns
returns c = λ bytes. rw c.put_reply.ensures.turn (end_turned _ _ _ bytes _ _ c.end-ended.ensures c.put_reply.ensures.laid)
