-- `put_opening` meets its contract: the line of the opening is laid.
use Rattle.line_answers.proofs.Turning.{open_turned}
use Rattle.line_answers.proofs.put_opening.Goals as goal

pub returns : goal.returns
returns c = λ t t' ws bytes o. rw c.put_reply.ensures.turn (open_turned _ t ws bytes _ _ _ o c.opened_head.ensures c.put_reply.ensures.laid)
