-- `put_refusal` meets its contract: the line of the number is laid.
use Rattle.line_answers.proofs.Turning.{refusal_turned}
use Rattle.line_answers.proofs.put_refusal.Goals as goal

pub returns : goal.returns
returns c = λ t bytes. refusal_turned _ t _ bytes _ c.number.ensures c.put_line.ensures
