-- `put_quote` meets its contract: the line of the quote is laid, and those of its changes behind it.
use Rattle.line_answers.proofs.Turning.{quote_turned}
use Rattle.line_answers.proofs.put_quote.Goals as goal

pub returns : goal.returns
returns c = λ h x t t' before q. rw c.put_reply_changes.ensures.turn (quote_turned h t _ before x q c.put_reply_changes.ensures.laid)
