-- `with_quote` meets its contract.
use Rattle.drill_hands.proofs.Handing.{fifth_quote, held_quote}
use Rattle.drill_hands.proofs.with_quote.Goals as goal

pub returns-then-held-ge4 : goal.returns-then-held-ge4
returns-then-held-ge4 c = fifth_quote c.args.hand _ _ c.if-held-ge4.true

pub returns : goal.returns
returns c = held_quote c.args.hand _ _ c.if-held-ge4.false c.entered.ensures
