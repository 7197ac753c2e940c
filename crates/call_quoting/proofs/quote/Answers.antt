-- `quote` meets its contract: nothing is known of the tables.
use mathlib.Core.Path.{refl}
use Rattle.call_quoting.proofs.Reaching.{unknown}
use Rattle.call_quoting.proofs.quote.Goals as goal

pub quote_known-requires : goal.quote_known-requires
quote_known-requires c = unknown refl

pub returns : goal.returns
returns c =
    let entered = c.quote_known.ensures.entered in
    record { same_loan = c.quote_known.ensures.same_loan; quoted = record { reply = entered.quoted.reply; lent = entered.moved refl; out = entered.quoted.out } }
