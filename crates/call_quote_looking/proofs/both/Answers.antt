-- `both` meets its contract: nothing is known of the tables.
use mathlib.Core.Path.{refl}
use Rattle.call_quoting.proofs.Reaching.{unknown}
use Rattle.call_quote_looking.proofs.both.Goals as goal

pub both_known-requires : goal.both_known-requires
both_known-requires c = unknown refl

pub returns : goal.returns
returns c =
    let both = c.both_known.ensures.both_made in
    record {
      same_loan = c.both_known.ensures.same_loan;
      quoted_looked = record { reply = both.made.reply; listed = both.made.listed; lent = both.moved refl; out = both.made.out; positions = both.made.positions };
    }
