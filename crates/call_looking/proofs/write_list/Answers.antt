-- `write_list` meets its contract: nothing is written where the positions do not fit.
use mathlib.Core.Path.{sym, ◌∙◌}
use borrow.Author.Tests.{ltb-true, ltb-false}
use Rattle.call_looking.proofs.Listing.{shown_none, shown_all}
use Rattle.call_looking.proofs.write_list.Goals as goal

pub returns-then-short_list : goal.returns-then-short_list
returns-then-short_list c = rw c.refused.ensures (shown_none _ _ _ _ (ltb-true _ _ (sym c.short_list.ensures ∙ c.if-short_list.true)))

pub write_listed-written-requires : goal.write_listed-written-requires
write_listed-written-requires c = ltb-false _ _ (sym c.short_list.ensures ∙ c.if-short_list.false)

pub returns : goal.returns
returns c =
    rw c.accepted.ensures
    (shown_all _ _ _ (ltb-false _ _ (sym c.short_list.ensures ∙ c.if-short_list.false)) c.write_listed-written.ensures.value c.write_listed-written.ensures.out_after)
