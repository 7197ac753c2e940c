-- `placed` meets its contract, whose test it makes.
use Rattle.std.proofs.Common.{arith, sym, ap, ◌∙◌, Ok}
use Rattle.std.proofs.lemmas.Grind.{common_steps}
use Rattle.tape_asking.proofs.Wishes.{placed_unread, placed_end, placed_out, placed_in}
use Rattle.tape_asking.proofs.placed.Goals as goal

pub returns-in_err-wanted : goal.returns-in_err-wanted
returns-in_err-wanted c = λ columns. grind (arith, common_steps, placed_unread c.args.begun _ _ c.asks.ensures columns c.in_err-wanted.was)

pub returns-in-Some : goal.returns-in-Some
returns-in-Some c = λ columns. placed_out _ _ _ c.asks.ensures columns (c.in_ok-wanted.was ∙ ap Ok c.in-Some.is) (sym c.misplaced.ensures ∙ c.if-misplaced.true)

pub returns-in-Some-2 : goal.returns-in-Some-2
returns-in-Some-2 c = λ columns. placed_in _ _ _ c.asks.ensures columns (c.in_ok-wanted.was ∙ ap Ok c.in-Some.is) (sym c.misplaced.ensures ∙ c.if-misplaced.false)

pub returns-in-None : goal.returns-in-None
returns-in-None c = λ columns. placed_end _ _ _ c.asks.ensures columns (c.in_ok-wanted.was ∙ ap Ok c.in-None.is)
