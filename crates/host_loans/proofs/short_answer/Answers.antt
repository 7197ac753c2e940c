-- `short_answer` meets its contract.
use Rattle.refusals.specs.Refusals.{first_of}
use Rattle.call_judging.specs.Answers.{short_loan_answer}
use Rattle.host_loans.proofs.short_answer.Goals as goal

pub returns-then-settings_hold : goal.returns-then-settings_hold
unfolding short_loan_answer first_of
returns-then-settings_hold c = rw (← c.settings_hold.ensures, c.if-settings_hold.true) c.number.ensures

pub returns : goal.returns
unfolding short_loan_answer first_of
returns c = rw (← c.settings_hold.ensures, c.if-settings_hold.false) c.number-2.ensures
