-- `end` meets its contract: refused, it leaves the watches as they were; accepted, it removes n.
use native.Mathlib.Omega.{arith}
use Rattle.lent_tables.specs.Lent.{lent}
use Rattle.call_judging.proofs.Answering.{lent_all}
use Rattle.call_watching.specs.Judged.{EndJudged}
use Rattle.call_watching.proofs.Watches.{end_removed, end_left}
use Rattle.call_watching.proofs.end.Goals as goal
use Rattle.call_watching.proofs.end.Goals.{After-end_watch-reply}

-- what the call came to before the watches changed
judged : (c : After-end_watch-reply) → EndJudged c.args.head c.args.desk c.args.n (lent c.args.tables.now) c.args.watches c.end_watch-reply.result
judged c = rw (lent_all c.args.watches 8 (omega (arith, c.well_formed)) (omega arith)) at c.end_watch-reply.ensures

pub returns-in-Err : goal.returns-in-Err
returns-in-Err c = end_left (judged (goal.at.returns-in-Err c).After-end_watch-reply) c.in-Err.is

pub returns : goal.returns
returns c = end_removed (judged (goal.at.returns c).After-end_watch-reply) c.in_default.is c.remove.ensures
