-- `watch` meets its contract: refused, it leaves the watches as they were; accepted, it inserts n.
use native.Mathlib.Omega.{arith}
use Rattle.lent_tables.specs.Lent.{lent}
use Rattle.call_judging.proofs.Answering.{lent_all}
use Rattle.call_watching.specs.Judged.{WatchJudged}
use Rattle.call_watching.proofs.Watches.{watch_free, watch_accepted, watch_inserted, watch_left}
use Rattle.call_watching.proofs.watch.Goals as goal
use Rattle.call_watching.proofs.watch.Goals.{After-set_watch-reply}

-- what the call came to before the watches changed
judged : (c : After-set_watch-reply) → WatchJudged c.args.head c.args.desk c.args.n (lent c.args.tables.now) c.args.watches c.args.out.now c.set_watch-reply.result c.set_watch-reply.new.out
judged c = rw (lent_all c.args.watches 8 (omega (arith, c.well_formed)) (omega arith)) at c.set_watch-reply.ensures

pub returns-in-Err : goal.returns-in-Err
returns-in-Err c = watch_left (judged (goal.at.returns-in-Err c).After-set_watch-reply) c.in-Err.is

pub insert-requires : goal.insert-requires
insert-requires c = (watch_free _ _ _ _ _ _ (watch_accepted (judged (goal.at.insert-requires c).After-set_watch-reply) c.in_default.is)).vacant

pub returns : goal.returns
returns c = watch_inserted (judged (goal.at.returns c).After-set_watch-reply) c.in_default.is c.insert.ensures
