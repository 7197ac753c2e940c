-- `ready` meets its contract, by the tests it makes.
use Rattle.tape_waiting.proofs.Waits.{not_ready, ready_known, ready_unknown}
use Rattle.tape_waiting.proofs.ready.Goals as goal

pub returns-in_default : goal.returns-in_default
returns-in_default c = not_ready _ _ c.in_default.ensures.lookup.3

pub returns-in-Some-known_length : goal.returns-in-Some-known_length
returns-in-Some-known_length c =
    let l = c.in-Some.ensures.lookup.3 in
    rw c.from.ensures (ready_known c.args.tape.now c.args.place l.0 (rw (l.1 0) at c.in-Some-known_length.ensures))

pub returns-in-None : goal.returns-in-None
returns-in-None c = let l = c.in-Some.ensures.lookup.3 in ready_unknown c.args.tape.now c.args.place l.0 (rw (l.1 0) at c.in-None.ensures)
