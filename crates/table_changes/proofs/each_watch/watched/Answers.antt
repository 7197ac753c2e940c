-- `watched` meets its contract: the window lies within the rows, and the frames are those of the record.
use Prim.Native.Nat.{◌<◌, ◌≤◌}
use native.Mathlib.Omega.{arith}
use Rattle.table_changes.proofs.Known.{ready_by, stays_by, frames_are}
use Rattle.table_changes.proofs.each_watch.watched.Goals as goal
use Rattle.table_changes.proofs.each_watch.watched.Goals.{After-shift_of-shift}

-- the watched n is from 1 to N
some : (c : After-shift_of-shift) → 0 < c.size_of-n.result
some c = omega (arith, c.size_of-n.ensures, c.requires.sized.least c.requires.watch_nonzero)

low : (c : After-shift_of-shift) → c.size_of-n.result ≤ c.args.before.now.head.capacity
low c = omega (arith, c.size_of-n.ensures, c.requires.sized.most)

pub invariant_of-result : goal.invariant_of-result
invariant_of-result c =
    let a = (goal.at.invariant_of-result c).After-shift_of-shift in
    record {
      ready = ready_by c.args.before.now _ (some a) (low a) c.shift_of-shift.ensures;
      stays = stays_by c.args.before.now _ (low a) c.shift_of-shift.ensures;
    }

pub returns : goal.returns
returns c = frames_are c.args.before.now c.args.watch c.requires.watch_nonzero c.size_of-n.ensures c.shift_of-shift.ensures c.kinds_of-kinds.ensures
