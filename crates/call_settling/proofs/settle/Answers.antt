-- `settle` meets its contract: the row is put behind the others, or these move to the front first.
use native.Mathlib.Omega.{arith}
use Rattle.call_settling.proofs.Putting.{sizes, row_fits, behind_fits, settled_behind, settled_put}
use Rattle.call_settling.proofs.settle.Goals as goal

pub overflow_mul-held : goal.overflow_mul-held
overflow_mul-held c = omega (arith, sizes c.requires.ready)

pub put-requires : goal.put-requires
put-requires c = rw c.requires.row_len (behind_fits c.requires.ready c.if-found.true)

pub returns-then-found : goal.returns-then-found
returns-then-found c = settled_behind _ _ _ _ _ c.if-found.true c.put.ensures

pub overflow_mul-by : goal.overflow_mul-by
overflow_mul-by c = omega (arith, sizes c.requires.ready)

pub overflow_mul-held-2 : goal.overflow_mul-held-2
overflow_mul-held-2 c = omega (arith, sizes c.requires.ready)

pub enter-requires : goal.enter-requires
enter-requires c =
    let z = sizes c.requires.ready in
    record {
      by_le_count = z.0;
      count_le_places = z.1;
      row_bound = row_fits c.requires.ready c.requires.row_len;
      places_in_bounds = c.requires.ready.long;
    }

pub returns : goal.returns
returns c = settled_put _ _ _ _ _ c.if-found.false c.enter.ensures
