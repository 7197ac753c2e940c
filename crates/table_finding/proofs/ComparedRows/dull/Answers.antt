-- `dull` meets its contract: each turn compares one row.
use mathlib.Core.Path.{sym}
use Prim.Native.Nat.{◌+◌, ◌-◌}
use native.Mathlib.Omega.{arith}
use mathlib.Core.Path.{◌≡◌}
use Rattle.table_finding.proofs.Blocks.{dull_none}
use Rattle.table_finding.proofs.Looping.{compare_turn, row_in}
use Rattle.table_finding.proofs.ComparedRows.dull.Goals as goal

pub loop-i-init : goal.loop-i-init
loop-i-init c = let none : c.args.from - c.args.from ≡ 0 = omega arith in rw none (sym (dull_none _ _))

pub overflow_mul-i : goal.overflow_mul-i
overflow_mul-i c =
    rw c.requires.same
    (omega (arith, c.requires.fits.columns, row_in c.loop-i.i (c.args.from + 64) c.args.self.d (omega arith), c.ranges.self))

pub compare-c-requires : goal.compare-c-requires
compare-c-requires c =
    rw c.requires.same
    (record {
      d_in_bounds = omega (arith, c.requires.fits.quoted);
      d_in_bounds_2 = omega (arith, c.requires.fits.columns, row_in c.loop-i.i (c.args.from + 64) c.args.self.d (omega arith));
    })

pub loop-i-preserved : goal.loop-i-preserved
loop-i-preserved c = compare_turn _ _ _ (omega arith) c.loop-i.invariant _ (rw c.requires.same at c.compare-c.ensures)

pub returns : goal.returns
returns c = let n : c.loop-i.i - c.args.from ≡ 64 = omega arith in rw n at c.loop-i.invariant
