-- `write_row_joins` meets its contract: at each turn the joins of the rows below the next place stand at the front of the output.
use mathlib.Core.Path.{refl, sym, ◌∙◌}
use Prim.Native.Nat.{◌+◌, ◌≤◌}
use native.Mathlib.Omega.{arith}
use lib.ListN.{length, length-take, length-drop}
use Rattle.lists.specs.Lists.{laid}
use Rattle.frames.specs.Frames.{frame}
use Rattle.table_changes.proofs.Joining.{gain_moves, none_join, found_first, turn_fits, turn_pass, turn_more, all_found}
use Rattle.table_changes.proofs.watched.Watched.write_row_joins.Goals as goal
use Rattle.table_changes.proofs.watched.Watched.write_row_joins.Goals.{Then-joins}

pub returns-then-not-may_gain : goal.returns-then-not-may_gain
unfolding laid
returns-then-not-may_gain c =
    let e = none_join c.args.self.now (sym c.may_gain.ensures ∙ c.if-not-may_gain.true) in
    record { value = rw e refl; out_after = rw e refl }

pub next_equal-next-requires-clause-from_le_to : goal.next_equal-next-requires-clause-from_le_to
next_equal-next-requires-clause-from_le_to c =
    let moved = gain_moves _ _ c.args.self.now.shift _ (sym c.may_gain.ensures ∙ c.if-not-may_gain.false) in
    omega (arith, c.args.self.now.ready.starts, c.args.self.now.ready.ends, c.place.ensures)

pub loop-next-init : goal.loop-next-init
loop-next-init c =
    found_first c.args.self.now c.args.out.now c.requires c.place.ensures (sym c.may_gain.ensures ∙ c.if-not-may_gain.false) c.next_equal-next.ensures

-- a row that joins has room for its join
fits : (c : Then-joins) → c.loop-next.at + 7 ≤ length c.loop-next.out
fits c = turn_fits c.loop-next.invariant c.in-Some.is c.next_equal-next-in-Some.ensures c.stands-joins.ensures c.if-joins.true

pub slice_bounds-lay_change-count : goal.slice_bounds-lay_change-count
slice_bounds-lay_change-count c = omega (arith, fits (goal.at.slice_bounds-lay_change-count c).Then-joins)

pub slice_bounds-lay_change-start : goal.slice_bounds-lay_change-start
slice_bounds-lay_change-start c = omega (arith, fits (goal.at.slice_bounds-lay_change-start c).Then-joins)

pub lay_change-requires : goal.lay_change-requires
lay_change-requires c = simp (length-take, length-drop) (omega (arith, fits (goal.at.lay_change-requires c).Then-joins))

pub overflow_add-at : goal.overflow_add-at
overflow_add-at c = omega (arith, fits (goal.at.overflow_add-at c).Then-joins, c.loop-next.invariant.joining.writing.laying.front.long, c.well_formed)

pub loop-next-preserved-then-joins : goal.loop-next-preserved-then-joins
unfolding frame
loop-next-preserved-then-joins c =
    turn_more c.loop-next.invariant c.in-Some.is c.next_equal-next-in-Some.ensures c.stands-joins.ensures c.lay_change.ensures c.if-joins.true

pub loop-next-preserved : goal.loop-next-preserved
loop-next-preserved c = turn_pass c.loop-next.invariant c.in-Some.is c.next_equal-next-in-Some.ensures c.stands-joins.ensures c.if-joins.false

pub returns : goal.returns
returns c =
    let both = all_found c.loop-next.invariant c.in_default.is in
    record { value = both.0; out_after = both.1 }
