-- `write_dropped` meets its contract: each turn writes the leave of the row at one of the places, if it is one.
use mathlib.Core.Path.{◌≡◌}
use Prim.Native.Nat.{ℕ, ◌+◌, ◌-◌, ◌≤◌, ◌<◌}
use native.Mathlib.Omega.{arith}
use mathlib.Core.Bool.{Bool, true, false, ◌&&◌}
use mathlib.Core.List.{List, []}
use lib.Dec.{ltb, leb}
use lib.ListN.{length, get_or, length-take, length-drop}
use borrow.Rule.Slice.PartMut.{mid_of, put_mid}
use Rattle.lists.specs.Lists.{laid}
use Rattle.frames.specs.declared.Message.TheVariants.{Change}
use Rattle.frames.specs.Frames.{frame}
use Rattle.table_changes.specs.declared.watched.Watched.{Watched}
use Rattle.table_changes.proofs.Leaving.{Leaving, drops_at, leaving_start, leaving_fits, leaving_pass, leaving_more, leaving_all}
use Rattle.table_changes.proofs.Known.{places_below}
use Rattle.table_changes.proofs.watched.Watched.write_dropped.Goals as goal
use Rattle.table_changes.proofs.watched.Watched.write_dropped.Goals.{Then-lower-self, then-lower-self, else-lower-self}

-- the leaves of the rows at the first k places stand at the front of the output
abbrev Leaves : Watched → List ℕ → List ℕ → ℕ → ℕ → Type 0
Leaves w entry out at k = Leaving w.kinds.leave w.n w.before.now.first w.before.now.tables.lower_ends.now w.shift w.before.now.retired.now entry out at k

-- the test of a turn, where the place is read twice
abbrev tested : Watched → ℕ → ℕ → Bool
tested w a b = ltb (get_or w.before.now.tables.lower_ends.now a 0) w.shift.before && leb w.shift.after (w.before.now.first + b)

module _ (w : Watched) {entry out : List ℕ} {at k : ℕ} (v : Leaves w entry out at k) (h : k < length w.before.now.retired.now) (a b : ℕ)
    (e : a ≡ get_or w.before.now.retired.now k 0) (f : b ≡ get_or w.before.now.retired.now k 0) where
  drops : tested w a b ≡ drops_at w.kinds.leave w.n w.before.now.first w.before.now.tables.lower_ends.now w.shift (get_or w.before.now.retired.now k 0)
  drops = rw (e, f)

  turn_fits : tested w a b ≡ true → at + 7 ≤ length out
  turn_fits t = leaving_fits _ _ _ _ _ v h drops t

  turn_pass : tested w a b ≡ false → Leaves w entry out at (k + 1)
  turn_pass t = leaving_pass _ _ _ _ _ v h drops t

  turn_more : {last : List ℕ} → tested w a b ≡ true → last ≡ laid (frame (Change w.kinds.leave w.n (w.before.now.first + b)) []) (mid_of at (length out - at) out)
      → Leaves w entry (put_mid at (length out - at) out last) (at + 7) (k + 1)
  turn_more t l = leaving_more _ _ _ _ _ v h drops (rw f at l) t

pub loop-i-init : goal.loop-i-init
loop-i-init c = leaving_start _ _ _ _ _ _ _ c.requires

pub bounds-lower_ends-from : goal.bounds-lower_ends-from
bounds-lower_ends-from c = rw c.from-in-loop-i.ensures ((places_below c.args.self.now).low c.loop-i.i-index c.loop-i-test.true)

-- a row that is dropped has room for its leave
fits : (c : Then-lower-self) → c.loop-i.at + 7 ≤ length c.loop-i.out
fits c = turn_fits c.args.self.now c.loop-i.invariant c.loop-i-test.true c.from-in-loop-i.result c.from.result c.from-in-loop-i.ensures c.from.ensures c.if-lower-self.true

pub slice_bounds-lay_change-count : goal.slice_bounds-lay_change-count
slice_bounds-lay_change-count c = omega (arith, fits (goal.at.slice_bounds-lay_change-count c).Then-lower-self)

pub slice_bounds-lay_change-start : goal.slice_bounds-lay_change-start
slice_bounds-lay_change-start c = omega (arith, fits (goal.at.slice_bounds-lay_change-start c).Then-lower-self)

pub lay_change-requires : goal.lay_change-requires
lay_change-requires c = simp (length-take, length-drop) (omega (arith, fits (goal.at.lay_change-requires c).Then-lower-self))

pub overflow_add-at : goal.overflow_add-at
overflow_add-at c = omega (arith, fits (goal.at.overflow_add-at c).Then-lower-self, c.loop-i.invariant.laying.front.long, c.well_formed)

pub loop-i-preserved : goal.loop-i-preserved
unfolding frame
loop-i-preserved c =
    elim c.if-lower-self.branch [
      | then-lower-self b ↦ rw (b.out-is, b.at-is)
          (turn_more c.args.self.now c.loop-i.invariant c.loop-i-test.true c.from-in-loop-i.result c.from.result c.from-in-loop-i.ensures c.from.ensures b.if-lower-self.true b.lay_change.ensures)
      | else-lower-self b ↦ rw (b.out-is, b.at-is)
          (turn_pass c.args.self.now c.loop-i.invariant c.loop-i-test.true c.from-in-loop-i.result c.from.result c.from-in-loop-i.ensures c.from.ensures b.if-lower-self.false)
    ]

pub returns : goal.returns
returns c =
    let both = leaving_all _ _ _ _ _ c.loop-i.invariant c.loop-i-test.false in
    record { value = both.0; out_after = both.1 }
