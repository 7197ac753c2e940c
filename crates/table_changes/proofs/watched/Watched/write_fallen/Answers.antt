-- `write_fallen` meets its contract: only where the window moves, and only for the row at its old start.
use mathlib.Core.Path.{◌≡◌, refl, sym}
use Prim.Native.Nat.{ℕ, ◌<◌}
use mathlib.Core.Bool.{◌&&◌}
use mathlib.Core.List.{[]}
use lib.Dec.{ltb, eqb}
use lib.ListN.{get_or}
use Rattle.lists.specs.Lists.{keep, flat, laid}
use Rattle.frames.specs.Frames.{frame}
use Rattle.frames.proofs.RoundTrips.{change_length_lem}
use Rattle.model.specs.Changes.{frames}
use Rattle.table_changes.specs.declared.watched.Watched.{Watched}
use Rattle.table_changes.specs.Held.{fallen}
use Rattle.table_changes.specs.Frames.{start_place}
use Rattle.table_changes.proofs.Leaving.{fallen_frame, fallen_nothing, fallen_none, fallen_is}
use Rattle.table_changes.proofs.watched.Watched.write_fallen.Goals as goal

-- where the window moves, the row at the place that was found falls out of it, if it was listed
fallen_at : (w : Watched) (p : ℕ) → p ≡ start_place w → w.shift.before < w.shift.after
    → fallen (start_place w) w.before.now.tables.lower_ends.now w.before.now.tables.upper_ends.now w.shift
    ≡ keep (eqb (get_or w.before.now.tables.upper_ends.now p 0) 0 && ltb (get_or w.before.now.tables.lower_ends.now p 0) w.shift.before) w.shift.before []
fallen_at w p e h = rw e (fallen_is (start_place w) w.before.now.tables.lower_ends.now w.before.now.tables.upper_ends.now w.shift h)

pub returns-then-self-start : goal.returns-then-self-start
unfolding laid frames flat
returns-then-self-start c =
    let w = c.args.self.now in
    let e = fallen_none (start_place w) w.before.now.tables.lower_ends.now w.before.now.tables.upper_ends.now w.shift c.if-self-start.true in
    record { value = rw e refl; out_after = rw e refl }

pub lay_change-requires : goal.lay_change-requires
lay_change-requires c =
    let w = c.args.self.now in
    rw (fallen_frame w.kinds.leave w.n w.shift.before (fallen_at w c.place-place.result c.place-place.ensures c.if-self-start.false) c.if-tables-place.true, change_length_lem) at c.requires

pub returns-then-tables-place : goal.returns-then-tables-place
unfolding frame
returns-then-tables-place c =
    let w = c.args.self.now in
    let e = fallen_frame w.kinds.leave w.n w.shift.before (fallen_at w c.place-place.result c.place-place.ensures c.if-self-start.false) c.if-tables-place.true in
    record { value = rw e (sym (change_length_lem w.kinds.leave w.n w.shift.before)); out_after = rw e c.lay_change.ensures }

pub returns : goal.returns
unfolding laid
returns c =
    let w = c.args.self.now in
    let e = fallen_nothing w.kinds.leave w.n w.shift.before (fallen_at w c.place-place.result c.place-place.ensures c.if-self-start.false) c.if-tables-place.false in
    record { value = rw e refl; out_after = rw e refl }
