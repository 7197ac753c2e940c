-- `go_down` meets its contract: each turn goes through one row.
use native.Mathlib.Omega.{arith}
use Rattle.table_finding.proofs.Looping.{fits_less}
use Rattle.table_finding.proofs.Going.{going_start, going_turn, going_end, going_stop, row_next}
use Rattle.table_finding.proofs.ComparedRows.go_down.Goals as goal

pub loop-i-init : goal.loop-i-init
loop-i-init c = going_start _ c.requires.from_le_to c.requires.room

pub go_through-so_far-requires : goal.go_through-so_far-requires
go_through-so_far-requires c =
    record {
      fits = fits_less _ (omega (arith, c.loop-i.invariant.most)) c.requires.fits;
      room = record { least = omega (arith, c.loop-i.invariant.room.least, c.loop-i-test.true); most = c.loop-i.invariant.room.most };
    }

pub returns-then-self-is_some : goal.returns-then-self-is_some
returns-then-self-is_some c =
    let both = going_stop _
    (going_turn _ c.loop-i.invariant _ (omega (arith, c.loop-i-test.true)) (omega arith) _ _ c.go_through-so_far.ensures.room_2 c.go_through-so_far.auto.places (row_next _ (omega (arith, c.loop-i-test.true)) c.go_through-so_far.ensures.by_index))
    (rw c.is_some.ensures at c.if-self-is_some.true) in
    record {
      room_2 = both.0;
      by_index = both.1;
    }

pub loop-i-preserved : goal.loop-i-preserved
loop-i-preserved c =
    going_turn _ c.loop-i.invariant _ (omega (arith, c.loop-i-test.true)) (omega arith) _ _ c.go_through-so_far.ensures.room_2 c.go_through-so_far.auto.places (row_next _ (omega (arith, c.loop-i-test.true)) c.go_through-so_far.ensures.by_index)

pub returns : goal.returns
returns c =
    let both = going_end _ c.loop-i.invariant c.loop-i-test.false in
    record {
      room_2 = both.0;
      by_index = both.1;
    }
