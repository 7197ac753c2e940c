-- `find_rows` meets its contract: each turn goes through one block.
use mathlib.Core.Path.{refl}
use native.Mathlib.Nat.{le_refl}
use native.Mathlib.Omega.{arith}
use Rattle.table_finding.proofs.Looping.{fits_less}
use Rattle.table_finding.proofs.Going.{going_start, going_turn, going_end, going_stop, finds_none}
use Rattle.table_finding.proofs.ComparedRows.find_rows.Goals as goal

pub loop-i-init : goal.loop-i-init
loop-i-init c = going_start _ c.requires.from_le_to (record { least = c.requires.to_in_bounds; most = le_refl _ })

pub block_start-next-requires : goal.block_start-next-requires
block_start-next-requires c = c.loop-i-test.true

pub go_down_block-so_far-requires : goal.go_down_block-so_far-requires
go_down_block-so_far-requires c =
    record {
      from_le_to = (omega (arith, c.block_start-next.ensures.lower_bound.1), c.block_start-next.ensures.to_bound);
      fits = fits_less _ c.loop-i.invariant.most c.requires.fits;
      room = c.loop-i.invariant.room;
    }

pub returns-then-self-is_some : goal.returns-then-self-is_some
returns-then-self-is_some c =
    (going_stop _
    (going_turn _ c.loop-i.invariant _ c.block_start-next.ensures.lower_bound.0 (omega (arith, c.block_start-next.ensures.lower_bound.1)) _ _ c.go_down_block-so_far.ensures.room_2 c.go_down_block-so_far.auto.places c.go_down_block-so_far.ensures.by_index)
    (rw c.is_some.ensures at c.if-self-is_some.true)).1 _ (le_refl _) c.requires.sound (finds_none _ _ _ _ refl refl)

pub loop-i-smaller : goal.loop-i-smaller
loop-i-smaller c = c.block_start-next.ensures.lower_bound.1

pub loop-i-preserved : goal.loop-i-preserved
loop-i-preserved c =
    going_turn _ c.loop-i.invariant _ c.block_start-next.ensures.lower_bound.0 (omega (arith, c.block_start-next.ensures.lower_bound.1)) _ _ c.go_down_block-so_far.ensures.room_2 c.go_down_block-so_far.auto.places c.go_down_block-so_far.ensures.by_index

pub returns : goal.returns
returns c = (going_end _ c.loop-i.invariant c.loop-i-test.false).1 _ (le_refl _) c.requires.sound (finds_none _ _ _ _ refl refl)
