-- `go_down_any` meets its contract: each turn passes over rows that say nothing, and goes through one more.
use native.Mathlib.Nat.{le_refl}
use native.Mathlib.Omega.{arith}
use Rattle.table_finding.proofs.Looping.{fits_less}
use Rattle.table_finding.proofs.Going.{going_start, going_turn, going_pass, going_end}
use Rattle.table_finding.proofs.ComparedRows.go_down_any.Goals as goal

pub loop-next-init : goal.loop-next-init
loop-next-init c = going_start _ c.requires.from_le_to c.requires.room

pub next_said-requires : goal.next_said-requires
next_said-requires c = record { from_le_to = c.loop-next.invariant.least; fits = fits_less _ c.loop-next.invariant.most c.requires.fits }

pub go_through-so_far-requires : goal.go_through-so_far-requires
go_through-so_far-requires c =
    record {
      fits = fits_less _ (omega (arith, c.loop-next.invariant.most, c.in-Some.ensures.1)) c.requires.fits;
      room = record { least = omega (arith, c.loop-next.invariant.room.least, c.in-Some.ensures.1); most = c.loop-next.invariant.room.most };
    }

pub loop-next-smaller : goal.loop-next-smaller
loop-next-smaller c = c.in-Some.ensures.1

pub loop-next-preserved : goal.loop-next-preserved
loop-next-preserved c =
    going_turn _ (going_pass _ c.loop-next.invariant _ (omega (arith, c.in-Some.ensures.0)) (omega (arith, c.in-Some.ensures.1)) c.is_none.ensures (λ q h l. c.in-Some.ensures.2 q h l)) _ c.in-Some.ensures.0 (omega arith) _ _ c.go_through-so_far.ensures.room_2 c.go_through-so_far.auto.places
    c.go_through-so_far.ensures.by_index

pub returns : goal.returns
returns c =
    let both = going_end _ (going_pass _ c.loop-next.invariant _ (le_refl _) c.loop-next.invariant.least c.is_none.ensures c.in_default.ensures) (le_refl _) in
    record {
      room_2 = both.0;
      by_index = both.1;
    }
