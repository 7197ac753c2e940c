-- `next_said` meets its contract: each turn passes over one row that says nothing.
use native.Mathlib.Omega.{arith}
use Rattle.table_finding.proofs.Looping.{fits_less}
use Rattle.table_finding.proofs.Idling.{pass_start, pass_turn}
use Rattle.table_finding.proofs.ComparedRows.next_said.Goals as goal

pub loop-i-init : goal.loop-i-init
loop-i-init c = pass_start _ c.requires.from_le_to

pub is_idle-requires : goal.is_idle-requires
is_idle-requires c = fits_less _ (omega (arith, c.loop-i.invariant.most, c.loop-i-test.true)) c.requires.fits

pub returns-then-not-is_idle : goal.returns-then-not-is_idle
returns-then-not-is_idle c =
    (omega (arith, c.loop-i-test.true), omega (arith, c.loop-i.invariant.most, c.loop-i-test.true), λ q h l. c.loop-i.invariant.idle q (omega arith) l)

pub loop-i-preserved : goal.loop-i-preserved
loop-i-preserved c = pass_turn _ c.loop-i.invariant c.loop-i-test.true (c.is_idle.ensures c.if-not-is_idle.false)

pub returns : goal.returns
returns c = λ q h l. c.loop-i.invariant.idle q (omega arith) l
