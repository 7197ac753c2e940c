-- `tell` meets its contract.
use native.Mathlib.Omega.{arith}
use Rattle.call_settling.specs.Findings.{expired_places}
use Rattle.call_settling.proofs.Numbers.{lost_within, told_is}
use Rattle.call_settling.proofs.tell.Goals as goal

pub expired_live-requires : goal.expired_live-requires
unfolding expired_places
expired_live-requires c =
    record {
      by_bound = omega (arith, c.expired_places-by.ensures, c.requires.tellable.held_fits);
      by_in_bounds = omega (arith, c.expired_places-by.ensures, c.requires.tellable.held_fits, c.requires.tellable.some, c.requires.tellable.uppers_fit);
    }

pub overflow_add-lost : goal.overflow_add-lost
overflow_add-lost c =
    omega (arith, lost_within c.requires.tellable c.expired_places-by.ensures c.expired_live.ensures, c.requires.tellable.live_bounded, c.requires.tellable.held_bounded)

pub overflow_sub-result : goal.overflow_sub-result
overflow_sub-result c = lost_within c.requires.tellable c.expired_places-by.ensures c.expired_live.ensures

pub overflow_cast-result : goal.overflow_cast-result
unfolding expired_places
overflow_cast-result c = omega (arith, c.expired_places-by.ensures, c.requires.tellable.held_fits)

pub overflow_sub-result-2 : goal.overflow_sub-result-2
unfolding expired_places
overflow_sub-result-2 c = omega (arith, c.expired_places-by.ensures, c.requires.tellable.held_fits, c.requires.tellable.some)

pub returns : goal.returns
returns c =
    told_is c.requires.tellable c.expired_places-by.ensures c.expired_live.ensures _ _ c.expired_position-gone.ensures c.position_of-lower.ensures c.named_before.ensures
