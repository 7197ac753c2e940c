-- `join_piece` meets its contract: the joins so far, each on what the one before left.
use mathlib.Core.Path.{sym, ◌∙◌}
use Rattle.venue_pieces.proofs.Steps.{goes_room, step_less, piece_start, piece_more, piece_all}
use Rattle.venue_pieces.proofs.join_piece.Goals as goal

pub pairs-init : goal.pairs-init
pairs-init c = piece_start _ _ _ _ _ _ _ c.requires

pub goes_on-requires : goal.goes_on-requires
goes_on-requires c = c.pairs.invariant.within

pub join_one-requires : goal.join_one-requires
join_one-requires c = (goes_room _ _ _ _ _ _ (sym c.goes_on.ensures ∙ c.pairs-test.true)).1

pub pairs-smaller : goal.pairs-smaller
pairs-smaller c = step_less _ _ _ c.join_one.ensures (goes_room _ _ _ _ _ _ (sym c.goes_on.ensures ∙ c.pairs-test.true)).0

pub pairs-preserved : goal.pairs-preserved
pairs-preserved c = piece_more _ _ _ _ _ c.pairs.invariant (sym c.goes_on.ensures ∙ c.pairs-test.true) c.join_one.ensures c.join_one.auto.out

pub shape_of-out : goal.shape_of-out
shape_of-out c = c.pairs.invariant.long

pub returns : goal.returns
returns c = piece_all _ _ _ _ _ c.pairs.invariant (sym c.goes_on.ensures ∙ c.pairs-test.false)
