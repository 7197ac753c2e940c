-- `is_uneven` meets its contract: each of the hand's column counts is looked at.
use mathlib.Core.Path.{◌∙◌}
use mathlib.Core.Bool.{not}
use native.Mathlib.Omega.{arith}
use lib.Dec.{eqb}
use lib.ListN.{take}
use Rattle.std.proofs.Common.{rules}
use Rattle.std.proofs.lemmas.Iterator.{YieldsList-from_slice}
use Rattle.std.proofs.lemmas.Iterator.Search.{any_from_yields_List}
use Rattle.drill_call.proofs.Judging.{uneven_is}
use Rattle.drill_call.proofs.is_uneven.Goals as goal

pub returns : goal.returns
returns c =
    any_from_yields_List (λ x. not (eqb x c.args.dimensions)) _ _ _ c.any.ensures.ran
    (YieldsList-from_slice (take c.args.hand.count c.args.hand.columns) cc) (λ x b q k. search rules)
    ∙ uneven_is c.args.dimensions c.args.hand (omega arith)
