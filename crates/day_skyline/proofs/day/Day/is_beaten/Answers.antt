-- `is_beaten` meets its contract: what is asked of each of the others is whether it is over the position.
use mathlib.Core.Path.{◌∙◌}
use Rattle.std.proofs.Common.{rules}
use Rattle.std.proofs.lemmas.Iterator.{YieldsList-from_slice}
use Rattle.std.proofs.lemmas.Iterator.Search.{any_from_yields_List}
use Rattle.day_skyline.specs.Finding.{over_in}
use Rattle.day_skyline.proofs.Beaten.{any_is}
use Rattle.day_skyline.proofs.day.Day.is_beaten.Goals as goal

pub returns : goal.returns
returns c =
    any_from_yields_List (λ q. over_in c.args.self q c.args.p) _ _ _ c.any.ensures.ran (YieldsList-from_slice c.args.others.now cc)
    (λ x b q k. search rules)
    ∙ any_is (over_in c.args.self) c.args.p c.args.others.now
