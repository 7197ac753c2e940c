-- `join_kind` meets its contract, by the desk.
use mathlib.Core.Path.{◌≡◌}
use Rattle.head.specs.declared.Desk.{Desk}
use Rattle.head.specs.declared.Desk.TheVariants.{One, Two}
use Rattle.head.specs.Desks.{desk_number}
use Rattle.frame_kinds.specs.Kinds.{join_kind, join_two_kind}
use Rattle.model.specs.Changes.{join_kind_of}
use Rattle.table_listing.proofs.join_kind.Goals as goal

of_one : {desk : Desk} → desk ≡ One → join_kind ≡ join_kind_of (desk_number desk)
unfolding join_kind_of
of_one e = rw e

of_two : {desk : Desk} → desk ≡ Two → join_two_kind ≡ join_kind_of (desk_number desk)
unfolding join_kind_of
of_two e = rw e

pub returns-in-One : goal.returns-in-One
returns-in-One c = of_one c.in-One.is

pub returns-in-Two : goal.returns-in-Two
returns-in-Two c = of_two c.in-Two.is
