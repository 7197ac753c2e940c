-- The joins of what follows a list.
use Rattle.std.specs.Prelude.{ℕ}
use Rattle.head.specs.Desks.{desk_number}
use Rattle.frames.specs.declared.Message.{Message}
use Rattle.frames.specs.declared.Message.TheVariants.{Change}
use Rattle.model.specs.Changes.{join_kind_of, pair_join}
use Rattle.table_listing.specs.declared.Follower.{Follower}
use Rattle.table_listing.specs.declared.Follower.TheVariants.{Watch, Pair}

-- a position joins the list of this follower
unfoldable pub join_of : Follower → ℕ → Message
join_of (Watch desk n) = Change (join_kind_of (desk_number desk)) n
join_of Pair = pair_join
