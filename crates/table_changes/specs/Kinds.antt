-- The kinds of a watch's changes.
use Rattle.std.specs.Prelude.{ℕ}
use Rattle.head.specs.Desks.{desk_in}
use Rattle.model.specs.Changes.{leave_kind_of, join_kind_of}
use Rattle.table_changes.specs.declared.kinds.Kinds.{Kinds}

-- the kinds of the leaves and joins of the watch's desk
unfoldable pub kinds_of : ℕ → Kinds
kinds_of watch = record { leave = leave_kind_of (desk_in watch); join = join_kind_of (desk_in watch) }
