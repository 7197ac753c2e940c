-- Changes of a watched skyline, as messages and as bytes.
use Rattle.std.specs.Prelude.{ℕ, ◌+◌, ◌*◌, not, cond, List, [], ◌++◌, map, eqb}
use Rattle.lists.specs.Lists.{filter, flat, contains}
use Rattle.head.specs.declared.Desk.TheVariants.{Two}
use Rattle.head.specs.Heads.{max_capacity}
use Rattle.head.specs.Desks.{record_count, desk_number, desk_in, size_in}
use Rattle.frames.specs.declared.Message.{Message}
use Rattle.frames.specs.declared.Message.TheVariants.{Change, Position}
use Rattle.frame_kinds.specs.Kinds.{leave_kind, join_kind, leave_two_kind, join_two_kind, pair_leave_kind, pair_join_kind}
use Rattle.frames.specs.Frames.{frame}

-- the kind of a desk's leaves
unfoldable pub leave_kind_of : ℕ → ℕ
leave_kind_of desk = cond (eqb desk (desk_number Two)) leave_two_kind leave_kind

-- the kind of a desk's joins
unfoldable pub join_kind_of : ℕ → ℕ
join_kind_of desk = cond (eqb desk (desk_number Two)) join_two_kind join_kind

-- a position leaves the list of the watch w
abbrev pub leave : ℕ → ℕ → Message
leave w = Change (leave_kind_of (desk_in w)) (size_in w)

-- a position joins the list of the watch w
abbrev pub join : ℕ → ℕ → Message
join w = Change (join_kind_of (desk_in w)) (size_in w)

-- a position leaves the past list of the pair
abbrev pub pair_leave : ℕ → Message
pair_leave = Position pair_leave_kind

-- a position joins the past list of the pair
abbrev pub pair_join : ℕ → Message
pair_join = Position pair_join_kind

-- the positions of the first list that are not on the second
unfoldable pub missing : List ℕ → List ℕ → List ℕ
missing these those = filter (λ p. not (contains p those)) these

-- the changes from the list before to the list after, by the messages of a position that leaves and of one that joins: the leaves,
-- then the joins, each rising
unfoldable pub changes_by : (ℕ → Message) → (ℕ → Message) → List ℕ → List ℕ → List Message
changes_by leaves joins before after = map leaves (missing before after) ++ map joins (missing after before)

-- the changes of the watch w
unfoldable pub changes : ℕ → List ℕ → List ℕ → List Message
changes w before after = changes_by (leave w) (join w) before after

-- the changes of every watch, desk one's by n rising, then desk two's, as the watches rise
unfoldable pub all_changes : List ℕ → (ℕ → List ℕ) → (ℕ → List ℕ) → List Message
all_changes watched before after = flat (map (λ w. changes w (before (size_in w)) (after (size_in w))) watched)

-- the changes of the pair
unfoldable pub pair_changes : List ℕ → List ℕ → List Message
pair_changes before after = changes_by pair_leave pair_join before after

-- the frames of messages without columns, each behind the one before
unfoldable pub frames : List Message → List ℕ
frames ms = flat (map (λ m. frame m []) ms)

-- how many bytes the frame of a watch's change has, and that of the pair's
abbrev pub change_length : ℕ
change_length = 7

abbrev pub pair_change_length : ℕ
pair_change_length = 5

-- how many changes a quote brings a watch at most (01: 1,025): every live row may leave, and one may join
abbrev pub most_changes : ℕ
most_changes = max_capacity + 1

-- how many bytes suffice for the changes of all watches (01: 57,400)
abbrev pub watch_room : ℕ
watch_room = record_count * most_changes * change_length

-- how many bytes of output every call that writes changes asks for (02: 62,520): those of all watches, and for each place a change of the pair
abbrev pub change_room : ℕ
change_room = watch_room + max_capacity * pair_change_length
