-- The frames of changes: seven bytes each of a watch's, five each of the pair's, each list of messages behind the one before.
use mathlib.Core.Path.{◌≡◌, sym, ap, ◌∙◌}
use Prim.Native.Nat.{ℕ, ◌*◌}
use native.Mathlib.Nat.{mul-zero, mul-suc, mul-add}
use native.Mathlib.Omega.{arith}
use mathlib.Core.List.{List, [], ◌∷◌, ◌++◌, map}
use lib.ListN.{length, length-append, length-map}
use Rattle.lists.specs.Lists.{flat}
use Rattle.lists.proofs.Filters.{flat_append, map-append}
use Rattle.head.specs.Desks.{desk_in, size_in}
use Rattle.frames.specs.declared.Message.{Message}
use Rattle.frame_kinds.specs.Kinds.{pair_leave_kind, pair_join_kind}
use Rattle.frames.specs.Frames.{frame}
use Rattle.frames.proofs.RoundTrips.{change_length_lem, position_length}
use Rattle.model.specs.Changes.{leave_kind_of, join_kind_of, leave, join, pair_leave, pair_join, missing, changes_by, changes, pair_changes, frames}

pub frames_append : (ms ns : List Message) → frames (ms ++ ns) ≡ frames ms ++ frames ns
unfolding frames
frames_append ms ns =
    ap flat (map-append (λ m. frame m []) ms ns) ∙ flat_append (map (λ m. frame m []) ms) (map (λ m. frame m []) ns)

module _ (k : ℕ) where
  -- messages whose frames have k bytes each
  pub frames_bytes : (message : ℕ → Message) → ((p : ℕ) → length (frame (message p) []) ≡ k) → (l : List ℕ) → length (frames (map message l)) ≡ k * length l
  unfolding frames flat
  frames_bytes message e [] = sym (mul-zero k)
  frames_bytes message e (p ∷ l) =
      length-append (frame (message p) []) (frames (map message l)) ∙ omega (arith, e p, frames_bytes message e l, mul-suc k (length l))

  -- changes whose frames have k bytes each
  by_bytes : (leaves joins : ℕ → Message) → ((p : ℕ) → length (frame (leaves p) []) ≡ k) → ((p : ℕ) → length (frame (joins p) []) ≡ k) → (before after : List ℕ)
      → length (frames (changes_by leaves joins before after)) ≡ k * length (changes_by leaves joins before after)
  unfolding changes_by
  by_bytes leaves joins e f before after =
      ap length (frames_append gone come)
      ∙ length-append (frames gone) (frames come)
      ∙ rw (frames_bytes leaves e (missing before after), frames_bytes joins f (missing after before), length-append, length-map (missing before after) leaves, length-map (missing after before) joins)
      (sym (mul-add k (length (missing before after)) (length (missing after before))))
    where
      gone : List Message
      gone = map leaves (missing before after)

      come : List Message
      come = map joins (missing after before)

-- each change of a watch is a frame of seven bytes
pub changes_bytes : (w : ℕ) (before after : List ℕ) → length (frames (changes w before after)) ≡ 7 * length (changes w before after)
unfolding changes
changes_bytes w before after =
    by_bytes 7 (leave w) (join w) (change_length_lem (leave_kind_of (desk_in w)) (size_in w)) (change_length_lem (join_kind_of (desk_in w)) (size_in w)) before after

-- each change of the pair one of five
pub pair_bytes_lem : (before after : List ℕ) → length (frames (pair_changes before after)) ≡ 5 * length (pair_changes before after)
unfolding pair_changes
pair_bytes_lem before after = by_bytes 5 pair_leave pair_join (position_length pair_leave_kind) (position_length pair_join_kind) before after
