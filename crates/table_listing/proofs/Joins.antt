-- The joins of what follows a list: those of a desk's watch, and the frame of one.
use mathlib.Core.Path.{◌≡◌, sym, ap₂}
use Prim.Native.Nat.{ℕ, ◌<◌}
use mathlib.Core.List.{List, [], ◌∷◌, ◌++◌, map}
use lib.ListN.{length}
use Rattle.lists.specs.Lists.{laid}
use Rattle.octets.specs.Bytes.{bytes2, bytes4}
use Rattle.head.specs.declared.Desk.{Desk}
use Rattle.head.specs.Desks.{desk_number, desk_unit, watch_of}
use Rattle.frames.specs.declared.Message.TheVariants.{Change}
use Rattle.frame_kinds.specs.Kinds.{pair_join_kind}
use Rattle.frames.specs.Frames.{frame}
use Rattle.frames.proofs.RoundTrips.{change_length_lem, position_length}
use Rattle.model.specs.Changes.{join_kind_of, join, frames}
use Rattle.model.proofs.Desks.{desk_of_watch, size_of_watch}
use Rattle.table_listing.specs.declared.Follower.{Follower}
use Rattle.table_listing.specs.declared.Follower.TheVariants.{Watch, Pair}
use Rattle.table_listing.specs.Joins.{join_of}

-- the joins of a desk's watch are those of its record
pub watch_joins : (desk : Desk) (n : ℕ) → n < desk_unit → (l : List ℕ) → frames (map (join_of (Watch desk n)) l) ≡ frames (map (join (watch_of desk n)) l)
unfolding join_of
watch_joins desk n small l =
    sym (ap₂ (λ (k m : ℕ). frames (map (Change (join_kind_of k) m) l)) (desk_of_watch desk n small) (size_of_watch desk n small))

module _ (p : ℕ) {f : Follower} where
  -- the frame of a watch's join
  module _ {desk : Desk} {n : ℕ} (g : f ≡ Watch desk n) where
    pub watch_size : length (frame (join_of f p) []) ≡ 7
    unfolding join_of
    watch_size = rw (g, change_length_lem (join_kind_of (desk_number desk)) n p)

    pub watch_laid : {kind : ℕ} → kind ≡ join_kind_of (desk_number desk) → (out : List ℕ) {after : List ℕ} → after ≡ laid (kind ∷ (bytes2 n ++ bytes4 p)) out
        → (7 ≡ length (frame (join_of f p) [])) × (after ≡ laid (frame (join_of f p) []) out)
    unfolding join_of frame
    watch_laid k out e = (sym watch_size, rw (g, ← k) e)

  -- the frame of the pair's join
  module _ (g : f ≡ Pair) where
    pub pair_size : length (frame (join_of f p) []) ≡ 5
    unfolding join_of
    pair_size = rw (g, position_length pair_join_kind p)

    pub pair_laid : (out : List ℕ) {after : List ℕ} → after ≡ laid (pair_join_kind ∷ bytes4 p) out
        → (5 ≡ length (frame (join_of f p) [])) × (after ≡ laid (frame (join_of f p) []) out)
    unfolding join_of frame
    pair_laid out e = (sym pair_size, rw g e)
