-- Laws of the frames of messages, one behind the other, and of a loop that writes them.
use mathlib.Core.Path.{◌≡◌, sym, ap}
use Prim.Native.Nat.{ℕ, ◌+◌, ◌-◌, ◌≤◌, ◌<◌}
use mathlib.Core.Bool.{Bool, true}
use mathlib.Core.List.{List, [], map}
use lib.ListN.{length}
use borrow.Rule.Slice.PartMut.{mid_of, put_mid}
use Rattle.lists.specs.Lists.{flat, laid}
use Rattle.lists.proofs.Filters.{map_map}
use Rattle.frames.specs.declared.Message.{Message}
use Rattle.frames.specs.Frames.{frame}
use Rattle.model.specs.Changes.{frames}
use Rattle.table_listing.proofs.Writing.{cells, Writing, writing_fits, writing_more}

module _ (m : ℕ → Message) where
  -- the frame of a position's message
  abbrev pub framing : ℕ → List ℕ
  framing p = frame (m p) []

  pub frames_cells : (l : List ℕ) → frames (map m l) ≡ cells framing l
  unfolding frames
  frames_cells l = ap flat (map_map (λ k. frame k []) m l)

-- a turn of a loop that writes the frame of each position it picks; e says that each has this size
module _ (m : ℕ → Message) {size : ℕ} (e : (p : ℕ) → length (framing m p) ≡ size) {test : ℕ → Bool} {first count : ℕ} {entry out : List ℕ} {at i : ℕ} {b : Bool}
    (v : Writing (framing m) test first count entry out at i) (h : i < count) (q : b ≡ test i) where
  pub frame_fits : b ≡ true → at + size ≤ length out
  frame_fits t = rw e at (writing_fits v h q t)

  pub frame_laid : {last : List ℕ} → last ≡ laid (framing m (first + i)) (mid_of at (length out - at) out) → b ≡ true
      → Writing (framing m) test first count entry (put_mid at (length out - at) out last) (at + size) (i + 1)
  frame_laid l t = writing_more v h q (sym (e (first + i))) l t
