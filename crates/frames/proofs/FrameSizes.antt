-- How long the frame of a message is, by the kind that it has.
use mathlib.Core.Path.{◌≡◌, refl, sym, ap, ◌∙◌}
use Prim.Native.Nat.{ℕ, suc, ◌*◌, ◌≤◌, zero-le}
use mathlib.Core.Bool.{true, false}
use mathlib.Core.List.{List}
use lib.ListN.{length, take}
use lib.Seq.{length-take-le}
use Rattle.lists.proofs.Booleans.{clash}
use Rattle.octets.specs.Bytes.{bytes2, bytes4}
use Rattle.octets.proofs.Cells.{length_cells}
use Rattle.frame_kinds.specs.declared.Shape.{Shape}
use Rattle.frame_kinds.specs.Kinds.{kinds, shape_in, shape_of, has_shape, length_of, body_length}
use Rattle.frame_kinds.proofs.Shapes.{quote_kinds, shape_told, body_by}
use Rattle.frames.specs.declared.Message.{Message}
use Rattle.frames.specs.declared.Message.TheVariants.{Quote, Sized, Change, Pair, Bare, Position, Open, EndOfTape, Refused}
use Rattle.frames.specs.Frames.{framed, kind_of, frame}
use Rattle.frames.specs.Messages.{column_count}

-- a message that has a frame has at most six columns
pub column_range : (m : Message) → framed m ≡ true → column_count m ≤ 6
unfolding framed
column_range (Quote k) f = (quote_kinds k (shape_told Shape.Columns k f)).1
column_range (Sized k n) f = zero-le
column_range (Change k n p) f = zero-le
column_range (Pair k n1 n2) f = zero-le
column_range (Bare k) f = zero-le
column_range (Position k p) f = zero-le
column_range (Open d N directions) f = zero-le
column_range EndOfTape f = zero-le
column_range (Refused r) f = zero-le

-- the body of a kind that has a shape
pub sized : (shape : Shape) (kind : ℕ) → has_shape shape kind ≡ true → length_of shape kind ≡ body_length kind
sized shape kind f = sym (body_by shape kind (shape_told shape kind f))

-- a message with a frame has as many bytes behind its kind as that kind's body
pub frame_size : (m : Message) (cs : List ℕ) → framed m ≡ true → column_count m ≤ length cs → length (frame m cs) ≡ suc (body_length (kind_of m))
unfolding framed frame bytes2 bytes4 length_of body_length shape_of shape_in kinds
frame_size (Quote k) cs f e = ap suc (length_cells (take k cs) ∙ ap (λ (n : ℕ). 4 * n) (length-take-le k cs e) ∙ sized Shape.Columns k f)
frame_size (Sized k n) cs f e = ap suc (sized Shape.Size k f)
frame_size (Change k n p) cs f e = ap suc (sized Shape.SizePosition k f)
frame_size (Pair k n1 n2) cs f e = ap suc (sized Shape.SizePair k f)
frame_size (Bare k) cs f e = ap suc (sized Shape.Bare k f)
frame_size (Position k p) cs f e = ap suc (sized Shape.Position k f)
frame_size (Open d N directions) cs f e = refl
frame_size EndOfTape cs f e = absurd (clash false f refl)
frame_size (Refused r) cs f e = absurd (clash false f refl)
