-- The cases of the writer: the room that a frame asks for, and what is promised of each answer.
use mathlib.Core.Path.{◌≡◌, refl, ◌∙◌}
use Prim.Native.Nat.{ℕ, suc, ◌+◌, ◌*◌, ◌≤◌, ◌<◌}
use native.Mathlib.Omega.{arith}
use mathlib.Core.Bool.{true, false}
use mathlib.Core.List.{List}
use lib.ListN.{length}
use borrow.Author.Tests.{lt-ltb, le-ltb}
use Rattle.lists.specs.Lists.{laid}
use Rattle.lists.proofs.Booleans.{clash}
use Rattle.refusals.specs.declared.Refusal.TheVariants.{UnknownKind, ShortOutput}
use Rattle.refusals.specs.Refusals.{first_of, granted}
use Rattle.frame_kinds.specs.declared.Shape.{Shape}
use Rattle.std.specs.Prelude.{Ok, Err}
use Rattle.frame_kinds.specs.Kinds.{open_kind, has_shape, length_of, body_length}
use Rattle.frame_kinds.proofs.Shapes.{KnownShape, quote_kinds, shape_told, known_body, open_shape}
use Rattle.frames.specs.declared.Message.{Message}
use Rattle.frames.specs.declared.Message.TheVariants.{Quote, Sized, Change, Pair, Bare, Position, Open, EndOfTape, Refused}
use Rattle.frames.specs.Frames.{framed, kind_of, frame}
use Rattle.frames.proofs.FrameSizes.{column_range, sized, frame_size}
use Rattle.frame_writer.specs.Writing.{frame_length, write_answer, Wrote}

-- ---- the length of a frame

-- a kind with the shape of a frame is known
shaped_known : (shape : Shape) (k : ℕ) → KnownShape shape → has_shape shape k ≡ true → body_length k ≡ 255 → ⊥
shaped_known shape k known t e = let few : body_length k ≤ 24 = known_body k (rw (shape_told shape k t) known) in omega arith

-- so the kind of a message that has a frame is
pub framed_known : (m : Message) → framed m ≡ true → body_length (kind_of m) ≡ 255 → ⊥
unfolding framed
framed_known (Quote k) f e = shaped_known Shape.Columns k (omega arith) f e
framed_known (Sized k n) f e = shaped_known Shape.Size k (omega arith) f e
framed_known (Change k n p) f e = shaped_known Shape.SizePosition k (omega arith) f e
framed_known (Pair k n1 n2) f e = shaped_known Shape.SizePair k (omega arith) f e
framed_known (Bare k) f e = shaped_known Shape.Bare k (omega arith) f e
framed_known (Position k p) f e = shaped_known Shape.Position k (omega arith) f e
framed_known (Open d N directions) f e = shaped_known Shape.Settings open_kind (omega arith) open_shape e
framed_known EndOfTape f e = clash false f refl
framed_known (Refused r) f e = clash false f refl

-- the length that the writer works out
pub length_framed : (m : Message) → framed m ≡ true → suc (body_length (kind_of m)) ≡ frame_length m
unfolding frame_length
length_framed m f = rw f

-- and the length of the frame
pub frame_long : (m : Message) (columns : List ℕ) → length columns ≡ 6 → framed m ≡ true → length (frame m columns) ≡ frame_length m
frame_long m columns six f = frame_size m columns f (omega (arith, column_range m f)) ∙ length_framed m f

-- the room that a quote asks for
pub quote_fits : (k : ℕ) (columns : List ℕ) (room : ℕ) → length columns ≡ 6 → framed (Quote k) ≡ true → length (frame (Quote k) columns) ≤ room → (k ≤ 6) × (1 + 4 * k ≤ room)
unfolding framed length_of
quote_fits k columns room six f h =
    let most : k ≤ 6 = (quote_kinds k (shape_told Shape.Columns k f)).1 in
    (most, omega (arith, sized Shape.Columns k f, frame_size (Quote k) columns f (omega arith)))

-- ---- the answers

module _ (m : Message) (columns before : List ℕ) where
  -- the refusals, which leave the output as it was
  pub refused_unframed : framed m ≡ false → Wrote m columns before (Err UnknownKind) before
  unfolding write_answer first_of granted
  refused_unframed f = record { answer = simp f; count = simp f; bytes = simp f }

  module _ (six : length columns ≡ 6) (f : framed m ≡ true) where
    pub refused_short : length before < frame_length m → Wrote m columns before (Err ShortOutput) before
    unfolding write_answer first_of granted
    refused_short short =
        let t = lt-ltb (length before) (frame_length m) short in
        record { answer = simp (f, frame_long m columns six f, t); count = simp (f, frame_long m columns six f, t); bytes = simp (f, frame_long m columns six f, t) }

    -- the frame is laid over the front
    pub accepted : (after : List ℕ) (n : ℕ) → n ≡ frame_length m → n ≤ length before → after ≡ laid (frame m columns) before → Wrote m columns before (Ok n) after
    unfolding write_answer first_of granted
    accepted after n e room laid_there =
        let t = le-ltb (length before) (frame_length m) (omega arith) in
        record { answer = simp (f, frame_long m columns six f, t); count = e ∙ simp (f, frame_long m columns six f, t); bytes = simp (f, frame_long m columns six f, t) laid_there }
