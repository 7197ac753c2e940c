-- The cases of the reader: what is read at a place, and what the message of a known kind says.
use mathlib.Core.Path.{◌≡◌, refl}
use Prim.Native.Nat.{ℕ, ◌+◌, ◌≤◌, ◌<◌}
use native.Mathlib.Omega.{arith}
use mathlib.Core.List.{List}
use lib.ListN.{length, get_or}
use borrow.Author.Tests.{lt-ltb, le-ltb, eq-eqb, ne_eqb}
use Rattle.refusals.specs.declared.Refusal.TheVariants.{UnknownKind, CutFrame}
use Rattle.octets.specs.Bytes.{number4}
use Rattle.frame_kinds.specs.declared.Shape.{Shape}
use Rattle.frames.specs.declared.Message.TheVariants.{Quote, Position, EndOfTape, Refused}
use Rattle.frame_kinds.specs.Kinds.{shape_of, body_length}
use Rattle.frames.specs.Frames.{message_by, message_at, told, saying, stays, read_at}
use Rattle.frame_kinds.proofs.Shapes.{KnownShape, Known, quote_shape}

module _ (tape : List ℕ) (place : ℕ) where
  pub beyond : length tape < place → stays (saying (Refused CutFrame)) place ≡ read_at tape place
  unfolding read_at saying
  beyond h = simp (lt-ltb (length tape) place h)

  pub at_end_lem : place ≡ length tape → stays (saying EndOfTape) place ≡ read_at tape place
  unfolding read_at saying
  at_end_lem h = simp (le-ltb (length tape) place (omega arith), eq-eqb place (length tape) h)

  module _ (inside : place < length tape) where
    pub unknown : body_length (get_or tape place 0) ≡ 255 → stays (saying (Refused UnknownKind)) place ≡ read_at tape place
    unfolding read_at saying
    unknown u =
        simp
        (le-ltb (length tape) place (omega arith), ne_eqb place (length tape) (λ e. omega arith), eq-eqb (body_length (get_or tape place 0)) 255 u)

    module _ (known : body_length (get_or tape place 0) ≡ 255 → ⊥) where
      pub cut : length tape < place + 1 + body_length (get_or tape place 0) → stays (saying (Refused CutFrame)) place ≡ read_at tape place
      unfolding read_at saying
      cut h =
          simp
          (le-ltb (length tape) place (omega arith), ne_eqb place (length tape) (λ e. omega arith), ne_eqb (body_length (get_or tape place 0)) 255 known, lt-ltb (length tape) (place + 1 + body_length (get_or tape place 0)) h)

      -- the place behind a whole frame
      pub whole_next : place + 1 + body_length (get_or tape place 0) ≤ length tape → place + 1 + body_length (get_or tape place 0) ≡ (read_at tape place).next
      unfolding read_at
      whole_next h =
          simp
          (le-ltb (length tape) place (omega arith), ne_eqb place (length tape) (λ e. omega arith), ne_eqb (body_length (get_or tape place 0)) 255 known, le-ltb (length tape) (place + 1 + body_length (get_or tape place 0)) h)

-- the message of a known kind says itself
pub message_told : (tape : List ℕ) (body kind : ℕ) → Known kind → saying (message_at tape body kind) ≡ told (message_at tape body kind)
unfolding message_at message_by saying
message_told tape body kind known = go (shape_of kind) known
  where
    go : (shape : Shape) → KnownShape shape → saying (message_by shape tape body kind) ≡ told (message_by shape tape body kind)
    go Shape.Columns l = refl
    go Shape.Size l = refl
    go Shape.SizePosition l = refl
    go Shape.SizePair l = refl
    go Shape.Bare l = refl
    go Shape.Position l = refl
    go Shape.Settings l = refl
    go Shape.Unknown l = absurd (omega arith)

-- a quote says itself
pub quote_told_lem : (tape : List ℕ) (body kind : ℕ) → 1 ≤ kind → kind ≤ 6 → saying (Quote kind) ≡ told (message_at tape body kind)
unfolding message_at message_by saying
quote_told_lem tape body kind some bounded = rw (quote_shape kind some bounded)

-- the message of a quote, and of a kind with a position alone
module _ (tape : List ℕ) (body kind : ℕ) where
  pub quote_message : shape_of kind ≡ Shape.Columns → Quote kind ≡ message_at tape body kind
  unfolding message_at message_by
  quote_message e = rw e

  pub position_message : shape_of kind ≡ Shape.Position → {p : ℕ} → p ≡ number4 tape body → Position kind p ≡ message_at tape body kind
  unfolding message_at message_by
  position_message e a = rw (e, a)
