-- What a host is given of a reading, and of what is written from its cells.
use mathlib.Core.Path.{◌≡◌, refl, ◌∙◌, ap}
use Prim.Native.Nat.{ℕ}
use mathlib.Core.List.{List}
use Rattle.frames.specs.declared.Place.{Place}
use Rattle.frames.specs.declared.Read.{Read}
use Rattle.frames.specs.declared.Message.{Message}
use Rattle.frames.specs.declared.Message.TheVariants.{Quote, Sized, Change, Pair, Bare, Position, Open, EndOfTape, Refused}
use Rattle.frames.specs.Moved.{Moved}
use Rattle.frames.specs.Frames.{Saying, Reading, reading, read_at, saying}
use Rattle.std.specs.Prelude.{Result}
use Rattle.refusals.specs.declared.Refusal.{Refusal}
use Rattle.frame_writer.specs.Writing.{answer_of, count_of, Wrote}
use Rattle.host_frames.specs.FrameCells.{message_number, message_cells, saying_number, saying_cells, message_in, columns_in, CellsWritten}

-- what a message says is what the host is given of it
number_said : (m : Message) → message_number m ≡ saying_number (saying m)
unfolding saying
number_said (Quote k) = refl
number_said (Sized k n) = refl
number_said (Change k n p) = refl
number_said (Pair k n1 n2) = refl
number_said (Bare k) = refl
number_said (Position k p) = refl
number_said (Open d N directions) = refl
number_said EndOfTape = refl
number_said (Refused k) = refl

cells_said : (m : Message) (columns before : List ℕ) → message_cells m columns before ≡ saying_cells (saying m) columns before
unfolding saying
cells_said (Quote k) columns before = refl
cells_said (Sized k n) columns before = refl
cells_said (Change k n p) columns before = refl
cells_said (Pair k n1 n2) columns before = refl
cells_said (Bare k) columns before = refl
cells_said (Position k p) columns before = refl
cells_said (Open d N directions) columns before = refl
cells_said EndOfTape columns before = refl
cells_said (Refused k) columns before = refl

module _ (tape : List ℕ) (before : Place) (r : Read) (after : Place) (m : Moved tape before r after) where
  says : saying r.message ≡ (read_at tape before.at).says
  unfolding reading
  says = ap Reading.says m.found

  columns : r.columns ≡ (read_at tape before.at).columns
  unfolding reading
  columns = ap Reading.columns m.found

  -- its number, the place behind it and its cells
  pub read_number : message_number r.message ≡ saying_number (read_at tape before.at).says
  read_number = number_said r.message ∙ ap saying_number says

  pub read_place : after.at ≡ (read_at tape before.at).next
  read_place = ap Place.at m.moved

  pub read_cells : (old : List ℕ) → message_cells r.message r.columns old ≡ saying_cells (read_at tape before.at).says (read_at tape before.at).columns old
  read_cells old =
      cells_said r.message r.columns old ∙ ap (λ (s : Saying). saying_cells s r.columns old) says ∙ ap (λ (cs : List ℕ). saying_cells (read_at tape before.at).says cs old) columns

-- what is written from the message and the columns that the cells hold
pub write_told : (cells before after : List ℕ) {message : Message} {columns : List ℕ} {w : Result ℕ Refusal} → message ≡ message_in cells → columns ≡ columns_in cells
    → Wrote message columns before w after → CellsWritten cells before (answer_of w) (count_of w) after
write_told cells before after {w = w} e f p =
    let q : Wrote (message_in cells) (columns_in cells) before w after = rw (e, f) at p in
    record { answer = q.answer; counts = q.count; bytes = q.bytes }
