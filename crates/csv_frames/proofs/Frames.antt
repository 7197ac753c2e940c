-- The frames of lines: how long they are, and laying them one behind the other.
use mathlib.Core.Path.{◌≡◌, refl, sym, ap, ◌∙◌}
use Prim.Native.Nat.{ℕ, ◌+◌, ◌-◌, ◌*◌, ◌≤◌}
use native.Mathlib.Omega.{arith}
use native.Mathlib.Nat.{suc-mul, zero-mul}
use mathlib.Core.Bool.{true}
use mathlib.Core.List.{List, [], ◌∷◌, ◌++◌, map, append_assoc, append-nil}
use lib.ListN.{length, drop, length-append, length-set, drop_of_length-le}
use borrow.Author.Tests.{le-ltb}
use borrow.Rule.Slice.PartMut.{mid_of, put_mid}
use Rattle.lists.specs.Lists.{flat, laid}
use Rattle.lists.proofs.Booleans.{clash, and_left, and_right}
use Rattle.lists.proofs.Laying.{Front, front_none, front_rest, front_room, front_more}
use Rattle.refusals.specs.Refusals.{first_of, granted}
use Rattle.frame_kinds.specs.Kinds.{has_shape}
use Rattle.frame_kinds.proofs.Shapes.{quote_shape, quote_body}
use Rattle.frames.specs.declared.Message.TheVariants.{Quote}
use Rattle.frames.specs.Frames.{framed, frame}
use Rattle.frames.proofs.FrameSizes.{frame_size}
use Rattle.refusals.specs.declared.Refusal.{Refusal}
use Rattle.std.specs.Prelude.{Result, Ok, Err, Some, None}
use Rattle.std.specs.Result.{result_unwrap_or}
use Rattle.frame_writer.specs.Writing.{write_answer, count_of, Wrote}
use Rattle.line_fields.specs.declared.Fields.{Fields}
use Rattle.line_fields.specs.Fields.{no_field, fields_by, after, fields_from}
use Rattle.csv_frames.specs.Lines.{lines, line_fields, fits, all_fit}
use Rattle.csv_frames.specs.declared.Line.{Line}
use Rattle.csv_frames.specs.Imports.{line_frame, frames_of}
use Rattle.csv_frames.specs.Reading.{LineAt, Ready}

-- ---- how long frames are

-- the numbers of fields are as many as they were
after_kept : (f : Fields) (byte : ℕ) → length (after 44 f byte).numbers ≡ length f.numbers
unfolding after fields_by
after_kept f byte = simp length-set

numbers_kept : (f : Fields) (bytes : List ℕ) → length (fields_from 44 f bytes).numbers ≡ length f.numbers
unfolding fields_from
numbers_kept f [] = refl
numbers_kept f (byte ∷ bytes) = numbers_kept (after 44 f byte) bytes ∙ after_kept f byte

six_numbers : (line : List ℕ) → length (line_fields line).numbers ≡ 6
unfolding line_fields no_field
six_numbers line = numbers_kept no_field (44 ∷ line)

module _ (d : ℕ) (h : 1 ≤ d) (k : d ≤ 6) where
  pub quote_framed : framed (Quote d) ≡ true
  unfolding framed has_shape
  quote_framed = rw (quote_shape d h k)

  -- the frame of d numbers has 1 + 4 d bytes
  pub quote_long : (columns : List ℕ) → d ≤ length columns → length (frame (Quote d) columns) ≡ 1 + 4 * d
  quote_long columns e = frame_size (Quote d) columns quote_framed e ∙ omega (arith, quote_body d h k)

  pub frame_long : (line : List ℕ) → length (line_frame d line) ≡ 1 + 4 * d
  unfolding line_frame
  frame_long line = quote_long (line_fields line).numbers (omega (arith, six_numbers line))

  -- the frames of lines have so many bytes for each line
  pub frames_long : (ls : List (List ℕ)) → length (frames_of d ls) ≡ length ls * (1 + 4 * d)
  unfolding frames_of flat
  frames_long [] = rw zero-mul
  frames_long (l ∷ ls) =
      length-append (line_frame d l) (flat (map (line_frame d) ls)) ∙ rw (suc-mul (length ls) (1 + 4 * d)) (omega (arith, frame_long l, frames_long ls))

-- ---- laying frames

-- the frames of the lines up to a place stand at the front of the output
pub record Writing (d : ℕ) (file entry out : List ℕ) (at used : ℕ) : Type 0 where
  pub ready : Ready d file entry
  pub inside : at ≤ length file
  pub done : List ℕ
  pub whole : frames_of d (lines file) ≡ done ++ frames_of d (lines (drop at file))
  pub fit : all_fit d (lines (drop at file)) ≡ true
  pub front : Front done entry out used

pub writing_start : (d : ℕ) (file entry : List ℕ) → Ready d file entry → Writing d file entry entry 0 0
writing_start d file entry v = record { ready = v; inside = omega arith; done = []; whole = refl; fit = v.fit; front = front_none entry }

-- how many bytes were written, none where the writer refused
counted : (r : Result ℕ Refusal) → result_unwrap_or r 0 ≡ count_of r
counted (Ok count) = refl
counted (Err k) = refl

-- the frame that the writer lays where there is room
wrote_frame : (d : ℕ) → framed (Quote d) ≡ true → {columns before after : List ℕ} {r : Result ℕ Refusal} → length (frame (Quote d) columns) ≤ length before
    → Wrote (Quote d) columns before r after → (count_of r ≡ length (frame (Quote d) columns)) × (after ≡ laid (frame (Quote d) columns) before)
unfolding write_answer first_of granted
wrote_frame d f {columns} {before} h w =
    let fine = le-ltb (length before) (length (frame (Quote d) columns)) h in
    (w.count ∙ rw (f, fine), w.bytes ∙ rw (f, fine))

module _ {d : ℕ} {file entry out : List ℕ} {at used : ℕ} (v : Writing d file entry out at used) {r : Line} (a : LineAt d file at (Some r)) where
  -- the frame of the line
  abbrev piece : List ℕ
  piece = frame (Quote d) r.numbers

  piece_next : frames_of d (lines file) ≡ (v.done ++ piece) ++ frames_of d a.others
  unfolding frames_of line_frame flat
  piece_next =
      v.whole ∙ ap (λ (ls : List (List ℕ)). v.done ++ frames_of d ls) a.cut
      ∙ ap (λ (l : List ℕ). v.done ++ (frame (Quote d) l ++ frames_of d a.others)) (sym a.read.numbers)
      ∙ sym (append_assoc v.done piece (frames_of d a.others))

  piece_room : length (v.done ++ piece) ≤ length entry
  piece_room =
      let long : length (frames_of d (lines file)) ≡ length (v.done ++ piece) + length (frames_of d a.others) =
      ap length piece_next ∙ length-append (v.done ++ piece) (frames_of d a.others) in
      let r = v.ready.room in
      omega arith

  pub used_inside : used ≤ length out
  used_inside = omega (arith, front_room v.front piece piece_room)

  module _ {last : List ℕ} {written : Result ℕ Refusal} (w : Wrote (Quote d) r.numbers (mid_of used (length out - used) out) written last) {count : ℕ} (n : count ≡ result_unwrap_or written 0) where
    wrote : (count ≡ length piece) × (last ≡ laid piece (mid_of used (length out - used) out))
    wrote =
        let held = wrote_frame d (quote_framed d v.ready.least v.ready.most) (front_rest v.front piece piece_room) w in
        (n ∙ counted written ∙ held.0, held.1)

    pub written_room : used + count ≤ length out
    written_room = omega (arith, front_room v.front piece piece_room, wrote.0)

    -- one more frame
    pub writing_more : Writing d file entry (put_mid used (length out - used) out last) r.next (used + count)
    unfolding all_fit
    writing_more =
        record {
          ready = v.ready;
          inside = a.read.inside;
          done = v.done ++ piece;
          whole = piece_next ∙ ap (λ (ls : List (List ℕ)). (v.done ++ piece) ++ frames_of d ls) (sym a.read.next);
          fit = ap (all_fit d) a.read.next ∙ and_right (fits d a.line) (all_fit d a.others) (ap (all_fit d) (sym a.cut) ∙ v.fit);
          front = front_more v.front piece piece_room wrote.0 wrote.1;
        }

-- every line is read
pub writing_none : {d : ℕ} {file entry out : List ℕ} {at used : ℕ} → Writing d file entry out at used → LineAt d file at None → ⊥
unfolding all_fit
writing_none {d} v a =
    clash (fits d a.line) (and_left (fits d a.line) (all_fit d a.others) (ap (all_fit d) (sym a.cut) ∙ v.fit)) (sym a.fitting)

-- all frames are laid
pub writing_end : {d : ℕ} {file entry out : List ℕ} {at used : ℕ} → Writing d file entry out at used → length file ≤ at
    → (used ≡ length (frames_of d (lines file))) × (out ≡ laid (frames_of d (lines file)) entry)
unfolding frames_of flat lines
writing_end {d} {file} {at = at} v h =
    let none : drop at file ≡ [] = drop_of_length-le file h in
    let all : frames_of d (lines file) ≡ v.done = v.whole ∙ ap (λ (l : List ℕ). v.done ++ frames_of d (lines l)) none ∙ append-nil v.done in
    rw all (v.front.place, v.front.cells)
