-- A line that is laid: its frame fits any output of 25 bytes, so that it is laid exactly if the line says a message.
use Rattle.std.proofs.Common.{◌≡◌, ℕ, suc, min, ◌+◌, ◌-◌, ◌%◌, ◌^◌, ◌<◌, ◌≤◌, Bool, true, false, cond, not, eqb, ltb, List, [], ◌∷◌, ◌++◌, length, take, drop, sym, refl, ap, ◌∙◌, append_assoc, append-nil, arith, length-append, length-drop, length-set, drop_of_length-le, length-take-le, take_all, drop-drop, take_at, ltb-true, le-ltb, lt-ltb, ne_eqb}
use Rattle.std.proofs.lemmas.Bool.Decides.{nat_tests}
use borrow.Rule.Slice.PartMut.{mid_of, put_mid}
use Rattle.lists.specs.Lists.{laid}
use Rattle.lists.proofs.Booleans.{clash, and_right}
use Rattle.refusals.specs.Refusals.{first_of, granted}
use Rattle.frame_kinds.specs.declared.Shape.TheVariants as Shape
use Rattle.frame_kinds.specs.Kinds.{body_length, length_of, shape_of, shape_in, kinds}
use Rattle.frames.specs.Frames.{framed, kind_of, frame}
use Rattle.frames.proofs.FrameSizes.{column_range, frame_size, sized}
use Rattle.frames.specs.declared.Message.{Message}
use Rattle.frames.specs.declared.Message.TheVariants.{Quote, Sized, Change, Pair, Bare, Position, Open, EndOfTape, Refused}
use Rattle.refusals.specs.declared.Refusal.{Refusal}
use Rattle.std.specs.Prelude.{Result, Ok, Err}
use Rattle.std.specs.Result.{result_unwrap_or}
use Rattle.frame_writer.specs.Writing.{write_answer, count_of, Wrote}
use Rattle.line_fields.specs.declared.Fields.{Fields}
use Rattle.line_fields.specs.Fields.{no_field, fields_by, after, fields_from, line_length}
use Rattle.line_fields.proofs.Scanning.{end_inside}
use Rattle.line_notation.specs.Lines.{said_by, marked}
use Rattle.line_writer.specs.declared.Writer.{Writer}
use Rattle.line_writer.specs.Written.{says, frame_of, numbered, LineLaid, Gathered, stop_at, line_at, LineTaken}

-- ---- a line has six numbers

fields_six : (f : Fields) (bytes : List ℕ) → length f.numbers ≡ 6 → length (fields_from 32 f bytes).numbers ≡ 6
unfolding fields_from after fields_by
fields_six f [] h = h
fields_six f (byte ∷ bytes) h = fields_six (after 32 f byte) bytes (rw length-set h)

said_six : (line : List ℕ) → length (said_by line).numbers ≡ 6
unfolding said_by no_field
said_six [] = refl
said_six (letter ∷ bytes) = fields_six no_field (cond (marked (letter ∷ bytes)) (drop 1 bytes) bytes) refl

-- ---- its frame

-- how many bytes were written, none where the writer refused
counted : (r : Result ℕ Refusal) → result_unwrap_or r 0 ≡ count_of r
counted (Ok count) = refl
counted (Err k) = refl

-- the frame of a message has at most 24 bytes behind its kind
body_short : (m : Message) → framed m ≡ true → body_length (kind_of m) ≤ 24
unfolding framed length_of body_length shape_of shape_in kinds
body_short (Quote k) f = omega (arith, column_range (Quote k) f, sized Shape.Columns k f)
body_short (Sized k n) f = omega (arith, sized Shape.Size k f)
body_short (Change k n p) f = omega (arith, sized Shape.SizePosition k f)
body_short (Pair k n1 n2) f = omega (arith, sized Shape.SizePair k f)
body_short (Bare k) f = omega (arith, sized Shape.Bare k f)
body_short (Position k p) f = omega (arith, sized Shape.Position k f)
body_short (Open d N directions) f = omega arith
body_short EndOfTape f = absurd (clash false f refl)
body_short (Refused r) f = absurd (clash false f refl)

module _ (line : List ℕ) where
  abbrev message : Message
  message = (said_by line).message

  abbrev framed_bytes : List ℕ
  framed_bytes = frame message (said_by line).numbers

  size : framed message ≡ true → length framed_bytes ≡ suc (body_length (kind_of message))
  size f = frame_size message (said_by line).numbers f (omega (arith, column_range message f, said_six line))

  -- a line says no message exactly if it has no byte of a frame
  pub unsaid_none : not (says line) ≡ eqb (length (frame_of line)) 0
  unfolding frame_of says
  unsaid_none = go (says line) refl
    where
      go : (b : Bool) → says line ≡ b → not b ≡ eqb (length (cond b framed_bytes [])) 0
      go true e = sym (ne_eqb (length framed_bytes) 0 (λ z. omega (arith, z, size (and_right (ltb (length line) 68) (framed message) e))))
      go false e = refl

  -- the frame of a line has at most 25 bytes
  pub frame_short : length (frame_of line) ≤ 25
  unfolding frame_of says
  frame_short = go (says line) refl
    where
      go : (b : Bool) → says line ≡ b → length (cond b framed_bytes []) ≤ 25
      go true e = let f = and_right (ltb (length line) 68) (framed message) e in omega (arith, size f, body_short message f)
      go false e = omega arith

  -- a line that is too long says no message
  pub too_long : (before : List ℕ) → 68 ≤ length line → LineLaid line before 0 before
  unfolding says frame_of laid
  too_long before h = record { count = rw (le-ltb (length line) 68 h); bytes = rw (le-ltb (length line) 68 h) }

  module _ {before after : List ℕ} {r : Result ℕ Refusal} (w : Wrote message (said_by line).numbers before r after) (short : length line < 68) (room : 25 ≤ length before) where
    -- it says a message exactly if its frame is written
    by_framed : (f : Bool) → framed message ≡ f → write_answer message (said_by line).numbers (length before) ≡ cond f 0 1
    unfolding write_answer first_of
    by_framed true f = rw (f, le-ltb (length before) (length framed_bytes) (omega (arith, size f, body_short message f)))
    by_framed false f = rw f

    laid_by : (f : Bool) → framed message ≡ f → LineLaid line before (count_of r) after
    unfolding says frame_of laid granted
    laid_by true f = record { count = w.count ∙ rw (by_framed true f, lt-ltb (length line) 68 short, f); bytes = w.bytes ∙ rw (by_framed true f, lt-ltb (length line) 68 short, f) }
    laid_by false f = record { count = w.count ∙ rw (by_framed false f, lt-ltb (length line) 68 short, f); bytes = w.bytes ∙ rw (by_framed false f, lt-ltb (length line) 68 short, f) }

    pub laid_line : {count : ℕ} → count ≡ result_unwrap_or r 0 → LineLaid line before count after
    laid_line n = rw (n ∙ counted r) (laid_by (framed message) refl)

-- ---- behind what is gathered

-- a frame that was laid into the part of the output behind what is gathered
pub gathered_behind : (at to : ℕ) (bytes before : List ℕ) {last : List ℕ} → at ≤ length before → to ≡ at + length bytes
    → last ≡ laid bytes (mid_of at (length before - at) before) → Gathered at to bytes before (put_mid at (length before - at) before last)
unfolding laid
gathered_behind at to bytes before h u e =
    let rest : List ℕ = drop at before in
    let whole : mid_of at (length before - at) before ≡ rest = take_all (length before - at) rest (omega (arith, length-drop at before)) in
    let spent : drop (length before - at) rest ≡ [] = drop_of_length-le rest {i = length before - at} (omega (arith, length-drop at before)) in
    record {
      used = u;
      text =
          rw (e, whole, spent, append-nil, length-append (take at before) bytes, length-take-le at before h, ← (drop-drop (length bytes) at before))
          (sym (append_assoc (take at before) bytes (drop (length bytes) rest)));
    }

module _ {at to : ℕ} {bytes before after : List ℕ} (g : Gathered at to bytes before after) (h : at ≤ length before) where
  -- how long it is
  long : length (take at before ++ bytes) ≡ to
  long = omega (arith, length-append (take at before) bytes, length-take-le at before h, g.used)

  -- what is gathered then
  pub gathered_bytes : take to after ≡ take at before ++ bytes
  unfolding laid
  gathered_bytes = rw g.text (take_at (take at before ++ bytes) (drop (length (take at before ++ bytes)) before) to long)

  -- it stands within the output
  pub gathered_fits : to ≤ length after
  unfolding laid
  gathered_fits =
      let l : List ℕ = take at before ++ bytes in
      omega (arith, ap length g.text, length-append l (drop (length l) before), long)

-- ---- a line that is taken

pub laid_short : {line before after : List ℕ} {r : ℕ} → LineLaid line before r after → r ≤ 25
laid_short {line = line} l = omega (arith, l.count, frame_short line)

-- it stands within the text
pub stop_inside : (text : List ℕ) (place stop : ℕ) → place ≤ length text → stop ≡ stop_at text place → stop ≤ length text
stop_inside text place stop h e = omega (arith, e, end_inside text place h)

-- the place behind a line that ends there
behind : (stop end : ℕ) → stop ≤ end → min end (stop + 1) ≡ cond (ltb stop end) (stop + 1) stop
behind stop end h = grind (arith, nat_tests)

module _ (text before : List ℕ) (s : Writer) {stop : ℕ} (room : s.used + 25 ≤ length before) (e : stop ≡ stop_at text s.place) where
  -- the line of the text that ends there
  line_is : take (stop - s.place) (drop s.place text) ≡ line_at text s.place
  line_is =
      let n : stop - s.place ≡ line_length (drop s.place text) = omega (arith, e) in
      ap (λ (k : ℕ). take k (drop s.place text)) n

  pub line_taken : {count place lines : ℕ} {last : List ℕ} → LineLaid (take (stop - s.place) (drop s.place text)) (mid_of s.used (length before - s.used) before) count last
      → lines ≡ (s.lines + 1) % 2 ^ 64 → stop ≤ length text → place ≡ min (length text) (stop + 1)
      → LineTaken text s before
      (record { lines = lines; place = place; end = s.end; used = s.used + count; unsaid = eqb count 0; ended = s.ended; over = s.over })
      (put_mid s.used (length before - s.used) before last)
  unfolding numbered
  line_taken {count = count} {last = last} l n i p =
      let count_is : count ≡ length (frame_of (line_at text s.place)) = rw line_is at l.count in
      let bytes_are : last ≡ laid (frame_of (line_at text s.place)) (mid_of s.used (length before - s.used) before) = rw line_is at l.bytes in
      record {
        lines = n;
        place = rw e at (p ∙ behind stop (length text) i);
        unsaid = rw count_is (sym (unsaid_none (line_at text s.place)));
        gathered = gathered_behind s.used (s.used + count) (frame_of (line_at text s.place)) before (omega arith) (ap (λ (k : ℕ). s.used + k) count_is) bytes_are;
        same = record { end = refl; ended = refl; over = refl };
      }

-- the next line stands within the text, and what is gathered within the output
pub taken_inside : {text before after : List ℕ} {s r : Writer} → LineTaken text s before r after → s.place ≤ length text → r.place ≤ length text
taken_inside {text} {s = s} t h = rw t.place (go (ltb (stop_at text s.place) (length text)) refl)
  where
    go : (b : Bool) → ltb (stop_at text s.place) (length text) ≡ b → cond b (stop_at text s.place + 1) (stop_at text s.place) ≤ length text
    go true e = omega (arith, ltb-true (stop_at text s.place) (length text) e)
    go false e = end_inside text s.place h

pub taken_fits : {text before after : List ℕ} {s r : Writer} → LineTaken text s before r after → s.used ≤ length before → r.used ≤ length after
taken_fits t h = gathered_fits t.gathered h
