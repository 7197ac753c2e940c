-- Stamped quotes on a tape: what is written is the tape's next pair, and the tape's next pair is what was written.
use mathlib.Core.Path.{◌≡◌, refl, sym, ap, ap₂, ◌∙◌}
use Prim.Native.Nat.{ℕ, ◌+◌, ◌-◌, ◌*◌, ◌≤◌, ◌<◌}
use native.Mathlib.Nat.{add_assoc}
use native.Mathlib.Omega.{arith}
use mathlib.Core.Bool.{true, false}
use mathlib.Core.List.{List, [], ◌∷◌, ◌++◌, map, append_assoc}
use lib.Dec.{ltb}
use lib.ListN.{length, get_or, take, drop, replicate, length-append, length-drop, length-map, take-append-drop}
use lib.Seq.{get_or-drop, drop-drop, take_at, take_all, length-take-le}
use borrow.Author.Tests.{le-ltb, le-leb, ltb-false}
use Rattle.lists.specs.Lists.{flat, run}
use Rattle.lists.proofs.Booleans.{neither, none_left, none_right}
use Rattle.lists.proofs.Runs.{length_run, get_or_run}
use Rattle.octets.specs.Bytes.{bytes4, number4}
use Rattle.frame_kinds.specs.declared.Shape.TheVariants as Shape
use Rattle.frame_kinds.specs.Kinds.{stamp_kind, kinds, shape_in, shape_of, code_of, has_shape}
use Rattle.frame_kinds.proofs.Shapes.{quote_shape}
use Rattle.frames.specs.declared.Message.TheVariants.{Quote, Position}
use Rattle.frames.specs.Frames.{framed, frame, columns_at, told, Reading, read_at}
use Rattle.frames.specs.Messages.{column_count, columns_of, Typed, Writable}
use Rattle.frames.proofs.Reading.{columns_drop, quote_columns}
use Rattle.frames.proofs.RoundTrips.{position_length, read_after_write, Rewritten, write_after_read}
use Rattle.venue_tapes.specs.VenueTapes.{Sort, quote, stamp, sort_by, sort_said, sort_of, pair, last_millisecond, out_of_order, after_stamp, next}
use Rattle.venue_tapes.proofs.Glimpses.{next_stamp}
use Rattle.venue_tapes.proofs.Pairs.{Stamped, Quoted, IsPair}
use Rattle.venue_claims.specs.Merging.{StampedQuote, quote_frame, frames_of, Fits}
use Rattle.venue_claims.specs.Runs.{Bytes}

-- ---- what is written

-- a stamp has a frame
pub stamp_writable : (ms : ℕ) → ms < 4294967296 → Writable (Position stamp_kind ms) []
unfolding framed has_shape shape_of shape_in kinds
stamp_writable ms h = record { has_frame = refl; typed = (omega arith, h); enough = omega arith; fits = λ i l. absurd (omega arith) }

-- so has its quote
pub quote_writable : (q : StampedQuote) → Fits q → Writable (Quote (length q.columns)) q.columns
unfolding framed has_shape
quote_writable q f =
    record { has_frame = rw (quote_shape (length q.columns) f.some f.bounded); typed = omega (arith, f.bounded); enough = omega arith; fits = f.cells }

-- where a stamped quote is written it is the next pair, whatever stands before and after it
pub next_written : (before after : List ℕ) (q : StampedQuote) (last : ℕ) → Fits q → last ≤ q.stamp → q.stamp ≤ last_millisecond
    → next (before ++ (frames_of q ++ after)) (length before) last ≡ pair q.stamp (length before + length (frames_of q))
unfolding frames_of quote_frame sort_of sort_said sort_by after_stamp out_of_order
next_written before after q last f low high =
    sym (next_stamp tape (length before) last {s = stamp q.stamp (length before + length S)} (sym first) {t = quote (length before + length S + length Q)} refl (sym second) (sym behind))
    ∙ ap (pair q.stamp) (add_assoc (length before) (length S) (length Q) ∙ ap (λ (n : ℕ). length before + n) (sym (length-append S Q)))
  where
    S : List ℕ
    S = frame (Position stamp_kind q.stamp) []

    Q : List ℕ
    Q = frame (Quote (length q.columns)) q.columns

    tape : List ℕ
    tape = before ++ ((S ++ Q) ++ after)

    first : sort_of (read_at tape (length before)) ≡ stamp q.stamp (length before + length S)
    first =
        ap (λ (l : List ℕ). sort_of (read_at (before ++ l) (length before))) (append_assoc S Q after)
        ∙ ap sort_of (read_after_write before (Q ++ after) (Position stamp_kind q.stamp) [] (stamp_writable q.stamp (omega arith)))

    moved : tape ≡ (before ++ S) ++ (Q ++ after)
    moved = ap (λ (l : List ℕ). before ++ l) (append_assoc S Q after) ∙ sym (append_assoc before S (Q ++ after))

    second : sort_of (read_at tape (length before + length S)) ≡ quote (length before + length S + length Q)
    second =
        ap₂ (λ (l : List ℕ) (n : ℕ). sort_of (read_at l n)) moved (sym (length-append before S))
        ∙ ap sort_of (read_after_write (before ++ S) after (Quote (length q.columns)) q.columns (quote_writable q f))
        ∙ ap (λ (n : ℕ). quote (n + length Q)) (length-append before S)

    behind : after_stamp last q.stamp (quote (length before + length S + length Q)) ≡ pair q.stamp (length before + length S + length Q)
    behind = rw (le-ltb q.stamp last low, le-ltb last_millisecond q.stamp high)

-- ---- what is read

-- a tape's pair is a stamped quote: its bytes are both frames, and the tape goes on behind them
pub record Written (tape : List ℕ) (place last behind : ℕ) (q : StampedQuote) : Type 0 where
  pub fits : Fits q
  pub low : last ≤ q.stamp
  pub high : q.stamp ≤ last_millisecond
  pub bytes : drop place tape ≡ frames_of q ++ drop behind tape

-- the number in four bytes fits 32 bits
number_fits : (l : List ℕ) (i : ℕ) → Bytes l → number4 l i < 4294967296
unfolding number4
number_fits l i b = omega (arith, b i, b (i + 1), b (i + 2), b (i + 3))

module _ (tape : List ℕ) (bytes : Bytes tape) (place last ms behind : ℕ) (p : IsPair tape place last ms behind) where
  abbrev body : List ℕ
  body = drop (p.middle + 1) tape

  abbrev cells : List ℕ
  cells = map (λ i. number4 body (4 * i)) (run 0 p.quoted.count)

  abbrev pub quote_of : StampedQuote
  quote_of = record { stamp = ms; columns = cells }

  cells_length : length cells ≡ p.quoted.count
  cells_length = length-map (run 0 p.quoted.count) (λ i. number4 body (4 * i)) ∙ length_run 0 p.quoted.count

  -- the columns that are read are these, and zeros
  columns_read : (read_at tape p.middle).columns ≡ cells ++ replicate (6 - p.quoted.count) 0
  columns_read = p.quoted.columns ∙ columns_drop tape (p.middle + 1) p.quoted.count ∙ quote_columns (drop (p.middle + 1) tape) p.quoted.count p.quoted.some p.quoted.bounded

  cell_fits : (i : ℕ) → i < length cells → get_or cells i 0 < 4294967296
  cell_fits i h =
      rw (get_or_run (λ i. number4 body (4 * i)) 0 0 p.quoted.count i (omega (arith, cells_length)))
      (number_fits (drop (p.middle + 1) tape) (4 * (0 + i)) (λ j. rw get_or-drop (bytes (p.middle + 1 + j))))

  quote_fits : Fits quote_of
  quote_fits = record { some = omega (arith, cells_length, p.quoted.some); bounded = omega (arith, cells_length, p.quoted.bounded); cells = cell_fits }

  -- the first frame
  stamp_bytes : frame (Position stamp_kind ms) [] ≡ take (p.middle - place) (drop place tape)
  unfolding frame
  stamp_bytes = (write_after_read tape place (Position stamp_kind ms) bytes p.stamped.says).same_bytes ∙ ap (λ (n : ℕ). take (n - place) (drop place tape)) p.stamped.next

  -- the second
  quote_bytes_lem : quote_frame quote_of ≡ take (behind - p.middle) (drop p.middle tape)
  unfolding quote_frame frame
  quote_bytes_lem =
      ap₂ (λ (n : ℕ) (l : List ℕ). n ∷ flat (map bytes4 l)) cells_length
      (take_all (length cells) cells (omega arith)
      ∙ sym (ap (take p.quoted.count) columns_read ∙ take_at cells (replicate (6 - p.quoted.count) 0) p.quoted.count cells_length))
      ∙ (write_after_read tape p.middle (Quote p.quoted.count) bytes p.quoted.says).same_bytes
      ∙ ap (λ (n : ℕ). take (n - p.middle) (drop p.middle tape)) p.quoted.next

  -- a part of a list from a place on, and what stands behind it
  parted : (l : List ℕ) (a b : ℕ) → a ≤ b → drop a l ≡ take (b - a) (drop a l) ++ drop b l
  parted l a b h =
      let e : a + (b - a) ≡ b = omega arith in
      sym (take-append-drop (b - a) (drop a l)) ∙ ap (λ (x : List ℕ). take (b - a) (drop a l) ++ x) (drop-drop (b - a) a l ∙ ap (λ (n : ℕ). drop n l) e)

  pub written : Written tape place last behind quote_of
  unfolding frames_of out_of_order
  written = record {
    fits = quote_fits;
    low = ltb-false ms last (none_left (ltb ms last) (ltb last_millisecond ms) p.ordered);
    high = ltb-false last_millisecond ms (none_right (ltb ms last) (ltb last_millisecond ms) p.ordered);
    bytes =
        parted tape place p.middle (omega (arith, p.stamped.size))
        ∙ ap₂ {C = List ℕ} (λ (x y : List ℕ). x ++ y) (sym stamp_bytes)
        (parted tape p.middle behind (omega (arith, p.quoted.size)) ∙ ap (λ (x : List ℕ). x ++ drop behind tape) (sym quote_bytes_lem))
        ∙ sym (append_assoc (frame (Position stamp_kind ms) []) (quote_frame quote_of) (drop behind tape));
  }

  -- the part that is passed is both frames
  pub part_frames : take (behind - place) (drop place tape) ≡ frames_of quote_of
  part_frames =
      let size : length (frames_of quote_of) ≡ behind - place =
      omega (
        arith,
        ap length written.bytes,
        length-append (frames_of quote_of) (drop behind tape),
        length-drop place tape,
        length-drop behind tape,
        p.stamped.size,
        p.quoted.size,
        p.quoted.inside,
      ) in
      ap (take (behind - place)) written.bytes ∙ take_at (frames_of quote_of) (drop behind tape) (behind - place) size
