-- Round trips: a frame that is written reads as its message, and a frame that is read is written as the same bytes.
use mathlib.Core.Path.{◌≡◌, refl, sym, ap, ap₂, ◌∙◌}
use mathlib.Core.Logic.{◌↔◌}
use Prim.Native.Nat.{ℕ, suc, ◌+◌, ◌-◌, ◌*◌, ◌≤◌, ◌<◌}
use native.Mathlib.Numerals.{add-one}
use native.Mathlib.Omega.{arith}
use mathlib.Core.Bool.{true, false}
use mathlib.Core.List.{List, [], ◌∷◌, ◌++◌, map}
use lib.ListN.{length, get_or, take, drop, replicate, length-append, length-drop, length-map, take-append-drop}
use lib.Seq.{get_or-drop, get_or-take, get_or-append_seam, drop-append-add, drop-cons, take_at, take_all, length-take-le}
use borrow.Author.Tests.{le-ltb, eq-eqb, ne_eqb}
use Rattle.lists.specs.Lists.{flat, run}
use Rattle.lists.proofs.Booleans.{clash}
use Rattle.lists.proofs.Runs.{length_run}
use Rattle.lists.proofs.Cells.{cells_part, map_run, map_one}
use Rattle.octets.specs.Bytes.{bytes2, bytes4, number2, number4}
use Rattle.octets.proofs.Numbers.{two_bytes, four_bytes, bytes2_again, bytes4_again}
use Rattle.octets.proofs.Cells.{length_cells, cell_again, cells_again}
use Rattle.frame_kinds.specs.declared.Shape.{Shape}
use Rattle.frames.specs.declared.Message.{Message}
use Rattle.frames.specs.declared.Message.TheVariants.{Quote, Sized, Change, Pair, Bare, Position, Open, EndOfTape, Refused}
use Rattle.frame_kinds.specs.Kinds.{leave_kind, join_kind, pair_leave_kind, pair_join_kind, open_kind, kinds, shape_in, shape_of, code_of, has_shape, length_of, body_length}
use Rattle.frames.specs.Frames.{framed, frame, message_by, message_at, columns_at, Saying, told, ended, refused, Reading, stays, read_at}
use Rattle.frames.specs.Messages.{column_count, columns_of, Writable, Exact}
use Rattle.frame_kinds.proofs.Shapes.{KnownShape, Known, quote_kinds, open_kind_lem, open_shape, no_quote_lem, shape_told, body_by, quote_body, known_body}
use Rattle.frames.proofs.Reading.{message_drop, columns_drop, quote_columns, Found, beyond, at_end_lem, unknown, cut, whole, found}

-- the frame of a change has seven bytes
pub change_length_lem : (k n p : ℕ) → length (frame (Change k n p) []) ≡ 7
unfolding frame bytes2 bytes4
change_length_lem k n p = refl

-- that of a position has five
pub position_length : (k p : ℕ) → length (frame (Position k p) []) ≡ 5
unfolding frame bytes4
position_length k p = refl

-- ---- a frame that is written reads as its message

-- a known kind and a body that reads as a message and columns, read where they stand
read_body : (before after body : List ℕ) (kind : ℕ) {m : Message} {columns : List ℕ} → Known kind → body_length kind ≡ length body
    → message_at (body ++ after) 0 kind ≡ m → columns_at (body ++ after) 0 kind ≡ columns
    → read_at (before ++ ((kind ∷ body) ++ after)) (length before) ≡ record { says = told m; columns = columns; next = length before + suc (length body) }
unfolding read_at
read_body before after body kind known size message columns =
    let next : length before + 1 + body_length kind ≡ length before + suc (length body) = omega arith in
    rw (
      get_or-append_seam before kind (body ++ after) 0,
      le-ltb (length tape) (length before) (omega (arith, long)),
      ne_eqb (length before) (length tape) (omega (arith, long)),
      ne_eqb (body_length kind) 255 (omega (arith, known_body kind known)),
      le-ltb (length tape) (length before + 1 + body_length kind) (omega (arith, long)),
      message_drop tape (length before + 1) kind,
      columns_drop tape (length before + 1) kind,
      drop-append-add before ((kind ∷ body) ++ after) 1,
      message,
      columns,
      next,
    )
  where
    tape : List ℕ
    tape = before ++ ((kind ∷ body) ++ after)

    long : length tape ≡ length before + suc (length body + length after)
    long = simp length-append (omega arith)

-- a kind that has a shape is known, its message is by that shape, and a kind other than a quote's has no columns
module _ (shape : Shape) (kind : ℕ) (f : has_shape shape kind ≡ true) where
  shape_known : KnownShape shape → Known kind
  shape_known l = rw (shape_told shape kind f) l

  message_by_lem : (tape : List ℕ) (body : ℕ) → message_at tape body kind ≡ message_by shape tape body kind
  unfolding message_at
  message_by_lem tape body = rw (shape_told shape kind f)

  no_columns_by : (tape : List ℕ) (body : ℕ) → 0 < code_of shape → columns_at tape body kind ≡ replicate 6 0
  unfolding columns_at run
  no_columns_by tape body l = rw (no_quote_lem shape kind (shape_told shape kind f) l)

-- the columns of a quote, read from their bytes
quote_again : (k : ℕ) (cs after : List ℕ) → 1 ≤ k → k ≤ 6 → k ≤ length cs → ((i : ℕ) → i < k → get_or cs i 0 < 4294967296)
    → columns_at (flat (map bytes4 (take k cs)) ++ after) 0 k ≡ columns_of (Quote k) cs
quote_again k cs after u v e f =
    quote_columns tape k u v
    ∙ ap (λ (l : List ℕ). l ++ replicate (6 - k) 0) (map_run (λ i. number4 tape (4 * i)) (λ i. get_or cs i 0) 0 k (λ i p q. cell i (omega arith)) ∙ cells_part 0 cs 0 k (omega arith))
  where
    tape : List ℕ
    tape = flat (map bytes4 (take k cs)) ++ after

    cell : (i : ℕ) → i < k → number4 tape (4 * i) ≡ get_or cs i 0
    cell i h =
        let same : get_or (take k cs) i 0 ≡ get_or cs i 0 = get_or-take k cs i 0 h in
        cell_again (take k cs) after i (omega (arith, length-take-le k cs e)) (omega (arith, f i h)) ∙ same

-- a frame that is written reads as its message, whatever stands before and after it
pub read_after_write : (before after : List ℕ) (m : Message) (cs : List ℕ) → Writable m cs
    → read_at (before ++ (frame m cs ++ after)) (length before) ≡ record { says = told m; columns = columns_of m cs; next = length before + length (frame m cs) }
unfolding frame framed bytes2 bytes4 number2 number4 message_by length_of
read_after_write before after (Quote k) cs w =
    let shape = w.has_frame in
    let r = quote_kinds k (shape_told Shape.Columns k shape) in
    read_body
    before
    after
    (flat (map bytes4 (take k cs)))
    k
    (shape_known Shape.Columns k shape (omega arith))
    (omega (arith, quote_body k r.0 r.1, length_cells (take k cs), length-take-le k cs w.enough))
    (message_by_lem Shape.Columns k shape (flat (map bytes4 (take k cs)) ++ after) 0)
    (quote_again k cs after r.0 r.1 w.enough w.fits)
read_after_write before after (Sized k n) cs w =
    let shape = w.has_frame in
    read_body before after (bytes2 n) k (shape_known Shape.Size k shape (omega arith)) (body_by Shape.Size k (shape_told Shape.Size k shape))
    (message_by_lem Shape.Size k shape (bytes2 n ++ after) 0 ∙ ap (Sized k) (two_bytes n w.typed.1))
    (no_columns_by Shape.Size k shape (bytes2 n ++ after) 0 (omega arith))
read_after_write before after (Change k n p) cs w =
    let shape = w.has_frame in
    let body : List ℕ = bytes2 n ++ bytes4 p in
    read_body before after body k (shape_known Shape.SizePosition k shape (omega arith)) (body_by Shape.SizePosition k (shape_told Shape.SizePosition k shape))
    (message_by_lem Shape.SizePosition k shape (body ++ after) 0 ∙ ap₂ (Change k) (two_bytes n w.typed.1) (four_bytes p w.typed.2))
    (no_columns_by Shape.SizePosition k shape (body ++ after) 0 (omega arith))
read_after_write before after (Pair k n1 n2) cs w =
    let shape = w.has_frame in
    let body : List ℕ = bytes2 n1 ++ bytes2 n2 in
    read_body before after body k (shape_known Shape.SizePair k shape (omega arith)) (body_by Shape.SizePair k (shape_told Shape.SizePair k shape))
    (message_by_lem Shape.SizePair k shape (body ++ after) 0 ∙ ap₂ (Pair k) (two_bytes n1 w.typed.1) (two_bytes n2 w.typed.2))
    (no_columns_by Shape.SizePair k shape (body ++ after) 0 (omega arith))
read_after_write before after (Bare k) cs w =
    let shape = w.has_frame in
    read_body before after [] k (shape_known Shape.Bare k shape (omega arith)) (body_by Shape.Bare k (shape_told Shape.Bare k shape))
    (message_by_lem Shape.Bare k shape after 0)
    (no_columns_by Shape.Bare k shape after 0 (omega arith))
read_after_write before after (Position k p) cs w =
    let shape = w.has_frame in
    read_body before after (bytes4 p) k (shape_known Shape.Position k shape (omega arith)) (body_by Shape.Position k (shape_told Shape.Position k shape))
    (message_by_lem Shape.Position k shape (bytes4 p ++ after) 0 ∙ ap (Position k) (four_bytes p w.typed.1))
    (no_columns_by Shape.Position k shape (bytes4 p ++ after) 0 (omega arith))
read_after_write before after (Open d N directions) cs w =
    let body : List ℕ = d ∷ (bytes2 N ++ (directions ∷ [])) in
    read_body before after body open_kind (shape_known Shape.Settings open_kind open_shape (omega arith)) (body_by Shape.Settings open_kind (shape_told Shape.Settings open_kind open_shape))
    (message_by_lem Shape.Settings open_kind open_shape (body ++ after) 0 ∙ ap (λ (n : ℕ). Open d n directions) (two_bytes N w.typed.1))
    (no_columns_by Shape.Settings open_kind open_shape (body ++ after) 0 (omega arith))
read_after_write before after EndOfTape cs w = absurd (clash false w.has_frame refl)
read_after_write before after (Refused k) cs w = absurd (clash false w.has_frame refl)

-- changes are written without columns
pub change_writable : (k n p : ℕ) → has_shape Shape.SizePosition k ≡ true → k < 256 → n < 65536 → p < 4294967296 → Writable (Change k n p) []
unfolding framed
change_writable k n p f t u v = record { has_frame = f; typed = (t, u, v); enough = omega arith; fits = λ i h. absurd (omega arith) }

module _ (n p : ℕ) (u : n < 65536) (v : p < 4294967296) where
  pub leave_writable : Writable (Change leave_kind n p) []
  unfolding has_shape shape_of shape_in kinds
  leave_writable = change_writable leave_kind n p refl (omega arith) u v

  pub join_writable : Writable (Change join_kind n p) []
  unfolding has_shape shape_of shape_in kinds
  join_writable = change_writable join_kind n p refl (omega arith) u v

-- so are those of the pair
position_writable : (k p : ℕ) → has_shape Shape.Position k ≡ true → k < 256 → p < 4294967296 → Writable (Position k p) []
unfolding framed
position_writable k p f t v = record { has_frame = f; typed = (t, v); enough = omega arith; fits = λ i h. absurd (omega arith) }

module _ (p : ℕ) (v : p < 4294967296) where
  pub pair_leave_writable : Writable (Position pair_leave_kind p) []
  unfolding has_shape shape_of shape_in kinds
  pair_leave_writable = position_writable pair_leave_kind p refl (omega arith) v

  pub pair_join_writable : Writable (Position pair_join_kind p) []
  unfolding has_shape shape_of shape_in kinds
  pair_join_writable = position_writable pair_join_kind p refl (omega arith) v

-- ---- two messages with one frame

-- the message that is told
told_message : Saying → Message
told_message (told m) = m
told_message ended = EndOfTape
told_message (refused k) = EndOfTape

-- such columns are read as they are
pub exact_columns : (m : Message) (cs : List ℕ) → column_count m ≤ length cs → Exact m cs → columns_of m cs ≡ cs
exact_columns m cs h x =
    ap (λ (l : List ℕ). take k cs ++ l)
    (sym (map_one 0 k (6 - k))
    ∙ sym (map_run (λ i. get_or cs i 0) (λ i. 0) k (6 - k) (λ i u v. x.zeros i u))
    ∙ cells_part 0 cs k (6 - k) (omega (arith, x.six))
    ∙ take_all (6 - k) (drop k cs) (simp length-drop (omega (arith, x.six))))
    ∙ take-append-drop k cs
  where
    k : ℕ
    k = column_count m

-- a frame belongs to one message and its columns
pub one_frame : (m m' : Message) (cs cs' : List ℕ) → Writable m cs → Writable m' cs' → Exact m cs → Exact m' cs' → frame m cs ≡ frame m' cs' → (m ≡ m') × (cs ≡ cs')
unfolding told_message
one_frame m m' cs cs' w w' x x' e =
    (ap (λ (r : Reading). told_message r.says) same, sym (exact_columns m cs w.enough x) ∙ ap (λ (r : Reading). r.columns) same ∙ exact_columns m' cs' w'.enough x')
  where
    same : ◌≡◌ {A = Reading} (record { says = told m; columns = columns_of m cs; next = 0 + length (frame m cs) }) (record { says = told m'; columns = columns_of m' cs'; next = 0 + length (frame m' cs') })
    same = sym (read_after_write [] [] m cs w) ∙ ap (λ (f : List ℕ). read_at (f ++ []) 0) e ∙ read_after_write [] [] m' cs' w'

-- ---- a frame that is read is written as the same bytes

-- the bodies of a kind, written again
module _ (l : List ℕ) (bytes : (i : ℕ) → get_or l i 0 < 256) where
  two_again : 2 ≤ length l → bytes2 (number2 l 0) ≡ take 2 l
  unfolding run
  two_again h = bytes2_again l 0 bytes ∙ cells_part 0 l 0 2 h

  six_again : 6 ≤ length l → bytes2 (number2 l 0) ++ bytes4 (number4 l 2) ≡ take 6 l
  unfolding run
  six_again h = ap₂ {C = List ℕ} (λ (x y : List ℕ). x ++ y) (bytes2_again l 0 bytes) (bytes4_again l 2 bytes) ∙ cells_part 0 l 0 6 h

  four_again : 4 ≤ length l → bytes4 (number4 l 0) ≡ take 4 l
  unfolding run
  four_again h = bytes4_again l 0 bytes ∙ cells_part 0 l 0 4 h

  pair_again : 4 ≤ length l → bytes2 (number2 l 0) ++ bytes2 (number2 l 2) ≡ take 4 l
  unfolding run
  pair_again h = ap₂ {C = List ℕ} (λ (x y : List ℕ). x ++ y) (bytes2_again l 0 bytes) (bytes2_again l 2 bytes) ∙ cells_part 0 l 0 4 h

  open_again : 4 ≤ length l → get_or l 0 0 ∷ (bytes2 (number2 l 1) ++ (get_or l 3 0 ∷ [])) ≡ take 4 l
  unfolding run
  open_again h = ap (λ (r : List ℕ). get_or l 0 0 ∷ (r ++ (get_or l 3 0 ∷ []))) (bytes2_again l 1 bytes) ∙ cells_part 0 l 0 4 h

  quote_written : (k : ℕ) → 1 ≤ k → k ≤ 6 → 4 * k ≤ length l → flat (map bytes4 (take k (columns_at l 0 k))) ≡ take (4 * k) l
  quote_written k u v h =
      ap (λ (r : List ℕ). flat (map bytes4 r)) (ap (take k) (quote_columns l k u v) ∙ take_at (map (λ i. number4 l (4 * i)) (run 0 k)) (replicate (6 - k) 0) k (length-map (run 0 k) (λ i. number4 l (4 * i)) ∙ length_run 0 k))
      ∙ cells_again l 0 k bytes (omega arith)

  body_again : (kind : ℕ) → Known kind → body_length kind ≤ length l → frame (message_at l 0 kind) (columns_at l 0 kind) ≡ kind ∷ take (body_length kind) l
  unfolding frame message_at message_by body_length length_of
  body_again kind known h = go (shape_of kind) refl known h
    where
      go : (shape : Shape) → shape_of kind ≡ shape → KnownShape shape → length_of shape kind ≤ length l
          → frame (message_by shape l 0 kind) (columns_at l 0 kind) ≡ kind ∷ take (length_of shape kind) l
      go Shape.Columns e c h = let r = quote_kinds kind e in ap (λ (r : List ℕ). kind ∷ r) (quote_written kind r.0 r.1 h)
      go Shape.Size e c h = ap (λ (r : List ℕ). kind ∷ r) (two_again h)
      go Shape.SizePosition e c h = ap (λ (r : List ℕ). kind ∷ r) (six_again h)
      go Shape.SizePair e c h = ap (λ (r : List ℕ). kind ∷ r) (pair_again h)
      go Shape.Bare e c h = refl
      go Shape.Position e c h = ap (λ (r : List ℕ). kind ∷ r) (four_again h)
      go Shape.Settings e c h = rw (open_kind_lem kind e) (ap (λ (r : List ℕ). open_kind ∷ r) (open_again h))
      go Shape.Unknown e c h = absurd (omega arith)

-- what was read at a place is a frame of the tape, and the same bytes when written again
pub record Rewritten (tape : List ℕ) (place : ℕ) (m : Message) (read : Reading) : Type 0 where
  pub same_bytes : frame m read.columns ≡ take (read.next - place) (drop place tape)
  pub onward : place < read.next
  pub inside : read.next ≤ length tape

-- a whole frame, written again
frame_again : (tape : List ℕ) (place : ℕ) → ((i : ℕ) → get_or tape i 0 < 256) → Known (get_or tape place 0) → place + 1 + body_length (get_or tape place 0) ≤ length tape
    → frame (message_at tape (place + 1) (get_or tape place 0)) (columns_at tape (place + 1) (get_or tape place 0))
    ≡ take (place + 1 + body_length (get_or tape place 0) - place) (drop place tape)
frame_again tape place bytes k t =
    let kind = get_or tape place 0 in
    let size : place + 1 + body_length kind - place ≡ suc (body_length kind) = omega arith in
    rw (size, drop-cons tape place 0 (omega arith), ← add-one place, message_drop tape (place + 1) kind, columns_drop tape (place + 1) kind)
    (body_again (drop (place + 1) tape) (λ i. rw get_or-drop (bytes (place + 1 + i))) kind k (simp length-drop (omega arith)))

-- a frame that is read is written as the same bytes
pub write_after_read : (tape : List ℕ) (place : ℕ) (m : Message) → ((i : ℕ) → get_or tape i 0 < 256) → (read_at tape place).says ≡ told m → Rewritten tape place m (read_at tape place)
unfolding stays told_message
write_after_read tape place m bytes h = go (read_at tape place) (found tape place) h
  where
    none : (k : ℕ) → refused k ≡ told m → ⊥
    none k e = let z : ◌≡◌ {A = ℕ} 0 1 = cc in omega arith

    go : (read : Reading) → Found tape place read → read.says ≡ told m → Rewritten tape place m read
    go _ (beyond t) e = absurd (none 2 e)
    go _ (at_end_lem t) e = absurd (let z : ◌≡◌ {A = ℕ} 0 1 = cc in omega arith)
    go _ unknown e = absurd (none 1 e)
    go _ cut e = absurd (none 2 e)
    go _ (whole k t) e =
        let same : message_at tape (place + 1) (get_or tape place 0) ≡ m = ap told_message e in
        rw (← same) (record { same_bytes = frame_again tape place bytes k t; onward = omega arith; inside = t })

-- the end is read at the end of the tape and at no other place
pub end_only_at_end : (tape : List ℕ) (place : ℕ) → ((read_at tape place).says ≡ ended) ↔ (place ≡ length tape)
unfolding read_at stays
end_only_at_end tape place = (λ e. go (read_at tape place) (found tape place) e, λ e. simp (le-ltb (length tape) place (omega arith), eq-eqb place (length tape) e))
  where
    go : (read : Reading) → Found tape place read → read.says ≡ ended → place ≡ length tape
    go _ (beyond t) e = cc
    go _ (at_end_lem t) e = t
    go _ unknown e = cc
    go _ cut e = cc
    go _ (whole k t) e = cc
