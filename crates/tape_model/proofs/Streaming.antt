-- A frame that is ready in a piece of a tape is played as in the whole tape, and so a tape read in pieces prints the same lines.
use mathlib.Core.Path.{◌≡◌, refl, sym, ap, ◌∙◌}
use mathlib.Core.Logic.{◌⊎◌, inl, inr}
use Prim.Native.Nat.{ℕ, zero, suc, ◌+◌, ◌-◌, ◌*◌, ◌≤◌, ◌<◌}
use native.Mathlib.Nat.{add_assoc}
use native.Mathlib.Omega.{arith}
use mathlib.Core.Bool.{Bool, true, false, ◌&&◌, ◌||◌, not, cond}
use mathlib.Core.List.{List, [], ◌++◌, append-nil, append_assoc}
use lib.Dec.{ltb, leb, eqb}
use lib.ListN.{length, get_or, length-append, get_or-append}
use lib.Seq.{get_or-append-add, drop-append-add}
use borrow.Author.Tests.{ltb-true, lt-ltb, le-ltb, le-leb, leb-true, eqb-true, eqb-false, eq-eqb, ne_eqb}
use Rattle.lists.proofs.Booleans.{either, agree, clash, both, and_left, and_right, or_cases, or_left, or_right}
use Rattle.lists.proofs.Cells.{map_run}
use Rattle.refusals.specs.declared.Refusal.TheVariants.{UnknownKind, CutFrame}
use Rattle.refusals.specs.Refusals.{number}
use Rattle.octets.specs.Bytes.{number2, number4}
use Rattle.frame_kinds.specs.declared.Shape.{Shape}
use Rattle.frame_kinds.specs.declared.Shape.TheVariants.{Columns, Size, SizePosition, SizePair, Bare, Position, Settings, Unknown}
use Rattle.frame_kinds.specs.Kinds.{within, look_kind, kinds, shape_in, shape_of, length_of, body_length}
use Rattle.frames.specs.Frames.{message_by, message_at, columns_at, told, ended, refused, Reading, stays, read_at}
use Rattle.frame_kinds.proofs.Shapes.{within_bounds, quote_body, size_body, change_body, pair_body, position_body, open_body, kind_known, known_body}
use Rattle.frames.proofs.Reading.{message_drop, columns_drop, Found, beyond, at_end_lem, unknown, cut, whole, found}
use Rattle.model.specs.Reference.{unopened, is_open}
use Rattle.model.specs.Calls.{Call, Outputs, Lent, lengths_of, world_first}
use Rattle.tape_asking.specs.Asking.{Asked, finished, unread, misplaced, request, asked}
use Rattle.tape_model.specs.Print.{Answered}
use Rattle.tape_model.specs.Play.{Played, play_asked, play_at, print_from, print, reference_make, book_make, begun}
use Rattle.tape_model.specs.Streams.{ready, settled, lines_from, further, Streams, plays, stops, drops, fills}
use Rattle.tape_model.proofs.Agrees.{print_agrees}

-- ---- what is read, however the tape goes on

module _ (piece rest : List ℕ) where
  -- a byte of the piece, and the numbers that stand in it
  cell : (i : ℕ) → i < length piece → get_or (piece ++ rest) i 0 ≡ get_or piece i 0
  cell i h = get_or-append piece rest 0 i h

  two_same : (i : ℕ) → i + 2 ≤ length piece → number2 (piece ++ rest) i ≡ number2 piece i
  unfolding number2
  two_same i h = rw (cell i (omega arith), cell (i + 1) (omega arith))

  four_same : (i : ℕ) → i + 4 ≤ length piece → number4 (piece ++ rest) i ≡ number4 piece i
  unfolding number4
  four_same i h = rw (cell i (omega arith), cell (i + 1) (omega arith), cell (i + 2) (omega arith), cell (i + 3) (omega arith))

  -- the message of a frame that stands whole in the piece
  message_same : (body kind : ℕ) → body + body_length kind ≤ length piece → message_at (piece ++ rest) body kind ≡ message_at piece body kind
  unfolding message_at message_by
  message_same body kind h = go (shape_of kind) refl
    where
      go : (shape : Shape) → shape_of kind ≡ shape → message_by shape (piece ++ rest) body kind ≡ message_by shape piece body kind
      go Columns e = refl
      go Size e = rw (two_same body (omega (arith, size_body kind e)))
      go SizePosition e = rw (two_same body (omega (arith, change_body kind e)), four_same (body + 2) (omega (arith, change_body kind e)))
      go SizePair e = rw (two_same body (omega (arith, pair_body kind e)), two_same (body + 2) (omega (arith, pair_body kind e)))
      go Bare e = refl
      go Position e = rw (four_same body (omega (arith, position_body kind e)))
      go Settings e =
          rw (cell body (omega (arith, open_body kind e)), two_same (body + 1) (omega (arith, open_body kind e)), cell (body + 3) (omega (arith, open_body kind e)))
      go Unknown e = refl

  -- and its columns
  columns_same : (body kind : ℕ) → body + body_length kind ≤ length piece → columns_at (piece ++ rest) body kind ≡ columns_at piece body kind
  unfolding columns_at
  columns_same body kind h = map_run _ _ 0 6 (λ i _ _. go i (within 1 6 kind && ltb i kind) refl)
    where
      go : (i : ℕ) (b : Bool) → within 1 6 kind && ltb i kind ≡ b → cond b (number4 (piece ++ rest) (body + 4 * i)) 0 ≡ cond b (number4 piece (body + 4 * i)) 0
      go i true e =
          let r = within_bounds 1 6 kind (and_left (within 1 6 kind) (ltb i kind) e) in
          let t = ltb-true i kind (and_right (within 1 6 kind) (ltb i kind) e) in
          four_same (body + 4 * i) (omega (arith, quote_body kind r.0 r.1))
      go i false e = refl

  -- what is read where a frame is ready is the same however the tape goes on
  pub read_same : (place : ℕ) → ready piece place ≡ true → read_at (piece ++ rest) place ≡ read_at piece place
  unfolding read_at ready
  read_same place e =
      rw (
        cell place inside,
        le-ltb (length (piece ++ rest)) place (omega (arith, inside, length-append piece rest)),
        ne_eqb place (length (piece ++ rest)) (λ z. omega (arith, inside, length-append piece rest)),
        le-ltb (length piece) place (omega (arith, inside)),
        ne_eqb place (length piece) (λ z. omega (arith, inside)),
      ) (go (either (eqb (body_length kind) 255)))
    where
      kind : ℕ
      kind = get_or piece place 0

      next : ℕ
      next = place + 1 + body_length kind

      inside : place < length piece
      inside = ltb-true place (length piece) (and_left (ltb place (length piece)) (eqb (body_length kind) 255 || leb next (length piece)) e)

      read : List ℕ → Reading
      read tape = record { says = told (message_at tape (place + 1) kind); columns = columns_at tape (place + 1) kind; next = next }

      rest_of : List ℕ → Reading
      rest_of tape = cond (eqb (body_length kind) 255) (stays (refused (number UnknownKind)) place) (cond (ltb (length tape) next) (stays (refused (number CutFrame)) place) (read tape))

      stands : eqb (body_length kind) 255 ≡ false → next ≤ length piece
      stands f = pick (or_cases (eqb (body_length kind) 255) (leb next (length piece)) (and_right (ltb place (length piece)) (eqb (body_length kind) 255 || leb next (length piece)) e))
        where
          pick : (eqb (body_length kind) 255 ≡ true) ⊎ (leb next (length piece) ≡ true) → next ≤ length piece
          pick (inl t) = absurd (clash (eqb (body_length kind) 255) t f)
          pick (inr t) = leb-true next (length piece) t

      go : (eqb (body_length kind) 255 ≡ true) ⊎ (eqb (body_length kind) 255 ≡ false) → rest_of (piece ++ rest) ≡ rest_of piece
      go (inl t) = rw t
      go (inr f) =
          let h = stands f in
          rw (
            f,
            le-ltb (length (piece ++ rest)) next (omega (arith, length-append piece rest)),
            le-ltb (length piece) next h,
            message_same (place + 1) kind h,
            columns_same (place + 1) kind h,
          )

-- a frame is ready where 25 bytes have come
pub ready_soon : (piece : List ℕ) (place : ℕ) → place + 25 ≤ length piece → ready piece place ≡ true
unfolding ready
ready_soon piece place h = rw (lt-ltb place (length piece) (omega arith)) (go (either (eqb (body_length kind) 255)))
  where
    kind : ℕ
    kind = get_or piece place 0

    go : (eqb (body_length kind) 255 ≡ true) ⊎ (eqb (body_length kind) 255 ≡ false) → eqb (body_length kind) 255 || leb (place + 1 + body_length kind) (length piece) ≡ true
    go (inl e) = rw e
    go (inr e) = rw (e, le-leb (place + 1 + body_length kind) (length piece) (omega (arith, known_body kind (kind_known kind (eqb-false (body_length kind) 255 e)))))

-- a look's body has two bytes
look_body : body_length look_kind ≡ 2
unfolding body_length length_of shape_of shape_in kinds
look_body = refl

-- a look is ready where its three bytes have come
look_ready : (piece : List ℕ) (place : ℕ) → get_or piece place 0 ≡ look_kind → place + 3 ≤ length piece → ready piece place ≡ true
unfolding ready
look_ready piece place e h = rw (lt-ltb place (length piece) (omega arith), e, look_body, le-leb (place + 1 + 2) (length piece) (omega arith))

module _ (piece : List ℕ) (place : ℕ) where
  abbrev kind : ℕ
  kind = get_or piece place 0

  abbrev next : ℕ
  next = place + 1 + body_length kind

  -- a look's kind stands behind it
  abbrev look : Bool
  look = eqb (get_or piece next 0) look_kind

  -- it is known what follows a quote
  abbrev known : Bool
  known = ltb next (length piece) && (not look || ready piece next)

  -- a frame that is settled is ready
  pub settled_ready : settled piece place ≡ true → ready piece place ≡ true
  unfolding settled
  settled_ready e = and_left (ready piece place) (not (within 1 6 kind) || known) e

  -- so a frame that is played where it is settled or nothing more comes is one where it is ready or nothing more comes
  pub may_play : (last : Bool) → (last || settled piece place) ≡ true → (last || ready piece place) ≡ true
  may_play last e = go (or_cases last (settled piece place) e)
    where
      go : (last ≡ true) ⊎ (settled piece place ≡ true) → (last || ready piece place) ≡ true
      go (inl t) = or_left last (ready piece place) t
      go (inr t) = or_right last (ready piece place) (settled_ready t)

  -- a look that follows is ready where three bytes have come
  follows : next + 3 ≤ length piece → (look ≡ true) ⊎ (look ≡ false) → not look || ready piece next ≡ true
  follows u (inl t) = or_right (not look) (ready piece next) (look_ready piece next (eqb-true (get_or piece next 0) look_kind t) u)
  follows u (inr t) = rw t

  -- a frame is settled where 28 bytes have come: a quote's has at most 25, and a look 3
  pub settled_soon : place + 28 ≤ length piece → settled piece place ≡ true
  unfolding settled
  settled_soon h =
      both (ready piece place) (not (within 1 6 kind) || known) (ready_soon piece place (omega arith)) (go (either (within 1 6 kind)))
    where
      go : (within 1 6 kind ≡ true) ⊎ (within 1 6 kind ≡ false) → not (within 1 6 kind) || known ≡ true
      go (inl t) =
          let r = within_bounds 1 6 kind t in
          let u : next + 3 ≤ length piece = omega (arith, quote_body kind r.0 r.1, r.1) in
          rw (t, lt-ltb next (length piece) (omega (arith, u))) (follows u (either look))
      go (inr t) = rw t

-- ---- what is read, whatever stood before

-- numbers compare as before when the same is added to both
less_shifted : (a x y : ℕ) → ltb (a + x) (a + y) ≡ ltb x y
less_shifted a x y =
    agree (ltb (a + x) (a + y)) (ltb x y) (λ t. lt-ltb x y (omega (arith, ltb-true (a + x) (a + y) t))) (λ t. lt-ltb (a + x) (a + y) (omega (arith, ltb-true x y t)))

equal_shifted : (a x y : ℕ) → eqb (a + x) (a + y) ≡ eqb x y
equal_shifted a x y =
    agree (eqb (a + x) (a + y)) (eqb x y) (λ t. eq-eqb x y (omega (arith, eqb-true (a + x) (a + y) t))) (λ t. eq-eqb (a + x) (a + y) (omega (arith, eqb-true x y t)))

-- what is read at a place with this many bytes before it
shifted : ℕ → Reading → Reading
shifted n r = record { says = r.says; columns = r.columns; next = n + r.next }

-- what is read behind other bytes is the same, so many places further on
read_behind : (before tape : List ℕ) (place : ℕ) → read_at (before ++ tape) (length before + place) ≡ shifted (length before) (read_at tape place)
unfolding read_at shifted stays
read_behind before tape place =
    rw (
      get_or-append-add before tape place 0,
      length-append before tape,
      less_shifted (length before) (length tape) place,
      equal_shifted (length before) place (length tape),
      add_assoc (length before) place 1,
      add_assoc (length before) (place + 1) (body_length kind),
      less_shifted (length before) (length tape) (place + 1 + body_length kind),
      message_drop (before ++ tape) (length before + (place + 1)) kind,
      columns_drop (before ++ tape) (length before + (place + 1)) kind,
      drop-append-add before tape (place + 1),
      ← (message_drop tape (place + 1) kind),
      ← (columns_drop tape (place + 1) kind),
    ) (go (ltb (length tape) place) (eqb place (length tape)) (eqb (body_length kind) 255) (ltb (length tape) (place + 1 + body_length kind)))
  where
    kind : ℕ
    kind = get_or tape place 0

    n : ℕ
    n = length before

    read : ℕ → Reading
    read next = record { says = told (message_at tape (place + 1) kind); columns = columns_at tape (place + 1) kind; next = next }

    go : (a b c d : Bool)
        → cond a (stays (refused (number CutFrame)) (n + place))
        (cond b (stays ended (n + place))
        (cond c (stays (refused (number UnknownKind)) (n + place))
        (cond d (stays (refused (number CutFrame)) (n + place)) (read (n + (place + 1 + body_length kind))))))
        ≡ shifted n
        (cond a (stays (refused (number CutFrame)) place)
        (cond b (stays ended place)
        (cond c (stays (refused (number UnknownKind)) place)
        (cond d (stays (refused (number CutFrame)) place) (read (place + 1 + body_length kind))))))
    go true b c d = refl
    go false true c d = refl
    go false false true d = refl
    go false false false true = refl
    go false false false false = refl

-- ---- one frame

module _ {S : Type 0} (begun : S → Bool) (make : Call → S → Answered × S) where
  -- a frame that is ready is played the same however the tape goes on
  pub ready_same : (piece rest : List ℕ) (place : ℕ) (s : S) → ready piece place ≡ true → play_at begun make (piece ++ rest) place s ≡ play_at begun make piece place s
  unfolding play_at
  ready_same piece rest place s e = rw (read_same piece rest place e)

  -- what is asked there is played the same
  asked_behind : (n : ℕ) (a : Asked) (next : ℕ) (s : S) → play_asked begun make a (n + next) s ≡ further n (play_asked begun make a next s)
  unfolding play_asked
  asked_behind n finished next s = refl
  asked_behind n (unread k) next s = refl
  asked_behind n misplaced next s = refl
  asked_behind n (request r) next s = refl

  -- a frame behind other bytes is played the same, and the next place is so many further on
  pub front_same : (before tape : List ℕ) (place : ℕ) (s : S) → play_at begun make (before ++ tape) (length before + place) s ≡ further (length before) (play_at begun make tape place s)
  unfolding play_at shifted
  front_same before tape place s =
      let read = read_at tape place in
      rw (read_behind before tape place) (asked_behind (length before) (asked (begun s) read.says read.columns) read.next s)

  -- the place behind a frame is the one that was read
  next_read : (a : Asked) (next : ℕ) (s : S) → (play_asked begun make a next s).next ≡ next
  unfolding play_asked
  next_read finished next s = refl
  next_read (unread k) next s = refl
  next_read misplaced next s = refl
  next_read (request r) next s = refl

  -- a frame that does not end the tape lies within it
  pub onward : (tape : List ℕ) (place : ℕ) (s : S) → (play_at begun make tape place s).over ≡ false
      → (place < (play_at begun make tape place s).next) × ((play_at begun make tape place s).next ≤ length tape)
  unfolding play_at play_asked asked stays
  onward tape place s e = go (read_at tape place) (found tape place) e
    where
      one : Reading → Played S
      one r = play_asked begun make (asked (begun s) r.says r.columns) r.next s

      go : (r : Reading) → Found tape place r → (one r).over ≡ false → (place < (one r).next) × ((one r).next ≤ length tape)
      go _ (beyond h) e = absurd (clash true refl e)
      go _ (at_end_lem h) e = absurd (clash true refl e)
      go _ unknown e = absurd (clash true refl e)
      go _ cut e = absurd (clash true refl e)
      go r (whole k h) e = rw (next_read (asked (begun s) r.says r.columns) r.next s) (omega arith, h)

  -- ---- all frames

  -- the rest of the lines counts only where the tape is not over
  rest_same : (over : Bool) (x y : List ℕ) → (over ≡ false → x ≡ y) → cond over [] x ≡ cond over [] y
  rest_same true x y f = refl
  rest_same false x y f = f refl

  -- two numbers of frames that reach behind the end print the same
  enough : (k j : ℕ) (tape : List ℕ) (place : ℕ) (s : S) → 1 ≤ k → 1 ≤ j → length tape < place + k → length tape < place + j
      → print_from begun make k tape place s ≡ print_from begun make j tape place s
  unfolding print_from
  enough zero j tape place s a b u v = absurd (omega arith)
  enough (suc k) zero tape place s a b u v = absurd (omega arith)
  enough (suc k) (suc j) tape place s a b u v =
      let one = play_at begun make tape place s in
      ap (λ (l : List ℕ). one.text ++ l)
      (rest_same one.over _ _
      (λ e.
      let t = onward tape place s e in
      let low = t.0 in
      let high = t.1 in
      enough k j tape one.next one.state (omega arith) (omega arith) (omega arith) (omega arith)))

  -- the print of a tape is its lines from its start on
  pub print_lines : (tape : List ℕ) (s : S) → print begun make tape s ≡ lines_from begun make tape 0 s
  unfolding print lines_from
  print_lines tape s = let e : length tape - 0 ≡ length tape = omega arith in rw e

  -- the lines from a place on: those of the frame there, and then those behind it
  pub lines_play : (tape : List ℕ) (place : ℕ) (s : S)
      → let one = play_at begun make tape place s in
      lines_from begun make tape place s ≡ one.text ++ cond one.over [] (lines_from begun make tape one.next one.state)
  unfolding lines_from print_from
  lines_play tape place s =
      let one = play_at begun make tape place s in
      ap (λ (l : List ℕ). one.text ++ l)
      (rest_same one.over _ _
      (λ e.
      let t = onward tape place s e in
      let low = t.0 in
      let high = t.1 in
      enough (length tape - place) (suc (length tape - one.next)) tape one.next one.state (omega arith) (omega arith) (omega arith) (omega arith)))

  -- frames behind other bytes print the same
  frames_behind : (k : ℕ) (before tape : List ℕ) (place : ℕ) (s : S) → print_from begun make k (before ++ tape) (length before + place) s ≡ print_from begun make k tape place s
  unfolding print_from
  frames_behind zero before tape place s = refl
  frames_behind (suc k) before tape place s =
      let one = play_at begun make tape place s in
      rw (front_same before tape place s) (ap (λ (l : List ℕ). one.text ++ cond one.over [] l) (frames_behind k before tape one.next one.state))

  -- bytes before the place do not matter
  pub lines_drop : (played tape : List ℕ) (place : ℕ) (s : S) → lines_from begun make (played ++ tape) (length played + place) s ≡ lines_from begun make tape place s
  unfolding lines_from
  lines_drop played tape place s =
      let e : length (played ++ tape) - (length played + place) ≡ length tape - place = omega (arith, length-append played tape) in
      rw e (frames_behind (suc (length tape - place)) played tape place s)

  -- ---- in pieces

  -- a frame that is ready, or any once nothing more comes, is played as in the whole tape
  played_same : (piece rest : List ℕ) (place : ℕ) (s : S) → (ready piece place ≡ true) ⊎ (rest ≡ []) → play_at begun make (piece ++ rest) place s ≡ play_at begun make piece place s
  played_same piece rest place s (inl e) = ready_same piece rest place s e
  played_same piece rest place s (inr e) = rw (e, append-nil piece)

  -- what is printed from a buffer is the lines of the piece in it with the rest of the tape behind
  pub streams_lines : {piece : List ℕ} {place : ℕ} {s : S} {rest text : List ℕ} → Streams begun make piece place s rest text → text ≡ lines_from begun make (piece ++ rest) place s
  streams_lines (plays {piece} {rest} {text} {place} {s} c o more) =
      sym (lines_play (piece ++ rest) place s ∙ rw (played_same piece rest place s c, o, ← (streams_lines more)))
  streams_lines (stops {piece} {rest} {place} {s} c o) = sym (lines_play (piece ++ rest) place s ∙ rw (played_same piece rest place s c, o, append-nil))
  streams_lines (drops played {piece} {rest} {text} {place} {s} more) = streams_lines more ∙ sym (rw append_assoc (lines_drop played (piece ++ rest) place s))
  streams_lines (fills come {piece} {rest} {text} {place} {s} more) = streams_lines more ∙ rw append_assoc

  -- a tape that is read in pieces prints what the whole tape prints
  pub printed_in_pieces : (tape : List ℕ) (s : S) {text : List ℕ} → Streams begun make [] 0 s tape text → text ≡ print begun make tape s
  printed_in_pieces tape s t = streams_lines t ∙ sym (print_lines tape s)

-- what the book prints of a tape that is read in pieces is the print by the reference model
pub streamed_agrees : (tape : List ℕ) (l : Lent) (o : Outputs) {text : List ℕ}
    → Streams begun book_make [] 0 (record { world = world_first l; outputs = o }) tape text
    → text ≡ print is_open (reference_make (lengths_of l o)) tape unopened
streamed_agrees tape l o t = printed_in_pieces begun book_make tape _ t ∙ print_agrees tape l o
