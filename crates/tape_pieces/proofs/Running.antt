-- Runs exist: of every tape, cut in every way, a printer hands on the print. Each call is answered by the book model's own play, with the rows
-- at the front of the tables.
use mathlib.Core.Path.{◌≡◌, refl, sym, ap, subst, ◌∙◌}
use mathlib.Core.Logic.{◌⊎◌, inl, inr}
use Prim.Native.Nat.{ℕ, zero, suc, ◌+◌, ◌-◌, ◌≤◌, ◌<◌}
use native.Mathlib.Omega.{arith}
use native.Mathlib.Decide.{dec_le}
use mathlib.Core.Bool.{Bool, true, false, ◌||◌, not}
use mathlib.Core.List.{List, [], ◌∷◌, ◌++◌, append_assoc}
use lib.Dec.{ltb}
use borrow.Author.Tests.{lt-ltb}
use lib.ListN.{length, take, drop, length-append, length-drop}
use lib.Seq.{length-take-le, take_at}
use Rattle.lists.specs.Lists.{laid, flat}
use Rattle.lists.proofs.Booleans.{clash, or_left, or_right}
use Rattle.lists.proofs.Writing.{length_laid}
use Rattle.lists.proofs.Filters.{flat_append}
use Rattle.model.specs.Reference.{is_open, unopened}
use Rattle.tape_model.specs.Play.{Played, Player, print, reference_make, book_play}
use Rattle.tape_model.specs.Streams.{settled}
use Rattle.tape_model.proofs.Streaming.{may_play}
use Rattle.tape_both.specs.Tried.{step_bytes}
use Rattle.tape.proofs.Prints.{cells_kept}
use Rattle.table_starts.specs.Starts.{onward, stays}
use Rattle.tape_playback.specs.declared.Playback.{Playback}
use Rattle.tape_playback.specs.Played.{Resumes, resumes, Gathered, SameInput, Plays, none, frame, moved}
use Rattle.tape_playback.proofs.Advancing.{left, advanced, plays_inside}
use Rattle.tape_playback.proofs.Gathering.{gathered_none, gathered_more}
use Rattle.tape_pieces.specs.Pieces.{GoesOn, PiecePlayed}
use Rattle.tape_pieces.proofs.Playing.{no_room, some_room, none_over}
use Rattle.tape_streams.specs.Streams.{pending, supplied, Flushed, Refilled}
use Rattle.tape_streams.proofs.Refilling.{reads_short}
use Rattle.tape_pieces.specs.Runs.{Printer, playing, loans, front, Fresh, Cut, no_piece, piece_more, behind, Runs, begins, flushes, refills, plays, Ran}
use Rattle.tape_pieces.proofs.Printing.{printer_prints_more}

-- ---- a frame

-- the book model's play of the frame at which a printer stands
abbrev played : List ℕ → Printer → Played Player
played piece p = book_play piece p.playback.place (playing p)

-- the printer once it is played
abbrev stepped : List ℕ → Printer → Printer
stepped piece p = record {
  playback = record {
    head = (played piece p).state.world.head;
    watches = (played piece p).state.world.lent.watches;
    start = front;
    place = (played piece p).next;
    end = p.playback.end;
    used = p.playback.used + length (played piece p).text;
    ended = p.playback.ended;
    over = (played piece p).over;
  };
  tables = (played piece p).state.world.lent.tables;
  bytes = (played piece p).state.outputs.bytes;
  tape = p.tape;
  text = laid (take p.playback.used p.text ++ (played piece p).text) p.text;
}

-- its player is the one that the play leaves
stepped_resumes : (piece : List ℕ) (p : Printer) → Resumes (played piece p).state (playing (stepped piece p))
unfolding onward
stepped_resumes piece p =
    let next = (played piece p).state in
    let same : playing (stepped piece p) ≡ next =
    ap (λ (cells : List ℕ). let k : Player = record { world = next.world; outputs = record { bytes = next.outputs.bytes; cells = cells } } in k) (sym (cells_kept piece p.playback.place (playing p))) in
    subst (λ (k : Player). Resumes k (playing (stepped piece p))) same (resumes stays)

-- frames of a piece, from one printer to another
record Got (piece : List ℕ) (p q : Printer) : Type 0 where
  lines : List ℕ
  plays : Plays piece p.playback.ended p.playback.place (playing p) p.playback.over lines q.playback.place (playing q) q.playback.over
  gathered : Gathered p.playback q.playback lines p.text q.text
  same : SameInput p.playback q.playback
  starts : q.playback.start ≡ front
  long : length p.text ≤ length q.text

got_none : (piece : List ℕ) (p : Printer) → p.playback.used ≤ length p.text → p.playback.start ≡ front → Got piece p p
got_none piece p h s = record { lines = []; plays = none; gathered = gathered_none p.playback p.text h; same = record { end = refl; ended = refl }; starts = s; long = omega arith }

-- a list laid over another makes it no shorter
laid_longer : (l before : List ℕ) → length before ≤ length (laid l before)
unfolding laid
laid_longer l before = simp (length-append, length-drop) (omega arith)

got_more : (piece : List ℕ) (p q : Printer) → Got piece p q → p.playback.used ≤ length p.text → q.playback.over ≡ false → (q.playback.ended || settled piece q.playback.place) ≡ true
    → Got piece p (stepped piece q)
got_more piece p q g h o r = record {
  lines = g.lines ++ (played piece q).text;
  plays = go (stepped_resumes piece q);
  gathered = gathered_more g.gathered h (record { used = refl; text = refl });
  same = record { end = g.same.end; ended = g.same.ended };
  starts = refl;
  long = omega (arith, g.long, laid_longer (take q.playback.used q.text ++ (played piece q).text) q.text);
}
  where
    go : {k : Player} → Resumes (played piece q).state k
        → Plays piece p.playback.ended p.playback.place (playing p) p.playback.over (g.lines ++ (played piece q).text) (played piece q).next k (played piece q).over
    go (resumes m) = moved (frame (rw o at g.plays) (may_play piece q.playback.place p.playback.ended (rw g.same.ended at r))) m

-- ---- a piece

-- how much of a piece is left
abbrev left_of : List ℕ → Printer → ℕ
left_of piece p = left piece p.playback.place p.playback.over

-- a piece played as far as it is, from a printer that stands at q
record Done (piece : List ℕ) (p q : Printer) : Type 0 where
  r : Printer
  got : Got piece p r
  stops : GoesOn r.playback.over (length r.text - r.playback.used) (r.playback.ended || settled piece r.playback.place) false
  less : left_of piece r ≤ left_of piece q

-- less is left behind a frame
stepped_less : (piece : List ℕ) (q : Printer) → q.playback.place ≤ length piece → q.playback.over ≡ false → left_of piece (stepped piece q) < left_of piece q
unfolding left
stepped_less piece q i o = rw o (advanced piece q.playback.place (playing q) i).less

module _ (piece : List ℕ) (p q : Printer) (n : ℕ) (g : Got piece p q) (h : p.playback.used ≤ length p.text) (i : q.playback.place ≤ length piece) (b : left_of piece q ≤ suc n)
    (on : Got piece p (stepped piece q) → left_of piece (stepped piece q) ≤ n → Done piece p (stepped piece q)) where
  -- nothing more is played
  rests : GoesOn q.playback.over (length q.text - q.playback.used) (q.playback.ended || settled piece q.playback.place) false → Done piece p q
  rests s = record { r = q; got = g; stops = s; less = omega arith }

  -- a frame is played, if there is one and its lines find room
  by_settled : q.playback.over ≡ false → step_bytes ≤ length q.text - q.playback.used → (r : Bool) → (q.playback.ended || settled piece q.playback.place) ≡ r → Done piece p q
  by_settled o t true e =
      let d = on (got_more piece p q g h o e) (omega (arith, stepped_less piece q i o)) in
      record { r = d.r; got = d.got; stops = d.stops; less = omega (arith, d.less, stepped_less piece q i o) }
  by_settled o t false e = rests (some_room o t (sym e))

  by_room : q.playback.over ≡ false → Dec (step_bytes ≤ length q.text - q.playback.used) → Done piece p q
  by_room o (yes t) = by_settled o t (q.playback.ended || settled piece q.playback.place) refl
  by_room o (no t) = rests (no_room o (omega (arith, t)))

  plays_next : (o : Bool) → q.playback.over ≡ o → Done piece p q
  plays_next true e = rests (none_over e)
  plays_next false e = by_room e (dec_le step_bytes (length q.text - q.playback.used))

-- nothing is left only where the tape is over
over_left : (piece : List ℕ) (place : ℕ) (over : Bool) → left piece place over ≤ 0 → over ≡ true
unfolding left
over_left piece place true b = refl
over_left piece place false b = absurd (omega arith)

-- a piece, frame by frame
play_on : (fuel : ℕ) (piece : List ℕ) (p q : Printer) → Got piece p q → p.playback.used ≤ length p.text → p.playback.place ≤ length piece → left_of piece q ≤ fuel → Done piece p q
play_on zero piece p q g h i b = record { r = q; got = g; stops = none_over (over_left piece q.playback.place q.playback.over b); less = omega arith }
play_on (suc n) piece p q g h i b =
    plays_next piece p q n g h (plays_inside g.plays i) b (λ g' b'. play_on n piece p (stepped piece q) g' h i b') q.playback.over refl

-- it meets the contract of the call
done_played : {piece : List ℕ} {p q : Printer} (d : Done piece p q)
    → PiecePlayed piece p.playback p.tables p.bytes p.text d.r.playback d.r.tables d.r.bytes d.r.text
done_played d = record {
  lines = d.got.lines;
  plays = d.got.plays;
  gathered = d.got.gathered;
  same = d.got.same;
  starts = rw d.got.starts (record { bounded = omega arith; near = omega arith });
  stops = d.stops;
}

-- ---- from read to read

-- what has come of the tape
abbrev piece_of : Printer → List ℕ
piece_of p = take p.playback.end p.tape

-- between two reads: a run so far, with nothing gathered, and all in its bounds
record State (first : Printer) (came : List (List ℕ)) (p : Printer) : Type 0 where
  texts : List (List ℕ)
  run : Runs first p came texts
  used : p.playback.used ≡ 0
  inside : p.playback.place ≤ p.playback.end
  within : p.playback.end ≤ length p.tape
  start : p.playback.start ≡ front
  room : step_bytes ≤ length p.text
  long : length p.tape ≡ length first.tape

-- the printer at r once what is gathered is handed on
abbrev emptied : Playback → Playback
emptied s = record { head = s.head; watches = s.watches; start = s.start; place = s.place; end = s.end; used = 0; ended = s.ended; over = s.over }

flushed_well : (s : Playback) → Flushed s (emptied s)
flushed_well s = record {
  used = refl;
  place = refl;
  same = record { end = refl; ended = refl };
  book = record { head = refl; watches = refl; start = refl };
  over = λ e. e;
}

abbrev after : Printer → Printer → Printer
after p r = record { playback = emptied r.playback; tables = r.tables; bytes = r.bytes; tape = p.tape; text = r.text }

module _ {first : Printer} {came : List (List ℕ)} (p : Printer) (st : State first came p) where
  -- what has come is as long as it is said
  piece_long : length (piece_of p) ≡ p.playback.end
  piece_long = length-take-le p.playback.end p.tape st.within

  place_inside : p.playback.place ≤ length (piece_of p)
  place_inside = omega (arith, piece_long, st.inside)

  fits : p.playback.used ≤ length p.text
  fits = omega (arith, st.used)

  -- a piece is played, and its lines are handed on
  round : {q : Printer} (d : Done (piece_of p) p q) → State first came (after p d.r)
  round d = record {
    texts = st.texts ++ (take d.r.playback.used d.r.text ∷ []);
    run = flushes (plays st.run (done_played d)) (flushed_well d.r.playback) refl;
    used = refl;
    inside = omega (arith, plays_inside d.got.plays place_inside, piece_long, d.got.same.end);
    within = omega (arith, st.within, d.got.same.end);
    start = d.got.starts;
    room = omega (arith, st.room, d.got.long);
    long = st.long;
  }

  -- these bytes are read behind what is not played
  abbrev filled : List ℕ → Printer
  filled c = record {
    playback = record {
      head = p.playback.head;
      watches = p.playback.watches;
      start = p.playback.start;
      place = 0;
      end = length (pending p.playback p.tape ++ c);
      used = p.playback.used;
      ended = not (ltb 0 (length c));
      over = p.playback.over;
    };
    tables = p.tables;
    bytes = p.bytes;
    tape = laid (pending p.playback p.tape ++ c) p.tape;
    text = p.text;
  }

  module _ (c : List ℕ) (e : supplied p.playback p.tape ≡ false) (b : 27 + length c ≤ length p.tape) where
    -- there is room for them
    read_fits : length (pending p.playback p.tape ++ c) ≤ length p.tape
    read_fits = omega (arith, length-append (pending p.playback p.tape) c, reads_short p.playback p.tape (st.inside, st.within) e)

    refilled : Refilled p.playback p.tape (filled c).playback (filled c).tape
    unfolding laid
    refilled = record {
      came = c;
      kept = take_at (pending p.playback p.tape ++ c) (drop (length (pending p.playback p.tape ++ c)) p.tape) _ refl;
      quiet = λ t. absurd (clash (supplied p.playback p.tape) t e);
      read = λ _. refl;
      inside = omega arith;
      within = read_fits;
      long = length_laid (pending p.playback p.tape ++ c) p.tape read_fits;
      used = refl;
      over = refl;
      book = record { head = refl; watches = refl; start = refl };
    }

    -- the state behind the read
    fill : State first (behind came c) (filled c)
    unfolding refilled
    fill = record {
      texts = st.texts;
      run = refills st.run refilled;
      used = st.used;
      inside = omega arith;
      within = omega (arith, refilled.long, read_fits);
      start = st.start;
      room = st.room;
      long = refilled.long ∙ st.long;
    }

-- nothing more of what has come is played: the tape is over, or more of it is wanted
record Idle (first : Printer) (came : List (List ℕ)) (p : Printer) : Type 0 where
  q : Printer
  state : State first came q
  ended : q.playback.ended ≡ p.playback.ended
  rest : (q.playback.over ≡ true) ⊎ (supplied q.playback q.tape ≡ false)

module _ {first : Printer} {came : List (List ℕ)} (p : Printer) (st : State first came p) (n : ℕ) (b : left_of (piece_of p) p ≤ suc n)
    (on : (q : Printer) → State first came q → left_of (piece_of q) q ≤ n → Idle first came q) where
  by_supply : p.playback.over ≡ false → (r : Bool) → (p.playback.ended || settled (piece_of p) p.playback.place) ≡ r → Idle first came p
  by_supply o true r =
      let g = got_more (piece_of p) p p (got_none (piece_of p) p (fits p st) st.start) (fits p st) o r in
      let d = play_on (left_of (piece_of p) (stepped (piece_of p) p)) (piece_of p) p (stepped (piece_of p) p) g (fits p st) (place_inside p st) (omega arith) in
      let less : left_of (piece_of (after p d.r)) (after p d.r) ≤ n =
      rw d.got.same.end (omega (arith, d.less, stepped_less (piece_of p) p (place_inside p st) o)) in
      let s = on (after p d.r) (round p st d) less in
      record { q = s.q; state = s.state; ended = s.ended ∙ d.got.same.ended; rest = s.rest }
  by_supply o false r = record { q = p; state = st; ended = refl; rest = inr (rw o r) }

  idle_next : (o : Bool) → p.playback.over ≡ o → Idle first came p
  idle_next true e = record { q = p; state = st; ended = refl; rest = inl e }
  idle_next false e = by_supply e (p.playback.ended || settled (piece_of p) p.playback.place) refl

idles : (fuel : ℕ) {first : Printer} {came : List (List ℕ)} (p : Printer) → State first came p → left_of (piece_of p) p ≤ fuel → Idle first came p
idles zero p st b = record { q = p; state = st; ended = refl; rest = inl (over_left (piece_of p) p.playback.place p.playback.over b) }
idles (suc n) p st b = idle_next p st n b (λ q st' b'. idles n q st' b') p.playback.over refl

-- ---- all pieces

-- a run that is finished where the tape is over
ran : {first : Printer} {came : List (List ℕ)} (rest : List (List ℕ)) {q : Printer} → State first came q → q.playback.over ≡ true → (q.playback.ended ≡ true → rest ≡ [])
    → Ran first (came ++ rest)
ran {came = came} rest {q} st o e = record { p = q; came = came; rest = rest; texts = st.texts; run = st.run; finished = record { over = o; used = st.used }; cut = refl; ended = e }

-- a printer whose input has ended goes on without reading
is_supplied : (q : Printer) → q.playback.ended ≡ true → supplied q.playback q.tape ≡ true
is_supplied q e = or_left (q.playback.over || q.playback.ended) (settled (piece_of q) q.playback.place) (or_right q.playback.over q.playback.ended e)

-- nothing more comes
ran_ended : {first : Printer} {came : List (List ℕ)} {p : Printer} → p.playback.ended ≡ true → Idle first came p → Ran first (came ++ [])
ran_ended {first} {came} {p} e s = go s.rest
  where
    go : (s.q.playback.over ≡ true) ⊎ (supplied s.q.playback s.q.tape ≡ false) → Ran first (came ++ [])
    go (inl o) = ran [] s.state o (λ _. refl)
    go (inr n) = absurd (clash (supplied s.q.playback s.q.tape) (is_supplied s.q (s.ended ∙ e)) n)

ran_last : {first : Printer} {came : List (List ℕ)} {p : Printer} → 27 ≤ length first.tape → Idle first came p → Ran first (came ++ [])
unfolding behind
ran_last {first} {came} {p} b s = go s.rest
  where
    go : (s.q.playback.over ≡ true) ⊎ (supplied s.q.playback s.q.tape ≡ false) → Ran first (came ++ [])
    go (inl o) = ran [] s.state o (λ _. refl)
    go (inr n) =
        let st = fill s.q s.state [] n (omega (arith, b, s.state.long)) in
        ran_ended refl (idles (left_of (piece_of (filled s.q s.state [])) (filled s.q s.state [])) (filled s.q s.state []) st (omega arith))

ran_more : {first : Printer} {came : List (List ℕ)} {p : Printer} (byte : ℕ) (bytes : List ℕ) (pieces : List (List ℕ)) → 27 + length (byte ∷ bytes) ≤ length first.tape
    → p.playback.ended ≡ false → Idle first came p
    → ((q : Printer) → State first (came ++ ((byte ∷ bytes) ∷ [])) q → q.playback.ended ≡ false → Ran first ((came ++ ((byte ∷ bytes) ∷ [])) ++ pieces))
    → Ran first (came ++ ((byte ∷ bytes) ∷ pieces))
unfolding behind
ran_more {first} {came} byte bytes pieces b e s on = go s.rest
  where
    go : (s.q.playback.over ≡ true) ⊎ (supplied s.q.playback s.q.tape ≡ false) → Ran first (came ++ ((byte ∷ bytes) ∷ pieces))
    go (inl o) = ran ((byte ∷ bytes) ∷ pieces) s.state o (λ t. absurd (clash s.q.playback.ended t (s.ended ∙ e)))
    go (inr n) =
        rw append_assoc at (on (filled s.q s.state (byte ∷ bytes)) (fill s.q s.state (byte ∷ bytes) n (omega (arith, b, s.state.long))) (ap not (lt-ltb 0 (length (byte ∷ bytes)) (omega arith))))

run_on : {first : Printer} {pieces : List (List ℕ)} → Cut (length first.tape) pieces → {came : List (List ℕ)} (p : Printer) → State first came p → p.playback.ended ≡ false
    → Ran first (came ++ pieces)
run_on (no_piece b) p st e = ran_last b (idles (left_of (piece_of p) p) p st (omega arith))
run_on (piece_more {byte = byte} {bytes = bytes} {pieces = pieces} b k) p st e =
    ran_more byte bytes pieces b e (idles (left_of (piece_of p) p) p st (omega arith)) (λ q st' e'. run_on k q st' e')

module _ {first : Printer} (f : Fresh first) where
  -- of every tape, cut in every way, there is a run
  pub printer_runs : step_bytes ≤ length first.text → {pieces : List (List ℕ)} → Cut (length first.tape) pieces → Ran first pieces
  printer_runs h k =
      run_on k first
      (record { texts = []; run = begins; used = f.used; inside = omega (arith, f.place); within = omega (arith, f.end); start = f.start; room = h; long = refl })
      f.ended

  -- and what it hands on is the reference model's print of the whole tape
  pub run_prints : {pieces : List (List ℕ)} (r : Ran first pieces) → flat r.texts ≡ print is_open (reference_make (loans first)) (flat pieces) unopened
  unfolding flat
  run_prints r = rw (r.cut, flat_append r.came r.rest) (printer_prints_more f r.run r.finished (flat r.rest) (λ e. ap flat (r.ended e)))
