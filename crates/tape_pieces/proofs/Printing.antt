-- What a printer hands on is the reference model's print of what came: a reference model stands beside it, call by call, and what is handed on,
-- what is gathered and the lines of what is to be played are together the print of what came and of whatever comes.
use mathlib.Core.Path.{◌≡◌, refl, sym, ap, ◌∙◌}
use mathlib.Core.Logic.{◌⊎◌, inl, inr}
use Prim.Native.Nat.{ℕ, ◌+◌, ◌≤◌}
use native.Mathlib.Omega.{arith}
use mathlib.Core.Bool.{Bool, true, false, ◌||◌, cond}
use mathlib.Core.List.{List, [], ◌∷◌, ◌++◌, append-nil, append_assoc}
use lib.ListN.{length, take, drop, take-append-drop}
use lib.Seq.{length-take-le}
use Rattle.lists.specs.Lists.{flat}
use Rattle.lists.proofs.Booleans.{or_cases, or_left, or_right}
use Rattle.lists.proofs.Filters.{flat_append}
use Rattle.model.specs.Rows.{Tables}
use Rattle.model.specs.Reference.{Reference, Lengths, is_open, unopened}
use Rattle.tape_model.specs.Play.{Player, play_at, print, reference_make, book_play}
use Rattle.tape_model.specs.Streams.{ready, settled, lines_from}
use Rattle.tape_model.proofs.Agrees.{Alike, at_first_lem, frame_agrees}
use Rattle.tape_model.proofs.Sliding.{slide_alike}
use Rattle.tape_model.proofs.Streaming.{ready_same, print_lines, lines_play, lines_drop}
use Rattle.table_starts.specs.Starts.{Moved, stays, moves}
use Rattle.tape_playback.specs.declared.Playback.{Playback}
use Rattle.tape_playback.specs.Played.{player_of, Plays, none, frame, moved}
use Rattle.tape_playback.proofs.Advancing.{plays_inside}
use Rattle.tape_playback.proofs.Gathering.{gathered_lines, gathered_fits}
use Rattle.tape_pieces.specs.Pieces.{PiecePlayed}
use Rattle.tape_streams.specs.Streams.{pending, Flushed, Refilled}
use Rattle.tape_pieces.specs.Runs.{Printer, playing, loans, Fresh, behind, Runs, begins, flushes, refills, plays, Finished}

module _ (lengths : Lengths) where
  -- the reference model's lines of a tape from a place on
  abbrev lines : List ℕ → ℕ → Reference → List ℕ
  lines = lines_from is_open (reference_make lengths)

  -- its lines unless the tape is over
  abbrev rest_of : Bool → List ℕ → ℕ → Reference → List ℕ
  rest_of over tape place s = cond over [] (lines tape place s)

  -- ---- frames of a piece

  -- a player goes on elsewhere, alike with the same reference model
  moved_alike : (s : Reference) (k : Player) → Alike lengths s k → {u : Tables} → Moved k.world.head k.world.lent.tables u
      → Alike lengths s (record { world = record { head = k.world.head; lent = record { tables = u; watches = k.world.lent.watches } }; outputs = k.outputs })
  moved_alike s k v stays = v
  moved_alike s k v (moves {u = u} holds same) = slide_alike lengths s k v u holds same

  -- a frame that is ready, or any once nothing more comes, is played as with what comes behind it
  played_same : (piece more : List ℕ) (place : ℕ) (s : Reference) {ended : Bool} → (ended || ready piece place) ≡ true → (ended ≡ true → more ≡ [])
      → play_at is_open (reference_make lengths) (piece ++ more) place s ≡ play_at is_open (reference_make lengths) piece place s
  played_same piece more place s {ended} r z = go (or_cases ended (ready piece place) r)
    where
      go : (ended ≡ true) ⊎ (ready piece place ≡ true) → play_at is_open (reference_make lengths) (piece ++ more) place s ≡ play_at is_open (reference_make lengths) piece place s
      go (inl e) = rw (z e, append-nil piece)
      go (inr e) = ready_same is_open (reference_make lengths) piece more place s e

  -- one more frame of the book is one of the reference model
  one_line : (piece more : List ℕ) (place : ℕ) (s : Reference) (k : Player) → Alike lengths s k → {ended : Bool} → (ended || ready piece place) ≡ true → (ended ≡ true → more ≡ [])
      → let one = book_play piece place k in
      lines (piece ++ more) place s ≡ one.text ++ rest_of one.over (piece ++ more) one.next (play_at is_open (reference_make lengths) piece place s).state
  one_line piece more place s k v r z =
      let m = frame_agrees lengths piece place s k v in
      lines_play is_open (reference_make lengths) (piece ++ more) place s ∙ rw (played_same piece more place s r z, m.text, m.over, m.next)

  -- where frames come to: a reference model alike, whose lines go on behind theirs
  record Come (piece : List ℕ) (ended : Bool) (place : ℕ) (s₀ : Reference) (over : Bool) (text : List ℕ) (next : ℕ) (k : Player) (over' : Bool) : Type 0 where
    s : Reference
    alike : Alike lengths s k
    goes : (more : List ℕ) → (ended ≡ true → more ≡ []) → rest_of over (piece ++ more) place s₀ ≡ text ++ rest_of over' (piece ++ more) next s

  frames_come : {piece : List ℕ} {ended : Bool} {place : ℕ} {k : Player} {over : Bool} {text : List ℕ} {next : ℕ} {now : Player} {over' : Bool}
      → Plays piece ended place k over text next now over' → (s : Reference) → Alike lengths s k → Come piece ended place s over text next now over'
  frames_come none s v = record { s = s; alike = v; goes = λ more z. refl }
  frames_come {piece = piece} (frame {lines = before} {next = at} {now = who} p r) s v =
      let c = frames_come p s v in
      record {
        s = (play_at is_open (reference_make lengths) piece at c.s).state;
        alike = (frame_agrees lengths piece at c.s who c.alike).state;
        goes = λ more z. c.goes more z ∙ ap (λ (l : List ℕ). before ++ l) (one_line piece more at c.s who c.alike r z) ∙ sym (append_assoc before (book_play piece at who).text _);
      }
  frames_come (moved {now = who} p m) s v = let c = frames_come p s v in record { s = c.s; alike = moved_alike c.s who c.alike m; goes = c.goes }

  -- ---- calls

  -- what has come of the tape from a place on, as what is not played
  from_place : (piece more : List ℕ) (place : ℕ) (s : Reference) → place ≤ length piece → lines (drop place piece ++ more) 0 s ≡ lines (piece ++ more) place s
  from_place piece more place s h =
      let e : length (take place piece) + 0 ≡ place = omega (arith, length-take-le place piece h) in
      sym (lines_drop is_open (reference_make lengths) (take place piece) (drop place piece ++ more) 0 s)
      ∙ rw (e, ← (append_assoc (take place piece) (drop place piece) more), take-append-drop place piece)

  -- beside a printer: a reference model alike; what was handed on, what is gathered and its lines of what is not played are the print of what
  -- came, whatever comes behind it
  record Standing (came handed : List ℕ) (p : Printer) : Type 0 where
    s : Reference
    alike : Alike lengths s (playing p)
    inside : p.playback.place ≤ p.playback.end
    within : p.playback.end ≤ length p.tape
    fits : p.playback.used ≤ length p.text
    printed : (more : List ℕ) → (p.playback.ended ≡ true → more ≡ [])
        → print is_open (reference_make lengths) (came ++ more) unopened
        ≡ handed ++ (take p.playback.used p.text ++ rest_of p.playback.over (pending p.playback p.tape ++ more) 0 s)

  module _ {came handed : List ℕ} {p : Printer} (st : Standing came handed p) where
    -- what is gathered
    abbrev gathered : List ℕ
    gathered = take p.playback.used p.text

    -- what is gathered is handed on
    flush_stands : {r : Playback} → Flushed p.playback r → r.over ≡ p.playback.over
        → Standing came (handed ++ gathered) (record { playback = r; tables = p.tables; bytes = p.bytes; tape = p.tape; text = p.text })
    flush_stands f o = record {
      s = st.s;
      alike = rw (f.book.head, f.book.watches, f.book.start) st.alike;
      inside = rw (f.place, f.same.end) st.inside;
      within = rw f.same.end st.within;
      fits = omega (arith, f.used);
      printed = λ more z.
          rw (f.used, f.place, f.same.end, o)
          (st.printed more (λ e. z (f.same.ended ∙ e)) ∙ sym (append_assoc handed gathered (rest_of p.playback.over (pending p.playback p.tape ++ more) 0 st.s)));
    }

    -- bytes come behind what is not played
    refill_stands : {r : Playback} {tape' : List ℕ} (f : Refilled p.playback p.tape r tape')
        → Standing (came ++ f.came) handed (record { playback = r; tables = p.tables; bytes = p.bytes; tape = tape'; text = p.text })
    refill_stands {r} {tape'} f = record {
      s = st.s;
      alike = rw (f.book.head, f.book.watches, f.book.start) st.alike;
      inside = f.inside;
      within = omega (arith, f.within, f.long);
      fits = rw f.used st.fits;
      printed = λ more z.
          rw (f.used, f.over, f.kept, append_assoc came f.came more, append_assoc (pending p.playback p.tape) f.came more) (st.printed (f.came ++ more) (nothing more z));
    }
      where
        -- once the input has ended nothing comes
        nothing : (more : List ℕ) → (r.ended ≡ true → more ≡ []) → p.playback.ended ≡ true → f.came ++ more ≡ []
        nothing more z e =
            let q = f.quiet (or_left (p.playback.over || p.playback.ended) (settled (take p.playback.end p.tape) p.playback.place) (or_right p.playback.over p.playback.ended e)) in
            rw q.0 (z (q.1 ∙ e))

    -- a piece is played
    plays_stands : {r : Playback} {t' : Tables} {bytes' text' : List ℕ} → PiecePlayed (take p.playback.end p.tape) p.playback p.tables p.bytes p.text r t' bytes' text'
        → Standing came handed (record { playback = r; tables = t'; bytes = bytes'; tape = p.tape; text = text' })
    plays_stands {r} {t'} {bytes'} g = record {
      s = c.s;
      alike = c.alike;
      inside = omega (arith, next_inside, long, g.same.end);
      within = rw g.same.end st.within;
      fits = gathered_fits g.gathered st.fits;
      printed = λ more z.
          let lines-there = rest_of r.over (drop r.place piece ++ more) 0 c.s in
          rw (g.same.end, gathered_lines g.gathered st.fits, append_assoc gathered g.lines lines-there)
          (st.printed more (λ e. z (g.same.ended ∙ e))
          ∙ ap (λ (l : List ℕ). handed ++ (gathered ++ l)) (from p.playback.over more p.playback.place st.s inside ∙ c.goes more (λ e. z (g.same.ended ∙ e)) ∙ ap (λ (l : List ℕ). g.lines ++ l) (sym (from r.over more r.place c.s next_inside))));
    }
      where
        piece : List ℕ
        piece = take p.playback.end p.tape

        long : length piece ≡ p.playback.end
        long = length-take-le p.playback.end p.tape st.within

        inside : p.playback.place ≤ length piece
        inside = omega (arith, long, st.inside)

        next_inside : r.place ≤ length piece
        next_inside = plays_inside g.plays inside

        c : Come piece p.playback.ended p.playback.place st.s p.playback.over g.lines r.place (player_of r t' bytes') r.over
        c = frames_come g.plays st.s st.alike

        from : (over : Bool) (more : List ℕ) (place : ℕ) (s : Reference) → place ≤ length piece → rest_of over (drop place piece ++ more) 0 s ≡ rest_of over (piece ++ more) place s
        from true more place s h = refl
        from false more place s h = from_place piece more place s h

-- ---- runs

-- a piece behind those that came
flat_behind : (came : List (List ℕ)) (piece : List ℕ) → flat (behind came piece) ≡ flat came ++ piece
unfolding behind flat
flat_behind came [] = sym (append-nil (flat came))
flat_behind came (byte ∷ bytes) = flat_append came ((byte ∷ bytes) ∷ []) ∙ rw append-nil

-- a text behind those that were handed on
flat_last : (texts : List (List ℕ)) (text : List ℕ) → flat (texts ++ (text ∷ [])) ≡ flat texts ++ text
unfolding flat
flat_last texts text = flat_append texts (text ∷ []) ∙ rw append-nil

-- before the first call
begin_stands : (first : Printer) → Fresh first → Standing (loans first) (flat []) (flat []) first
unfolding flat
begin_stands first f = record {
  s = unopened;
  alike = rw f.head (at_first_lem _ _);
  inside = omega (arith, f.place);
  within = omega (arith, f.end);
  fits = omega (arith, f.used);
  printed = λ more z. rw (f.used, f.over, f.place, f.end) (print_lines is_open (reference_make (loans first)) more unopened);
}

-- and behind each
module _ (lengths : Lengths) (came texts : List (List ℕ)) {p : Printer} (st : Standing lengths (flat came) (flat texts) p) where
  flushed : {r : Playback} → Flushed p.playback r → r.over ≡ p.playback.over
      → Standing lengths (flat came) (flat (texts ++ (take p.playback.used p.text ∷ []))) (record { playback = r; tables = p.tables; bytes = p.bytes; tape = p.tape; text = p.text })
  flushed g o = rw (flat_last texts (take p.playback.used p.text)) (flush_stands lengths st g o)

  refilled : {r : Playback} {tape' : List ℕ} (g : Refilled p.playback p.tape r tape')
      → Standing lengths (flat (behind came g.came)) (flat texts) (record { playback = r; tables = p.tables; bytes = p.bytes; tape = tape'; text = p.text })
  refilled g = rw (flat_behind came g.came) (refill_stands lengths st g)

-- a reference model stands beside every run
runs_stand : (lengths : Lengths) {first p : Printer} {came texts : List (List ℕ)} → Standing lengths (flat []) (flat []) first → Runs first p came texts
    → Standing lengths (flat came) (flat texts) p
runs_stand lengths st begins = st
runs_stand lengths st (flushes {came = came} {texts = texts} r g o) = flushed lengths came texts (runs_stand lengths st r) g o
runs_stand lengths st (refills {came = came} {texts = texts} r g) = refilled lengths came texts (runs_stand lengths st r) g
runs_stand lengths st (plays r g) = plays_stands lengths (runs_stand lengths st r) g

-- nothing is gathered and nothing is to be played
nothing_left : (handed text more : List ℕ) {used : ℕ} {over : Bool} → used ≡ 0 → over ≡ true → handed ++ (take used text ++ cond over [] more) ≡ handed
nothing_left handed text more u o = rw (u, o) (append-nil handed)

module _ {first : Printer} (f : Fresh first) {p : Printer} {came texts : List (List ℕ)} (r : Runs first p came texts) (e : Finished p) where
  -- what a finished run handed on is the reference model's print of what came, and of whatever would still have come
  pub printer_prints_more : (more : List ℕ) → (p.playback.ended ≡ true → more ≡ []) → flat texts ≡ print is_open (reference_make (loans first)) (flat came ++ more) unopened
  printer_prints_more more z =
      let st = runs_stand (loans first) (begin_stands first f) r in
      sym (st.printed more z ∙ nothing_left (flat texts) p.text _ e.used e.over)

  -- what a finished run handed on, one text behind the other, is the reference model's print of the pieces that came, one behind the other
  pub printer_prints : flat texts ≡ print is_open (reference_make (loans first)) (flat came) unopened
  printer_prints = printer_prints_more [] (λ _. refl) ∙ rw append-nil
