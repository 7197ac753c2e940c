-- What a tape writer hands on and names is what is written of its input: what is handed on, what is gathered and the frames of what is to be taken
-- are together what is written of what came and of whatever comes, and so are the numbers of the lines that say no message.
use Rattle.std.proofs.Common.{◌≡◌, ℕ, suc, ◌+◌, ◌<◌, ◌≤◌, Bool, true, false, cond, not, ◌&&◌, ◌||◌, ltb, List, [], ◌∷◌, ◌++◌, length, take, drop, sym, refl, ap, ◌∙◌, append_assoc, append-nil, arith, length-drop, drop_of_length-le, length-take-le, take_all, drop-drop, ltb-false, ltb-true}
use native.Mathlib.Decide.{dec_le}
use Rattle.lists.specs.Lists.{flat}
use Rattle.lists.proofs.Booleans.{and_left, and_right, none_right}
use Rattle.lists.proofs.Filters.{flat_append}
use Rattle.line_fields.specs.Fields.{line_length}
use Rattle.line_writer.specs.declared.Writer.{Writer}
use Rattle.line_writer.specs.Written.{lines_from, last_line, says, frame_of, name_of, numbered, frames_of, names_from, written, named, stop_at, line_at, comes, LineTaken, Flushed, pending, supplied, kept, Refilled}
use Rattle.line_writer.proofs.Laying.{gathered_bytes, gathered_fits}
use Rattle.line_writer.specs.Runs.{Holding, Fresh, arrived, naming, Runs, begins, flushes, refills, takes, Finished}
use Rattle.line_writer.proofs.Lines.{line_inside, first_line, no_line, none_in_front, last_line_lem, Same, long_lines}

-- ---- a line that is taken

module _ (piece : List ℕ) (s : Writer) (h : s.place ≤ length piece) (c : comes piece s ≡ true) where
  abbrev bytes : List ℕ
  bytes = drop s.place piece

  abbrev stop : ℕ
  stop = stop_at piece s.place

  -- where the next line stands
  abbrev next : ℕ
  next = cond (ltb stop (length piece)) (stop + 1) stop

  -- the line goes before those that come behind it
  record Goes (to : ℕ) : Type 0 where
    inside : to ≤ length piece
    lines : (more : List ℕ) → (s.ended ≡ true → more ≡ []) → lines_from [] (bytes ++ more) ≡ line_at piece s.place ∷ lines_from [] (drop to piece ++ more)

  by_test : (b : Bool) → ltb stop (length piece) ≡ b → b || (s.ended && ltb s.place (length piece)) ≡ true → Goes (cond b (stop + 1) stop)
  unfolding lines_from last_line
  by_test true e _ =
      let k : stop < length piece = ltb-true stop (length piece) e in
      let n : s.place + suc (line_length bytes) ≡ stop + 1 = omega arith in
      record {
        inside = omega arith;
        lines = λ more z. rw (← n, ← (drop-drop (suc (line_length bytes)) s.place piece)) (first_line [] bytes more (omega (arith, k, length-drop s.place piece)));
      }
  by_test false e t =
      let ended : s.ended ≡ true = and_left s.ended (ltb s.place (length piece)) t in
      let some : s.place < length piece = ltb-true s.place (length piece) (and_right s.ended (ltb s.place (length piece)) t) in
      let k : length piece ≤ stop = ltb-false stop (length piece) e in
      let all : line_length bytes ≡ length bytes = omega (arith, k, line_inside bytes, length-drop s.place piece) in
      let spent : drop stop piece ≡ [] = drop_of_length-le piece {i = stop} k in
      record {
        inside = omega (arith, all, length-drop s.place piece);
        lines = λ more z. rw (z ended, spent, take_all (line_length bytes) bytes (omega (arith, all))) (no_line [] bytes [] all ∙ last_line_lem bytes (omega (arith, some, length-drop s.place piece)));
      }

  goes : Goes next
  goes = by_test (ltb stop (length piece)) refl c

-- ---- what is kept

module _ (s : Writer) (text : List ℕ) (inside : s.place ≤ s.end) (within : s.end ≤ length text) where
  -- what is kept of a begun line comes to the same as the whole of it
  keeps : (more : List ℕ) → Same (lines_from [] (pending s text ++ more)) (lines_from [] (kept s text ++ more))
  keeps more = by_test (supplied s text) refl
    where
      p : List ℕ
      p = pending s text

      long : length (take s.end text) ≡ s.end
      long = length-take-le s.end text within

      by_long : line_length p ≡ length p → Dec (length p ≤ 68) → Same (lines_from [] (p ++ more)) (lines_from [] (take 68 p ++ more))
      by_long all (yes t) = rw (take_all 68 p t) (record { frames = refl; names = λ many. refl })
      by_long all (no t) =
          let k : length (take 68 p) ≡ 68 = length-take-le 68 p (omega (arith, t)) in
          rw (no_line [] p more all, no_line [] (take 68 p) more (none_in_front 68 p all)) (long_lines p (take 68 p) more (omega (arith, t)) (omega (arith, k)))

      by_test : (b : Bool) → supplied s text ≡ b → Same (lines_from [] (p ++ more)) (lines_from [] (cond b p (take 68 p) ++ more))
      by_test true e = record { frames = refl; names = λ many. refl }
      by_test false e =
          let t : s.end ≤ stop_at (take s.end text) s.place = ltb-false (stop_at (take s.end text) s.place) s.end (none_right s.ended (ltb (stop_at (take s.end text) s.place) s.end) e) in
          by_long (omega (arith, t, long, line_inside p, length-drop s.place (take s.end text))) (dec_le (length p) 68)

-- ---- calls

-- what stands behind a writer: what was handed on, what is gathered and the frames of what is not taken are what is written of what came, whatever
-- comes behind it; and the numbers alike
record Standing (came handed names : List ℕ) (h : Holding) : Type 0 where
  inside : h.writer.place ≤ h.writer.end
  within : h.writer.end ≤ length h.text
  fits : h.writer.used ≤ length h.out
  frames : (more : List ℕ) → (h.writer.ended ≡ true → more ≡ [])
      → written (came ++ more) ≡ handed ++ (take h.writer.used h.out ++ frames_of (lines_from [] (pending h.writer h.text ++ more)))
  numbers : (more : List ℕ) → (h.writer.ended ≡ true → more ≡ [])
      → named (came ++ more) ≡ names ++ names_from h.writer.lines (lines_from [] (pending h.writer h.text ++ more))

module _ {came handed names : List ℕ} {h : Holding} (st : Standing came handed names h) where
  abbrev gathered : List ℕ
  gathered = take h.writer.used h.out

  -- what is gathered is handed on
  flush_stands : {r : Writer} → Flushed h.writer r → Standing came (handed ++ gathered) names (record { writer = r; text = h.text; out = h.out })
  flush_stands f = record {
    inside = rw (f.place, f.end) st.inside;
    within = rw f.end st.within;
    fits = omega (arith, f.used);
    frames = λ more z.
        rw (f.used, f.place, f.end)
        (st.frames more (λ e. z (f.ended ∙ e)) ∙ sym (append_assoc handed gathered (frames_of (lines_from [] (pending h.writer h.text ++ more)))));
    numbers = λ more z. rw (f.lines, f.place, f.end) (st.numbers more (λ e. z (f.ended ∙ e)));
  }

  -- bytes come behind what is kept
  refill_stands : {r : Writer} {text' : List ℕ} (f : Refilled h.writer h.text r text')
      → Standing (came ++ f.came) handed names (record { writer = r; text = text'; out = h.out })
  refill_stands {r} {text'} f = record {
    inside = f.inside;
    within = omega (arith, f.within, f.long);
    fits = rw f.used st.fits;
    frames = λ more z.
        rw (f.used, f.kept, append_assoc came f.came more, append_assoc (kept h.writer h.text) f.came more)
        (st.frames (f.came ++ more) (nothing more z)
        ∙ ap (λ (l : List ℕ). handed ++ (gathered ++ l)) (keeps h.writer h.text st.inside st.within (f.came ++ more)).frames);
    numbers = λ more z.
        rw (f.lines, f.kept, append_assoc came f.came more, append_assoc (kept h.writer h.text) f.came more)
        (st.numbers (f.came ++ more) (nothing more z)
        ∙ ap (λ (l : List ℕ). names ++ l) ((keeps h.writer h.text st.inside st.within (f.came ++ more)).names h.writer.lines));
  }
    where
      -- once the input has ended nothing comes
      nothing : (more : List ℕ) → (r.ended ≡ true → more ≡ []) → h.writer.ended ≡ true → f.came ++ more ≡ []
      nothing more z e = let q = f.quiet (rw e) in rw q.0 (z (q.1 ∙ e))

  -- a line is taken
  take_stands : {r : Writer} {out' : List ℕ} → comes (arrived h) h.writer ≡ true → LineTaken (arrived h) h.writer h.out r out'
      → Standing came handed (names ++ naming r) (record { writer = r; text = h.text; out = out' })
  unfolding frames_of names_from name_of
  take_stands {r} c g = record {
    inside = omega (arith, w.inside, long, g.place, g.same.end);
    within = rw g.same.end st.within;
    fits = gathered_fits g.gathered st.fits;
    frames = λ more z.
        rw (g.same.end, g.place, gathered_bytes g.gathered st.fits, append_assoc gathered (frame_of line) (frames_of (lines_from [] (drop to piece ++ more))))
        (st.frames more (λ e. z (g.same.ended ∙ e)) ∙ ap (λ (ls : List (List ℕ)). handed ++ (gathered ++ frames_of ls)) (w.lines more (λ e. z (g.same.ended ∙ e))));
    numbers = λ more z.
        rw (g.same.end, g.place, g.lines, g.unsaid, flipped (says line) (numbered h.writer.lines ∷ []), append_assoc names (name_of (numbered h.writer.lines) line) (names_from (numbered h.writer.lines) (lines_from [] (drop to piece ++ more))))
        (st.numbers more (λ e. z (g.same.ended ∙ e)) ∙ ap (λ (ls : List (List ℕ)). names ++ names_from h.writer.lines ls) (w.lines more (λ e. z (g.same.ended ∙ e))));
  }
    where
      piece : List ℕ
      piece = arrived h

      line : List ℕ
      line = line_at piece h.writer.place

      to : ℕ
      to = next piece h.writer (omega (arith, length-take-le h.writer.end h.text st.within, st.inside)) c

      long : length piece ≡ h.writer.end
      long = length-take-le h.writer.end h.text st.within

      w : Goes piece h.writer (omega (arith, length-take-le h.writer.end h.text st.within, st.inside)) c to
      w = goes piece h.writer (omega (arith, length-take-le h.writer.end h.text st.within, st.inside)) c

      flipped : (b : Bool) (xs : List ℕ) → cond (not b) xs [] ≡ cond b [] xs
      flipped true xs = refl
      flipped false xs = refl

-- ---- runs

-- a list behind others
flat_last : (lists : List (List ℕ)) (last : List ℕ) → flat (lists ++ (last ∷ [])) ≡ flat lists ++ last
unfolding flat
flat_last lists last = flat_append lists (last ∷ []) ∙ rw append-nil

-- before the first call
begin_stands : (first : Holding) → Fresh first → Standing (flat []) (flat []) [] first
unfolding flat written named
begin_stands first f = record {
  inside = omega (arith, f.place);
  within = omega (arith, f.end);
  fits = omega (arith, f.used);
  frames = λ more z. rw (f.used, f.place, f.end);
  numbers = λ more z. rw (f.lines, f.place, f.end);
}

-- and behind each
runs_stand : {first h : Holding} {came handed : List (List ℕ)} {names : List ℕ} → Fresh first → Runs first h came handed names → Standing (flat came) (flat handed) names h
runs_stand f begins = begin_stands _ f
runs_stand f (flushes {h = h} {handed = handed} r g o) = rw (flat_last handed (take h.writer.used h.out)) (flush_stands (runs_stand f r) g)
runs_stand f (refills {came = came} r g) = rw (flat_last came g.came) (refill_stands (runs_stand f r) g)
runs_stand f (takes r c g) = take_stands (runs_stand f r) c g

-- of a finished run the bytes that were handed on, one behind the other, are what is written of the pieces that came, one behind the other, and the
-- numbers that were named are those of its lines that say no message
pub writer_writes : {first h : Holding} {came handed : List (List ℕ)} {names : List ℕ} → Fresh first → Runs first h came handed names → Finished h
    → (flat handed ≡ written (flat came)) × (names ≡ named (flat came))
unfolding lines_from last_line frames_of names_from
writer_writes {h = h} {came = came} {handed = handed} {names = names} f r e =
    let st = runs_stand f r in
    let long : length (take h.writer.end h.text) ≡ h.writer.end = length-take-le h.writer.end h.text st.within in
    let spent : drop h.writer.place (take h.writer.end h.text) ≡ [] = drop_of_length-le (take h.writer.end h.text) {i = h.writer.place} (omega (arith, long, e.taken)) in
    let frames : written (flat came ++ []) ≡ flat handed = st.frames [] (λ _. refl) ∙ rw (e.used, spent, append-nil) in
    let numbers : named (flat came ++ []) ≡ names = st.numbers [] (λ _. refl) ∙ rw (spent, append-nil) in
    (sym (rw append-nil at frames), sym (rw append-nil at numbers))
