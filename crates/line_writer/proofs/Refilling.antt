-- What a writer has of its input once it read on: the begun line stands at the front, and what came behind it.
use Rattle.std.proofs.Common.{◌≡◌, ℕ, min, ◌+◌, ◌-◌, ◌≤◌, Bool, true, false, not, ◌||◌, ltb, eqb, List, [], ◌++◌, length, take, drop, sym, refl, ap, ◌∙◌, append-nil, arith, length-drop, length-take, length-take-le, take_all, take-take, take_at, take-add, drop_at}
use native.Mathlib.Decide.{dec_le}
use lib.Seq.{take-append-add, take-append-le}
use Rattle.std.proofs.lemmas.Bool.Decides.{nat_tests}
use borrow.Rule.Slice.PartMut.{mid_of, put_mid, same_len_mid}
use Rattle.lists.specs.Lists.{laid}
use Rattle.lists.proofs.Booleans.{clash}
use Rattle.lists.proofs.Writing.{length_laid}
use Rattle.line_writer.specs.declared.Writer.{Writer}
use Rattle.line_writer.specs.Written.{stop_at, pending, supplied, kept, Refilled}

-- none came
none_came : (count : ℕ) → eqb count 0 ≡ not (ltb 0 count)
none_came count = grind (arith, nat_tests)

module _ (s : Writer) (text : List ℕ) (h : (s.place ≤ s.end) × (s.end ≤ length text)) where
  -- how many bytes are not taken
  abbrev left : ℕ
  left = s.end - s.place

  pending_is : pending s text ≡ take left (drop s.place text)
  pending_is =
      let e : s.place + left ≡ s.end = omega arith in
      ap (λ (n : ℕ). drop s.place (take n text)) (sym e) ∙ ap (drop s.place) (take-add s.place left text)
      ∙ drop_at (take s.place text) (take left (drop s.place text)) s.place (length-take-le s.place text (omega arith))

  -- by the test that the code makes
  tested : {whole : ℕ} {result : Bool} → whole ≡ stop_at (take s.end text) s.place → s.ended || ltb whole s.end ≡ result → supplied s text ≡ result
  tested r e = rw r at e

  -- what is kept is what was not taken, if nothing is read
  pub quiet_kept : {whole : ℕ} → whole ≡ stop_at (take s.end text) s.place → s.ended || ltb whole s.end ≡ true → pending s text ≡ kept s text ++ []
  quiet_kept r e = rw (tested r e) (sym (append-nil (pending s text)))

  -- nothing is read
  pub refill_quiet : {whole : ℕ} → whole ≡ stop_at (take s.end text) s.place → s.ended || ltb whole s.end ≡ true → Refilled s text s text
  refill_quiet r e = record {
    came = [];
    kept = quiet_kept r e;
    quiet = λ _. (refl, refl);
    read = λ f. absurd (clash (supplied s text) (tested r e) f);
    inside = h.0;
    within = h.1;
    long = refl;
    lines = refl;
    used = refl;
    over = refl;
  }

  -- what is kept of a begun line
  keeps : (stop : ℕ) → stop ≡ min s.end (s.place + 68) → take (stop - s.place) (drop s.place text) ≡ take 68 (pending s text)
  keeps stop e = go (dec_le 69 left)
    where
      go : Dec (69 ≤ left) → take (stop - s.place) (drop s.place text) ≡ take 68 (pending s text)
      go (yes t) =
          let k : stop ≡ s.place + 68 = omega (arith, e) in
          let n : stop - s.place ≡ 68 = omega (arith, k) in
          rw (n, pending_is, take-take 68 left (drop s.place text) (omega arith))
      go (no t) =
          let k : stop ≡ s.end = omega (arith, e, t) in
          let m : length (pending s text) ≤ 68 = simp (length-drop, length-take) (omega arith) in
          rw (k, ← pending_is) (sym (take_all 68 (pending s text) m))

  stop_range : (stop : ℕ) → stop ≡ min s.end (s.place + 68) → (s.place ≤ stop) × (stop ≤ s.end) × (stop - s.place ≤ 68)
  stop_range stop e = (omega (arith, e), omega (arith, e), omega (arith, e))

  -- what is kept stands in front of the bytes that were read
  pub read_kept : (stop : ℕ) (last : List ℕ) {whole : ℕ} {front : List ℕ} {count : ℕ} → whole ≡ stop_at (take s.end text) s.place → s.ended || ltb whole s.end ≡ false
      → stop ≡ min s.end (s.place + 68) → front ≡ laid (take (stop - s.place) (drop s.place text)) text → count ≤ length last
      → take ((stop - s.place) + count) (put_mid (stop - s.place) (length front - (stop - s.place)) front last) ≡ kept s text ++ take count last
  unfolding laid
  read_kept stop last {front = front} {count = count} r e p f c =
      let rest : ℕ = stop - s.place in
      let begun : List ℕ = take rest (drop s.place text) in
      let range = stop_range stop p in
      let long : length begun ≡ rest = length-take-le rest (drop s.place text) (omega (arith, length-drop s.place text, range)) in
      let stands : take rest front ≡ begun = ap (take rest) f ∙ take_at begun (drop (length begun) text) rest long in
      let post : List ℕ = drop (length front - rest) (drop rest front) in
      let read : take (rest + count) (begun ++ (last ++ post)) ≡ begun ++ take count last =
      ap (λ (n : ℕ). take (n + count) (begun ++ (last ++ post))) (sym long) ∙ take-append-add begun (last ++ post) count ∙ ap (λ (xs : List ℕ). begun ++ xs) (take-append-le count last post c) in
      let same : kept s text ≡ take 68 (pending s text) = rw (tested r e) in
      ap (λ (xs : List ℕ). take (rest + count) (xs ++ (last ++ post))) stands ∙ read ∙ ap (λ (xs : List ℕ). xs ++ take count last) (keeps stop p ∙ sym same)

  -- what is kept is moved to the front, and these bytes are read behind it
  pub refill_read : 69 ≤ length text → (stop : ℕ) (last : List ℕ) {whole : ℕ} {front : List ℕ} {count : ℕ} → whole ≡ stop_at (take s.end text) s.place → s.ended || ltb whole s.end ≡ false
      → stop ≡ min s.end (s.place + 68) → front ≡ laid (take (stop - s.place) (drop s.place text)) text
      → count ≤ length last → length last ≡ length (mid_of (stop - s.place) (length front - (stop - s.place)) front)
      → Refilled s text
      (record { lines = s.lines; place = 0; end = (stop - s.place) + count; used = s.used; unsaid = s.unsaid; ended = eqb count 0; over = s.over })
      (put_mid (stop - s.place) (length front - (stop - s.place)) front last)
  unfolding laid
  refill_read k stop last {front = front} {count = count} r e p f c l =
      let rest : ℕ = stop - s.place in
      let begun : List ℕ = take rest (drop s.place text) in
      let range = stop_range stop p in
      let long : length begun ≡ rest = length-take-le rest (drop s.place text) (omega (arith, length-drop s.place text, range)) in
      let whole : length front ≡ length text = ap length f ∙ length_laid begun text (omega (arith, long, range)) in
      let came : length (take count last) ≡ count = length-take-le count last c in
      record {
        came = take count last;
        kept = read_kept stop last r e p f c;
        quiet = λ t. absurd (clash (supplied s text) t (tested r e));
        read = λ _. rw came (none_came count);
        inside = omega arith;
        within = omega (arith, whole, c, range, simp (length-take, length-drop) at l);
        long = same_len_mid rest (length front - rest) front last l ∙ whole;
        lines = refl;
        used = refl;
        over = refl;
      }
