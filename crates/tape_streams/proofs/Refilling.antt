-- What a printer has of a tape once it read on: what is not played stands at the front, and what came behind it.
use mathlib.Core.Path.{◌≡◌, refl, sym, ap, ◌∙◌}
use Prim.Native.Nat.{ℕ, zero, suc, ◌+◌, ◌-◌, ◌≤◌, ◌<◌}
use native.Mathlib.Decide.{dec_le}
use native.Mathlib.Omega.{arith}
use mathlib.Core.Bool.{Bool, true, false, ◌||◌, not}
use mathlib.Core.List.{List, [], ◌++◌, append-nil}
use lib.Dec.{ltb, eqb}
use lib.ListN.{length, take, drop, length-take, length-drop}
use lib.Seq.{length-take-le, take_at, drop_at, take-add, take-append-add, take-append-le}
use borrow.Author.Tests.{ne_eqb, lt-ltb}
use borrow.Rule.Slice.PartMut.{mid_of, put_mid, same_len_mid}
use Rattle.lists.specs.Lists.{laid}
use Rattle.lists.proofs.Booleans.{clash, none_right}
use Rattle.lists.proofs.Writing.{length_laid}
use Rattle.tape_model.specs.Streams.{settled}
use Rattle.tape_model.proofs.Streaming.{settled_soon}
use Rattle.tape_playback.specs.declared.Playback.{Playback}
use Rattle.tape_streams.specs.Streams.{pending, supplied, Refilled}

-- nothing came where no byte did
none_came : (count : ℕ) → eqb count 0 ≡ not (ltb 0 count)
none_came zero = refl
none_came (suc n) = ne_eqb (suc n) 0 (λ z. omega (arith, z)) ∙ sym (ap not (lt-ltb 0 (suc n) (omega arith)))

module _ (s : Playback) (tape : List ℕ) (h : (s.place ≤ s.end) × (s.end ≤ length tape)) where
  -- how many bytes are not played
  abbrev rest : ℕ
  rest = s.end - s.place

  pending_is : pending s tape ≡ take rest (drop s.place tape)
  pending_is =
      let e : s.place + rest ≡ s.end = omega arith in
      ap (λ (n : ℕ). drop s.place (take n tape)) (sym e) ∙ ap (drop s.place) (take-add s.place rest tape)
      ∙ drop_at (take s.place tape) (take rest (drop s.place tape)) s.place (length-take-le s.place tape (omega arith))

  pending_long : length (pending s tape) ≡ rest
  pending_long = simp (length-drop, length-take) (omega arith)

  -- what is kept when the tape is read on is shorter than 28 bytes: in a longer buffer there is room to read into, so that nothing comes only where
  -- nothing more does
  pub reads_short : supplied s tape ≡ false → length (pending s tape) < 28
  reads_short e = go (dec_le (s.place + 28) (length (take s.end tape)))
    where
      go : Dec (s.place + 28 ≤ length (take s.end tape)) → length (pending s tape) < 28
      go (yes t) = absurd (clash (settled (take s.end tape) s.place) (settled_soon (take s.end tape) s.place t) (none_right (s.over || s.ended) (settled (take s.end tape) s.place) e))
      go (no n) = omega (arith, pending_long, n, length-take-le s.end tape h.1)

  -- by the test that the code makes
  tested : {test result : Bool} → test ≡ settled (take s.end tape) s.place → (s.over || s.ended) || test ≡ result → supplied s tape ≡ result
  tested r e = rw r at e

  -- nothing is read
  pub refill_quiet : {test : Bool} → test ≡ settled (take s.end tape) s.place → (s.over || s.ended) || test ≡ true → Refilled s tape s tape
  refill_quiet r e = record {
    came = [];
    kept = sym (append-nil (pending s tape));
    quiet = λ _. (refl, refl);
    read = λ f. absurd (clash (supplied s tape) (tested r e) f);
    inside = h.0;
    within = h.1;
    long = refl;
    used = refl;
    over = refl;
    book = record { head = refl; watches = refl; start = refl };
  }

  -- what is not played stands in front of the bytes that were read
  pub read_kept : (last : List ℕ) {front : List ℕ} {count : ℕ} → front ≡ laid (take rest (drop s.place tape)) tape → count ≤ length last
      → take (rest + count) (put_mid rest (length front - rest) front last) ≡ pending s tape ++ take count last
  unfolding laid
  read_kept last {front = front} {count = count} f c =
      let kept : List ℕ = take rest (drop s.place tape) in
      let long : length kept ≡ rest = sym (ap length pending_is) ∙ pending_long in
      let stands : take rest front ≡ kept = ap (take rest) f ∙ take_at kept (drop (length kept) tape) rest long in
      let post : List ℕ = drop (length front - rest) (drop rest front) in
      let read : take (rest + count) (kept ++ (last ++ post)) ≡ kept ++ take count last =
      ap (λ (n : ℕ). take (n + count) (kept ++ (last ++ post))) (sym long) ∙ take-append-add kept (last ++ post) count ∙ ap (λ (xs : List ℕ). kept ++ xs) (take-append-le count last post c) in
      ap (λ (xs : List ℕ). take (rest + count) (xs ++ (last ++ post))) stands ∙ read ∙ ap (λ (xs : List ℕ). xs ++ take count last) (sym pending_is)

  -- what is not played is moved to the front, and these bytes are read behind it
  pub refill_read : (last : List ℕ) {test : Bool} {front : List ℕ} {count : ℕ} → test ≡ settled (take s.end tape) s.place → (s.over || s.ended) || test ≡ false → front ≡ laid (take rest (drop s.place tape)) tape
      → count ≤ length last → length last ≡ length (mid_of rest (length front - rest) front)
      → Refilled s tape
      (record { head = s.head; watches = s.watches; start = s.start; place = 0; end = rest + count; used = s.used; ended = eqb count 0; over = s.over })
      (put_mid rest (length front - rest) front last)
  unfolding laid
  refill_read last {front = front} {count = count} r e f c l =
      let kept : List ℕ = take rest (drop s.place tape) in
      let long : length kept ≡ rest = sym (ap length pending_is) ∙ pending_long in
      let whole : length front ≡ length tape = ap length f ∙ length_laid kept tape (omega (arith, long)) in
      let came : length (take count last) ≡ count = length-take-le count last c in
      record {
        came = take count last;
        kept = read_kept last f c;
        quiet = λ t. absurd (clash (supplied s tape) t (tested r e));
        read = λ _. rw came (none_came count);
        inside = omega arith;
        within = omega (arith, whole, c, simp (length-take, length-drop) at l);
        long = same_len_mid rest (length front - rest) front last l ∙ whole;
        used = refl;
        over = refl;
        book = record { head = refl; watches = refl; start = refl };
      }
