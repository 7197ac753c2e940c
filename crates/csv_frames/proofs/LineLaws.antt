-- The line at a place: where it ends, and what is read of it.
use mathlib.Core.Path.{◌≡◌, refl, sym, ap, ◌∙◌}
use mathlib.Core.Logic.{◌⊎◌, inl, inr}
use Prim.Native.Nat.{ℕ, suc, ◌+◌, ◌-◌, ◌≤◌, ◌<◌}
use native.Mathlib.Omega.{arith}
use mathlib.Core.Bool.{Bool, true, false, ◌&&◌, ◌||◌, not, cond}
use mathlib.Core.List.{List, [], ◌∷◌, ◌++◌, append-nil}
use lib.Dec.{eqb, ltb}
use Rattle.std.proofs.Common.{take_all}
use lib.ListN.{length, get_or, take, drop, length-drop, length-append, drop_of_length-le}
use lib.Seq.{drop-drop, drop-append_seam}
use borrow.Author.Tests.{lt-ltb, le-ltb, ltb-false, ne_eqb}
use Rattle.lists.proofs.Booleans.{either, clash, both, and_false}
use Rattle.line_fields.specs.declared.Fields.{Fields}
use Rattle.line_fields.specs.declared.Scanned.{Scanned}
use Rattle.line_fields.specs.Fields.{one_field, fields_from, field_bytes, fields_at, in_fields, numbers_if}
use Rattle.line_fields.proofs.Counted.{counted, uncounted}
use Rattle.std.specs.Prelude.{Some, None}
use Rattle.csv_frames.specs.Lines.{lines, line_fields, fits}
use Rattle.csv_frames.proofs.Cutting.{plain, Stop, end, foreign, fronted, front_plain, lines_front, lines_whole, lines_ended, line_fields_lem, foreign_misfit, lines_begun, returns, returned}
use Rattle.csv_frames.specs.declared.Line.{Line}
use Rattle.csv_frames.specs.Reading.{line_ends, behind_end, LineRead, LineAt}

-- whether a line ends in front of bytes
pub ends_by : (rest : List ℕ) → line_ends rest ≡ eqb (length rest) 0 || (ltb 1 (length rest) && (eqb (get_or rest 0 0) 13 && eqb (get_or rest 1 0) 10))
unfolding line_ends
ends_by [] = refl
ends_by (byte ∷ []) = refl
ends_by (byte ∷ next ∷ bytes) = rw (lt-ltb 1 (suc (suc (length bytes))) (omega arith), ne_eqb (suc (suc (length bytes))) 0 (λ z. omega arith))

-- the bytes from a place on are all that are left
rest_is : (file : List ℕ) (i : ℕ) → take (length file - i) (drop i file) ≡ drop i file
rest_is file i = take_all (length file - i) (drop i file) (omega (arith, length-drop i file))

-- the line at a place, which is read if this is true
pub record Reading (d : ℕ) (file : List ℕ) (place : ℕ) (b : Bool) (l : Line) : Type 0 where
  pub line : List ℕ
  pub others : List (List ℕ)
  pub cut : lines (drop place file) ≡ line ∷ others
  pub fitting : b ≡ fits d line
  pub read : b ≡ true → LineRead file place line others l

line_some : {d : ℕ} {file : List ℕ} {place : ℕ} {b : Bool} {l : Line} → Reading d file place b l → b ≡ true → LineAt d file place (Some l)
line_some v t = record { line = v.line; others = v.others; cut = v.cut; fitting = sym t ∙ v.fitting; read = v.read t }

line_none : {d : ℕ} {file : List ℕ} {place : ℕ} {b : Bool} {l : Line} → Reading d file place b l → b ≡ false → LineAt d file place None
line_none v t = record { line = v.line; others = v.others; cut = v.cut; fitting = sym t ∙ v.fitting; read = tt }

-- ---- what is read of a line

true_kept : (b : Bool) → b && true ≡ b
true_kept true = refl
true_kept false = refl

-- CR LF stands at the front of bytes that are not empty, exactly where a line ends
ends_returns : (byte : ℕ) (bytes : List ℕ) → line_ends (byte ∷ bytes) ≡ returns (byte ∷ bytes)
unfolding line_ends returns
ends_returns byte [] = refl
ends_returns byte (next ∷ bytes) = refl

-- bytes of fields alone are one line
lines_alone : (front : List ℕ) → 1 ≤ length front → plain front ≡ true → lines front ≡ front ∷ []
lines_alone [] h p = absurd (omega arith)
lines_alone (byte ∷ front) h p = lines_whole byte front p

module _ (d : ℕ) (file : List ℕ) (place : ℕ) (h : place < length file) where
  abbrev bytes : List ℕ
  bytes = drop place file

  abbrev front : List ℕ
  front = field_bytes 44 bytes

  abbrev stopped : ℕ
  stopped = place + length front

  abbrev rest : List ℕ
  rest = (fronted bytes).rest

  -- whether the fields of a line are d numbers
  abbrev counts : Fields → Bool
  counts f = (f.valid && not f.empty) && eqb f.count d

  rest_left : drop stopped file ≡ rest
  rest_left =
      sym (drop-drop (length front) place file) ∙ ap (drop (length front)) (fronted bytes).split ∙ drop-append_seam front rest

  rest_long : length rest + stopped ≡ length file
  rest_long =
      let split : length bytes ≡ length front + length rest = ap length (fronted bytes).split ∙ length-append front rest in
      omega (arith, length-drop place file)

  pub stop_inside : stopped ≤ length file
  stop_inside = omega (arith, rest_long)

  fits_front : counts (fields_from 44 one_field front) ≡ fits d front
  unfolding fits
  fits_front = rw (line_fields_lem front)

  module _ {b : Bool} {r : Line} (e : b ≡ counts (fields_from 44 one_field front) && line_ends (drop stopped file)) (n : r.numbers ≡ (fields_from 44 one_field front).numbers) (x : r.next ≡ behind_end file stopped) where
    same_fields : r.numbers ≡ (line_fields front).numbers
    same_fields = n ∙ ap (λ (f : Fields). f.numbers) (sym (line_fields_lem front))

    next_inside : r.next ≤ length file
    unfolding behind_end
    next_inside = rw x (go (either (ltb (length file - stopped) 2)))
      where
        go : (ltb (length file - stopped) 2 ≡ true) ⊎ (ltb (length file - stopped) 2 ≡ false) → cond (ltb (length file - stopped) 2) (length file) (stopped + 2) ≤ length file
        go (inl t) = rw t (omega arith)
        go (inr t) = rw t (omega (arith, ltb-false (length file - stopped) 2 t))

    -- nothing is left behind the fields
    at_end_lem : rest ≡ [] → Reading d file place b r
    unfolding line_ends behind_end lines
    at_end_lem q =
        let none : length rest ≡ 0 = ap length q in
        let whole : bytes ≡ front = (fronted bytes).split ∙ ap (λ (l : List ℕ). front ++ l) q ∙ append-nil front in
        let long : length bytes ≡ length front = ap length whole in
        let last : r.next ≡ length file = x ∙ rw (lt-ltb (length file - stopped) 2 (omega (arith, rest_long))) in
        record {
          line = front;
          others = [];
          cut = ap lines whole ∙ lines_alone front (omega (arith, length-drop place file)) (front_plain bytes);
          fitting = e ∙ rw (rest_left ∙ q) (true_kept (counts (fields_from 44 one_field front))) ∙ fits_front;
          read = λ t. record {
            numbers = same_fields;
            next = ap (λ (i : ℕ). lines (drop i file)) last ∙ ap lines (drop_of_length-le file {i = length file} (omega arith));
            onward = omega (arith, last);
            inside = next_inside;
          };
        }

    -- CR LF stands behind the fields
    at_return : returns rest ≡ true → Reading d file place b r
    unfolding behind_end line_ends
    at_return t =
        let back = returned rest t in
        let two : length rest ≡ 2 + length back.rest = ap length back.same ∙ omega arith in
        let split : bytes ≡ front ++ (13 ∷ 10 ∷ back.rest) = (fronted bytes).split ∙ ap (λ (l : List ℕ). front ++ l) back.same in
        let last : r.next ≡ stopped + 2 = x ∙ rw (le-ltb (length file - stopped) 2 (omega (arith, rest_long))) in
        let left : drop (stopped + 2) file ≡ back.rest = sym (drop-drop 2 stopped file) ∙ ap (drop 2) (rest_left ∙ back.same) in
        record {
          line = front;
          others = lines back.rest;
          cut = ap lines split ∙ lines_ended front back.rest (front_plain bytes);
          fitting = e ∙ ap (λ (l : List ℕ). counts (fields_from 44 one_field front) && line_ends l) (rest_left ∙ back.same) ∙ returned_ends back.rest ∙ fits_front;
          read = λ t. record {
            numbers = same_fields;
            next = ap (λ (i : ℕ). lines (drop i file)) last ∙ ap lines left;
            onward = omega (arith, last);
            inside = next_inside;
          };
        }
      where
        returned_ends : (l : List ℕ) → counts (fields_from 44 one_field front) && line_ends (13 ∷ 10 ∷ l) ≡ counts (fields_from 44 one_field front)
        returned_ends l = true_kept (counts (fields_from 44 one_field front))

    -- another byte stands behind the fields
    at_foreign : (byte : ℕ) (others : List ℕ) → rest ≡ byte ∷ others → in_fields 44 byte ≡ false → returns rest ≡ false → Reading d file place b r
    at_foreign byte others q i t =
        let here : returns (byte ∷ others) ≡ false = rw (← q) t in
        let begun = lines_begun byte others here in
        let wrong : b ≡ false =
        e ∙ ap (λ (l : List ℕ). counts (fields_from 44 one_field front) && line_ends l) (rest_left ∙ q)
        ∙ ap (λ (z : Bool). counts (fields_from 44 one_field front) && z) (ends_returns byte others ∙ here)
        ∙ and_false (counts (fields_from 44 one_field front)) in
        record {
          line = front ++ (byte ∷ begun.line);
          others = begun.behind;
          cut =
              ap lines ((fronted bytes).split ∙ ap (λ (l : List ℕ). front ++ l) q)
              ∙ lines_front front (byte ∷ others) (front_plain bytes) begun.same;
          fitting = wrong ∙ sym (foreign_misfit d front byte begun.line i);
          read = λ u. absurd (clash b u wrong);
        }

    -- the line that was read
    line_law : Reading d file place b r
    line_law = go (fronted bytes).stop (either (returns rest))
      where
        go : Stop rest → (returns rest ≡ true) ⊎ (returns rest ≡ false) → Reading d file place b r
        go (end q) t = at_end_lem q
        go (foreign byte others q i) (inl t) = at_return t
        go (foreign byte others q i) (inr t) = at_foreign byte others q i t

  -- what is scanned from the place on
  module _ {s : Scanned} (e : s ≡ fields_at 44 true file place) where
    line_read : {ends : Bool} {next : ℕ} → ends ≡ line_ends (drop s.end file) → next ≡ behind_end file s.end
        → Reading d file place (counts s.fields && ends) (record { numbers = s.fields.numbers; next = next })
    unfolding fields_at
    line_read b x = line_law (rw (b, e)) (rw e) (rw (x, e))

    -- a line that fits
    pub line_fits : {numbers : List ℕ} {next : ℕ} → Some numbers ≡ numbers_if s.fields d → true ≡ line_ends (take (length file - s.end) (drop s.end file)) → next ≡ behind_end file s.end
        → LineAt d file place (Some (record { numbers = numbers; next = next }))
    line_fits n b x =
        let held = counted s.fields d n in
        rw held.1 (line_some (line_read (rw rest_is at b) x) (both (counts s.fields) true held.0 refl))

    -- fields that are not d numbers
    pub line_other : None ≡ numbers_if s.fields d → LineAt d file place None
    line_other n = line_none (line_read refl refl) (rw (uncounted s.fields d n))

    -- bytes behind the fields
    pub line_long : false ≡ line_ends (take (length file - s.end) (drop s.end file)) → LineAt d file place None
    line_long b = line_none (line_read (rw rest_is at b) refl) (and_false (counts s.fields))

    pub scan_inside : s.end ≤ length file
    unfolding fields_at
    scan_inside = rw e stop_inside
