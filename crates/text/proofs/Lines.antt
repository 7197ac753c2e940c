-- Laws of fields and lines: each piece is laid behind the ones before.
use mathlib.Core.Path.{◌≡◌, refl, sym, ap, ◌∙◌}
use Prim.Native.Nat.{ℕ, zero, suc, ◌+◌, ◌-◌, ◌*◌, ◌≤◌, ◌<◌}
use native.Mathlib.Nat.{le_refl, le_antisymm, add_comm, zero-add}
use native.Mathlib.Omega.{arith}
use native.Mathlib.Numerals.{add-one}
use mathlib.Core.List.{List, [], ◌∷◌, ◌++◌, map, append-nil}
use lib.ListN.{length, get_or, set, length-append, length-set}
use lib.Seq.{take_all, drop-set-lt}
use borrow.Rule.Slice.PartMut.{mid_of, put_mid}
use Rattle.lists.specs.Lists.{flat, run, laid}
use Rattle.lists.proofs.Filters.{flat_append, map-append, map_map}
use Rattle.lists.proofs.Runs.{run_append}
use Rattle.lists.proofs.Cells.{cells_part}
use Rattle.lists.proofs.Laying.{Front, grows, front_none, front_store, front_more, Laying, laying_more}
use Rattle.text.specs.Text.{field, line, line2, Laid}
use Rattle.text.proofs.Digits.{at_most_ten}

-- a first byte
first_byte : (x : ℕ) (before : List ℕ) → 1 ≤ length before → Front (x ∷ []) before (set before 0 x) 1
first_byte x before h = front_store (front_none before) x h

-- a first byte under what is laid does not matter
over_first : (x : ℕ) (l before : List ℕ) → 1 ≤ length l → laid l (set before 0 x) ≡ laid l before
unfolding laid
over_first x l before h = ap (λ (r : List ℕ). l ++ r) (drop-set-lt (length l) before 0 x h)

-- a piece laid behind a first byte
pub behind_first : (x : ℕ) (ys : List ℕ) {before last : List ℕ} {used : ℕ} → length (x ∷ ys) ≤ length before
    → Laid ys (mid_of 1 (length (set before 0 x) - 1) (set before 0 x)) used last
    → Front (x ∷ ys) before (put_mid 1 (length (set before 0 x) - 1) (set before 0 x) last) (used + 1)
behind_first x ys {before} {used = used} h l = rw (add_comm used 1) (front_more (first_byte x before (omega arith)) ys h l.counted l.text)

-- what stands at the front was laid there
pub of_front : {bytes before after : List ℕ} {count : ℕ} → Front bytes before after count → Laid bytes before count after
of_front f = record { counted = f.place; text = f.cells }

-- a field has at most eleven bytes
short_field : (n : ℕ) → length (field n) ≤ 11
unfolding field
short_field n = omega (arith, at_most_ten n)

-- a field that was laid has at most eleven bytes
pub laid_field : (n : ℕ) {before after : List ℕ} {used : ℕ} → Laid (field n) before used after → used ≤ 11
laid_field n l = omega (arith, l.counted, short_field n)

-- ---- a line

module _ (letter : ℕ) (numbers : List ℕ) where
  -- a line without its newline, up to its first i numbers
  pub begun : ℕ → List ℕ
  begun i = letter ∷ flat (map (λ k. field (get_or numbers k 0)) (run 0 i))

  -- one more number lays one more field
  begun_more : (i : ℕ) → begun (i + 1) ≡ begun i ++ field (get_or numbers i 0)
  unfolding begun flat run
  begun_more i = rw (run_append, map-append, flat_append, append-nil, zero-add)

  begun_none : length (begun 0) ≡ 1
  unfolding begun flat run
  begun_none = refl

  -- how many bytes that is at most
  begun_short : (i : ℕ) → length (begun i) ≤ 1 + 11 * i
  begun_short zero = omega (arith, begun_none)
  begun_short (suc i) = rw (← (add-one i), begun_more i, length-append) (omega (arith, begun_short i, short_field (get_or numbers i 0)))

  -- the line is what its numbers lay, and the newline
  whole_line : line letter numbers ≡ begun (length numbers) ++ (10 ∷ [])
  unfolding line begun
  whole_line =
      let all : map (λ k. get_or numbers k 0) (run 0 (length numbers)) ≡ numbers = cells_part 0 numbers 0 (length numbers) (omega arith) ∙ take_all (length numbers) numbers (le_refl (length numbers)) in
      ap (λ (l : List (List ℕ)). letter ∷ (flat l ++ (10 ∷ []))) (ap (map field) (sym all) ∙ map_map field (λ k. get_or numbers k 0) (run 0 (length numbers)))

  -- how long a line is at most
  pub line_short : length (line letter numbers) ≤ 2 + 11 * length numbers
  line_short = rw (whole_line, length-append) (omega (arith, begun_short (length numbers)))

  -- the line after i numbers: what they lay stands at the front, and there is room for the rest
  pub record Line (before text : List ℕ) (at i : ℕ) : Type 0 where
    pub enough : 2 + 11 * length numbers ≤ length before
    pub fields : Laying begun (length numbers) before text at i

  -- the letter is stored
  pub line_start : (before : List ℕ) → 2 + 11 * length numbers ≤ length before → Line (set before 0 letter) (set before 0 letter) 1 0
  unfolding begun flat run
  line_start before h =
      let first = first_byte letter before (omega arith) in
      record {
        enough = rw length-set h;
        fields = record {
          within = omega arith;
          room = rw length-set (omega (arith, begun_short (length numbers)));
          front = record { long = refl; place = refl; cells = first.cells ∙ sym (over_first letter (letter ∷ []) before (le_refl 1)) };
        };
      }

  module _ {before text : List ℕ} {at i : ℕ} (v : Line before text at i) where
    -- there is room for the fields to come and the newline behind them
    pub line_room : at + 11 * (length numbers - i) + 1 ≤ length text
    line_room = omega (arith, begun_short i)

    -- one more field is laid into the rest of the text
    pub line_more : {last : List ℕ} {used : ℕ} → i < length numbers → Laid (field (get_or numbers i 0)) (mid_of at (length text - at) text) used last
        → Line before (put_mid at (length text - at) text last) (at + used) (i + 1)
    line_more h l =
        record {
          enough = v.enough;
          fields =
              laying_more v.fields h (field (get_or numbers i 0)) (begun_more i) (grows begun (λ k. field (get_or numbers k 0)) begun_more (i + 1) (length numbers) (omega arith))
              l.counted l.text;
        }

  -- the newline is stored: the whole line stands at the front of the text as it came
  pub line_finish : {before text : List ℕ} {at i : ℕ} → Line (set before 0 letter) text at i → length numbers ≤ i → Front (line letter numbers) before (set text at 10) (at + 1)
  line_finish {before} {text} {at} {i} v k =
      let e : length numbers ≡ i = le_antisymm k v.fields.within in
      let short : length (begun i ++ (10 ∷ [])) ≤ length (set before 0 letter) = rw length-append (omega (arith, begun_short i)) in
      let done : Front (line letter numbers) (set before 0 letter) (set text at 10) (at + 1) = rw (whole_line, e) (front_store v.fields.front 10 short) in
      record { long = done.long ∙ length-set before 0 letter; place = done.place; cells = done.cells ∙ over_first letter (line letter numbers) before (omega (arith, done.place)) }

-- how long a line of two letters is at most
pub line2_short : (first second : ℕ) (numbers : List ℕ) → length (line2 first second numbers) ≤ 3 + 11 * length numbers
unfolding line2
line2_short first second numbers = omega (arith, line_short second numbers)
