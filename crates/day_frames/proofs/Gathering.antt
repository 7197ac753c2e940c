-- Laws of the frames of a day taken one after the other, of a quote's columns stored, and of the answers in their order.
use mathlib.Core.Path.{◌≡◌, refl, sym, ap, ◌∙◌}
use Prim.Native.Nat.{ℕ, zero, suc, ◌+◌, ◌-◌, ◌*◌, ◌≤◌}
use native.Mathlib.Nat.{le_refl, le_antisymm}
use native.Mathlib.Numerals.{add-one}
use native.Mathlib.Omega.{arith}
use mathlib.Core.Bool.{Bool, true, false, not, cond}
use mathlib.Core.List.{List, [], ◌∷◌}
use lib.Dec.{ltb, eqb}
use lib.ListN.{length, take, drop, length-append, length-drop}
use lib.Seq.{take_at}
use borrow.Author.Tests.{ltb-false, ne_eqb}
use Rattle.frames.specs.declared.Message.{Message}
use Rattle.frames.specs.declared.Message.TheVariants.{Quote, Sized, Change, Pair, Bare, Position, Open, EndOfTape, Refused}
use Rattle.frames.specs.declared.Read.{Read}
use Rattle.frames.specs.Frames.{Saying, told, ended, refused, saying, Reading, reading, read_at}
use Rattle.refusals.specs.declared.Refusal.{Refusal}
use Rattle.std.specs.Prelude.{Result, Ok, Err}
use Rattle.refusals.specs.Refusals.{number}
use Rattle.refusals.proofs.Numbers.{zero_passed, number_above, accepted_granted}
use Rattle.text.specs.Text.{line, Laid}
use Rattle.lists.specs.Lists.{laid}
use Rattle.day_skyline.specs.Sheet.{longest_day, columns_hold, sheet_of, sheet_answer, sheet_count, Sheeted}
use Rattle.day_frames.specs.Gather.{State, none, over_with, with_quote, after_message, after_saying, stored, gathered_after, cells_after, Stepped, gathered_in, cells_in, Gathers, early_answer, day_answer, line_by, line_of, day_line}

-- ---- a frame more

-- what is said of a place and its message leave the same
pub said_message : (d : ℕ) (m : Message) (next : ℕ) (g : State) → after_saying d (saying m) next g ≡ after_message d m next g
unfolding saying
said_message d (Quote k) next g = refl
said_message d (Sized k n) next g = refl
said_message d (Change k n p) next g = refl
said_message d (Pair k n1 n2) next g = refl
said_message d (Bare k) next g = refl
said_message d (Position k p) next g = refl
said_message d (Open e N directions) next g = refl
said_message d EndOfTape next g = refl
said_message d (Refused k) next g = refl

module _ (d : ℕ) (tape : List ℕ) (g : State) (cells : List ℕ) where
  pub stays_over : g.over ≡ true → Stepped d tape g cells g cells
  unfolding gathered_after cells_after
  stays_over e = record { gathered = rw e; table = rw e }

  pub steps : g.over ≡ false → (r : Read) → reading r ≡ read_at tape g.place → {after : State} → after ≡ after_message d r.message r.next g
      → {left : List ℕ} → left ≡ stored d r.columns (g.count * d) cells → Stepped d tape g cells after left
  unfolding gathered_after cells_after reading
  steps e r f a l =
      let R = read_at tape g.place in
      record {
        gathered =
            a ∙ sym (said_message d r.message r.next g) ∙ ap (λ (x : Reading). after_saying d x.says x.next g) f
            ∙ sym (ap (λ (b : Bool). cond b g (after_saying d R.says R.next g)) e);
        table =
            l ∙ ap (λ (x : Reading). stored d x.columns (g.count * d) cells) f
            ∙ sym (ap (λ (b : Bool). cond b cells (stored d R.columns (g.count * d) cells)) e);
      }

-- never more quotes than frames
count_message : (d : ℕ) (m : Message) (next : ℕ) (g : State) → (after_message d m next g).count ≤ g.count + 1
unfolding with_quote over_with
count_message d (Quote k) next g = le_refl (g.count + 1)
count_message d (Sized k n) next g = omega arith
count_message d (Change k n p) next g = omega arith
count_message d (Pair k n1 n2) next g = omega arith
count_message d (Bare k) next g = omega arith
count_message d (Position k p) next g = omega arith
count_message d (Open e N directions) next g = omega arith
count_message d EndOfTape next g = omega arith
count_message d (Refused k) next g = omega arith

count_saying : (d : ℕ) (s : Saying) (next : ℕ) (g : State) → (after_saying d s next g).count ≤ g.count + 1
unfolding over_with
count_saying d (told m) next g = count_message d m next g
count_saying d ended next g = omega arith
count_saying d (refused k) next g = omega arith

pub count_bounded : (k d : ℕ) (tape : List ℕ) → (gathered_in k d tape).count ≤ k
unfolding gathered_in gathered_after
count_bounded zero d tape = le_refl 0
count_bounded (suc k) d tape = go (gathered_in k d tape) (gathered_in k d tape).over (count_bounded k d tape)
  where
    go : (g : State) (b : Bool) → g.count ≤ k → (cond b g (after_saying d (read_at tape g.place).says (read_at tape g.place).next g)).count ≤ suc k
    go g true h = omega arith
    go g false h = omega (arith, count_saying d (read_at tape g.place).says (read_at tape g.place).next g)

-- i frames are taken
pub record Gathering (d : ℕ) (tape entry : List ℕ) (g : State) (cells : List ℕ) (i : ℕ) : Type 0 where
  pub within : i ≤ 4097
  pub long : length cells ≡ length entry
  pub gathered : g ≡ gathered_in i d tape
  pub table : cells ≡ cells_in i d tape entry

module _ (d : ℕ) (tape entry : List ℕ) where
  pub gathering_start : {g : State} → g ≡ none → Gathering d tape entry g entry 0
  unfolding gathered_in cells_in
  gathering_start e = record { within = omega arith; long = refl; gathered = e; table = refl }

  module _ {g : State} {cells : List ℕ} {i : ℕ} (s : Gathering d tape entry g cells i) where
    pub few_quotes : g.count ≤ i
    few_quotes = rw s.gathered (count_bounded i d tape)

    pub gathering_more : i ≤ 4096 → {r : State} {after : List ℕ} → length after ≡ length cells → Stepped d tape g cells r after
        → Gathering d tape entry r after (i + 1)
    unfolding gathered_in cells_in
    gathering_more h e t = record {
      within = omega arith;
      long = e ∙ s.long;
      gathered = rw add-one (t.gathered ∙ ap (gathered_after d tape) s.gathered);
      table = rw add-one (t.table ∙ rw (s.gathered, s.table));
    }

    pub gathering_end : 4097 ≤ i → Gathers d tape entry g cells
    gathering_end h = let e : i ≡ 4097 = le_antisymm s.within h in record { gathered = rw (← e) s.gathered; table = rw (← e) s.table }

-- ---- the line of the day

-- a sheet that is accepted: its positions fit, and are written
pub record Accepts (d directions count : ℕ) (columns before : List ℕ) (n : ℕ) (after : List ℕ) : Type 0 where
  pub answer_is : sheet_answer d directions count columns (length before) ≡ 0
  pub counted : n ≡ length (sheet_of d directions count columns)
  pub fits : length (sheet_of d directions count columns) ≤ length before
  pub written : take n after ≡ sheet_of d directions count columns

pub accepts : (d directions count : ℕ) (columns before : List ℕ) {n : ℕ} {after : List ℕ} → Sheeted d directions count columns before (Ok n) after
    → Accepts d directions count columns before n after
unfolding sheet_answer laid
accepts d directions count columns before s =
    let zero_is : sheet_answer d directions count columns (length before) ≡ 0 = sym s.answered in
    let one = zero_passed (not (columns_hold d directions)) 2 _ zero_is in
    let two = zero_passed (ltb longest_day count) 16 _ one.1 in
    let three = zero_passed (ltb (length columns) (d * count)) 10 _ two.1 in
    let four = zero_passed (ltb (length before) (length (sheet_of d directions count columns))) 12 _ three.1 in
    let counts = s.counted ∙ accepted_granted (sheet_answer d directions count columns (length before)) zero_is (length (sheet_of d directions count columns)) 0 in
    let leaves = s.out ∙ accepted_granted (sheet_answer d directions count columns (length before)) zero_is (laid (sheet_of d directions count columns) before) before in
    record {
      answer_is = zero_is;
      counted = counts;
      fits = ltb-false (length before) (length (sheet_of d directions count columns)) four.0;
      written = rw (counts, leaves) (take_at (sheet_of d directions count columns) (drop (length (sheet_of d directions count columns)) before)
          (length (sheet_of d directions count columns)) refl);
    }

-- so no more are counted than there is room for
pub sheet_fits : (d directions count : ℕ) (columns before : List ℕ) (r : Result ℕ Refusal) {after : List ℕ} → Sheeted d directions count columns before r after
    → sheet_count r ≤ length before
sheet_fits d directions count columns before (Ok n) s = let a = accepts d directions count columns before s in omega (arith, a.counted, a.fits)
sheet_fits d directions count columns before (Err k) s = omega arith

-- what was laid fits the text, whose length it left
pub laid_fits : (bytes before : List ℕ) {count : ℕ} {after : List ℕ} → Laid bytes before count after → length after ≡ length before → count ≤ length after
unfolding laid
laid_fits bytes before {count} {after} t e =
    let k : length after ≡ length bytes + (length before - length bytes) = rw (t.text, length-append, length-drop) in
    omega (arith, t.counted)

line_by_lem : (n : ℕ) (positions : List ℕ) → 1 ≤ n → line_by n positions ≡ line 82 (n ∷ [])
unfolding line_by
line_by_lem zero positions h = absurd (omega arith)
line_by_lem (suc n) positions h = refl

module _ (d directions : ℕ) (tape cells out : List ℕ) {g : State} {table : List ℕ} (t : Gathers d tape cells g table) where
  -- the day's answer, by what was gathered
  abbrev answer : ℕ
  answer = day_answer d directions g table (length out)

  line_is : day_line d directions tape cells out ≡ line_by answer (sheet_of d directions g.count table)
  unfolding day_line
  line_is = rw (t.gathered, t.table)

  -- a refusal before the sheet
  pub early_line : (k : Refusal) (after : List ℕ) → number k ≡ early_answer d directions g → line_of (Err k) after ≡ day_line d directions tape cells out
  unfolding day_answer
  early_line k after e =
      let above = number_above k in
      let n : eqb (number k) 0 ≡ false = ne_eqb (number k) 0 (λ z. omega arith) in
      sym (line_is ∙ rw (← e, n) (line_by_lem (number k) (sheet_of d directions g.count table) above))

  -- the sheet, or its own refusal
  pub sheet_line : 0 ≡ early_answer d directions g → (r : Result ℕ Refusal) {after : List ℕ} → Sheeted d directions g.count table out r after
      → line_of r after ≡ day_line d directions tape cells out
  unfolding day_answer line_by
  sheet_line passed (Ok n) s =
      let a = accepts d directions g.count table out s in
      let z : answer ≡ 0 = rw (← passed) a.answer_is in
      ap (line 68) a.written ∙ sym (line_is ∙ rw z)
  sheet_line passed (Err k) s =
      let n : answer ≡ number k = rw (← passed) (sym s.answered) in
      sym (line_is ∙ rw n (line_by_lem (number k) (sheet_of d directions g.count table) (number_above k)))
