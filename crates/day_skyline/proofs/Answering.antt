-- The answers of a sheet in their order, its positions written, and the sheet of the call.
use mathlib.Core.Path.{◌≡◌, refl, sym, ◌∙◌}
use Prim.Native.Nat.{ℕ, ◌+◌, ◌-◌, ◌*◌, ◌/◌, ◌^◌, ◌≤◌, ◌<◌}
use native.Mathlib.Nat.{mul-le-mul_right}
use native.Mathlib.Omega.{arith}
use mathlib.Core.Bool.{Bool, true, false, ◌&&◌, not}
use mathlib.Core.List.{List, [], ◌∷◌, ◌++◌}
use lib.Dec.{ltb, leb, eqb}
use lib.ListN.{length, take, drop, length-append}
use lib.Seq.{length-take-le, take-append-le}
use borrow.Author.Tests.{ltb-false, lt-ltb, le-ltb, leb-true, not-false}
use Rattle.lists.specs.Lists.{laid}
use Rattle.lists.proofs.Booleans.{and_left, and_right}
use Rattle.head.specs.declared.Head.{Head}
use Rattle.head.specs.Heads.{fresh_head, settings_hold}
use Rattle.refusals.specs.declared.Refusal.{Refusal}
use Rattle.refusals.specs.declared.Refusal.TheVariants.{ShortOutput}
use Rattle.std.specs.Prelude.{Result, Ok, Err}
use Rattle.refusals.specs.Refusals.{number, first_of, granted}
use Rattle.refusals.proofs.Numbers.{zero_passed, refused_granted, accepted_granted, first_of_append}
use Rattle.day_skyline.specs.declared.day.Day.{Day}
use Rattle.day_skyline.specs.Sheet.{longest_day, columns_hold, sheet_of, sheet_answer, Sheeted}
use Rattle.day_skyline.specs.Finding.{loan_answer, room_answer, Written, over_in, Part, sheet_from, AtFront}
use Rattle.day_skyline.proofs.Halving.{front_fits}

-- ---- 3, 17, 11

-- the settings of a head with N = 1 hold exactly if d and directions do
pub settled : (d directions : ℕ) {h : Head} {b : Bool} → h ≡ fresh_head d 1 directions → b ≡ settings_hold h.dimensions h.capacity h.directions
    → b ≡ columns_hold d directions
unfolding settings_hold columns_hold
settled d directions e f = f ∙ rw e (go (leb 1 d && leb d 6) (eqb (directions / 2 ^ d) 0))
  where
    go : (a b : Bool) → (a && true) && b ≡ a && b
    go true b = refl
    go false b = refl

columns_bounded : (d directions : ℕ) → columns_hold d directions ≡ true → d ≤ 6
unfolding columns_hold
columns_bounded d directions e =
    leb-true d 6 (and_right (leb 1 d) (leb d 6) (and_left (leb 1 d && leb d 6) (eqb (directions / 2 ^ d) 0) e))

-- the cells of the longest day can be counted
pub cells_small : (d directions count : ℕ) → columns_hold d directions ≡ true → count ≤ 4096 → d * count ≤ 24576
cells_small d directions count e h = omega (arith, mul-le-mul_right count (columns_bounded d directions e))

-- what passed is a day whose quotes are in the table
pub record Fits (d count cells : ℕ) : Type 0 where
  pub few_columns : d ≤ 6
  pub not_too_long : count ≤ 4096
  pub quotes_held : d * count ≤ cells

pub passed : (d directions count cells : ℕ) → loan_answer d directions count cells ≡ 0 → Fits d count cells
unfolding loan_answer
passed d directions count cells e =
    let one = zero_passed (not (columns_hold d directions)) 2 _ e in
    let two = zero_passed (ltb longest_day count) 16 _ one.1 in
    let three = zero_passed (ltb cells (d * count)) 10 _ two.1 in
    record {
      few_columns = columns_bounded d directions (not-false (columns_hold d directions) one.0);
      not_too_long = ltb-false 4096 count two.0;
      quotes_held = ltb-false cells (d * count) three.0;
    }

-- ---- the positions written

module _ (positions entry : List ℕ) where
  pub no_room : length entry < length positions → Written positions entry (Err ShortOutput) entry
  unfolding room_answer first_of granted
  no_room h = let e = lt-ltb (length entry) (length positions) h in record { answered = rw e; counted = rw e; out = rw e }

  pub written : length positions ≤ length entry → Written positions entry (Ok (length positions)) (laid positions entry)
  unfolding room_answer first_of granted
  written h = let e = le-ltb (length entry) (length positions) h in record { answered = rw e; counted = rw e; out = rw e }

-- ---- the call

module _ (d directions count : ℕ) (columns before : List ℕ) where
  abbrev loan : ℕ
  loan = loan_answer d directions count (length columns)

  abbrev sheet : List ℕ
  sheet = sheet_of d directions count columns

  -- the room is asked for where the rest passed
  answer_is : sheet_answer d directions count columns (length before) ≡ granted loan (room_answer (length before) sheet) loan
  unfolding sheet_answer loan_answer room_answer
  answer_is =
      first_of_append ((not (columns_hold d directions), 3) ∷ (ltb longest_day count, 17) ∷ (ltb (length columns) (d * count), 11) ∷ [])
      ((ltb (length before) (length sheet), 13) ∷ []) refl

  -- a sheet that is refused before it is found
  pub sheet_refused : (k : Refusal) → number k ≡ loan → Sheeted d directions count columns before (Err k) before
  sheet_refused k e =
      let s : sheet_answer d directions count columns (length before) ≡ number k
      = answer_is ∙ rw (← e) (refused_granted k (room_answer (length before) sheet) (number k)) in
      record {
        answered = sym s;
        counted = rw (s, refused_granted k (length sheet) 0);
        out = rw (s, refused_granted k (laid sheet before) before);
      }

  -- a sheet that is found
  pub sheet_found : loan ≡ 0 → {r : Result ℕ Refusal} {after : List ℕ} → Written sheet before r after → Sheeted d directions count columns before r after
  sheet_found n w =
      let s : sheet_answer d directions count columns (length before) ≡ room_answer (length before) sheet
      = answer_is ∙ accepted_granted loan n (room_answer (length before) sheet) loan in
      record {
        answered = w.answered ∙ rw s;
        counted = w.counted ∙ rw s;
        out = w.out ∙ rw s;
      }

-- ---- the sheet found in an array that has as many cells as the day has quotes, or more

module _ (day : Day) (cells : List ℕ) (room : day.count ≤ length cells) where
  pub lent_counted : length (take day.count cells) ≡ day.count
  lent_counted = length-take-le day.count cells room

  pub whole_day : Part day.count 1 (length (take day.count cells))
  whole_day = record { low = omega arith; high = omega (arith, lent_counted) }

  module _ {last : List ℕ} {kept : ℕ} (found : AtFront (sheet_from (over_in day) 1 (length (take day.count cells))) kept last) where
    -- the array when the lent cells are back
    abbrev back : List ℕ
    back = last ++ drop day.count cells

    pub kept_fits : kept ≤ length back
    kept_fits = omega (arith, front_fits _ kept last found, length-append last (drop day.count cells))

    pub kept_counted : length (take kept back) ≡ kept
    kept_counted = length-take-le kept back kept_fits

    kept_is : take kept back ≡ sheet_of day.dimensions day.directions day.count day.columns.now
    unfolding sheet_from over_in sheet_of
    kept_is =
        let e : 1 + length (take day.count cells) - 1 ≡ day.count = omega (arith, lent_counted) in
        take-append-le kept last (drop day.count cells) (front_fits _ kept last found) ∙ found.front ∙ rw e

    pub sheet_written : {before : List ℕ} {r : Result ℕ Refusal} {after : List ℕ} → Written (take kept back) before r after
        → Written (sheet_of day.dimensions day.directions day.count day.columns.now) before r after
    sheet_written w = rw kept_is at w
