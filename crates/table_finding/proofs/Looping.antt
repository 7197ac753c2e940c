-- The invariants of the loops that count live rows and compare rows side by side, and how many rows of a block are taken for live.
use mathlib.Core.Path.{◌≡◌, refl, sym, ap, ◌∙◌}
use Prim.Native.Nat.{ℕ, zero, suc, ◌+◌, ◌-◌, ◌*◌, ◌≤◌, ◌<◌}
use native.Mathlib.Nat.{add-zero, suc-mul, mul-le-mul_right}
use native.Mathlib.Omega.{arith}
use mathlib.Core.Bool.{Bool, true, false, ◌&&◌, cond}
use mathlib.Core.List.{List}
use Rattle.std.proofs.Common.{◌==◌}
use Rattle.std.specs.List.{count_by}
use Rattle.std.proofs.lemmas.List.Sums.{count_by_more_yes, count_by_more_no}
use lib.Dec.{ltb}
use lib.ListN.{length, take, drop, length-drop}
use lib.Seq.{get_or-drop}
use borrow.Author.Tests.{ltb-false, le-ltb}
use Rattle.lists.specs.Lists.{filter, run}
use Rattle.dominance.specs.declared.Comparison.{Comparison}
use Rattle.dominance.specs.Compared.{compared}
use Rattle.table_finding.specs.Found.{live, live_in, taken_live, dull_in, Rows, Fits, Room}
use Rattle.table_finding.proofs.Blocks.{live_more, none_live, dull_more}

live_none : (uppers : List ℕ) (from : ℕ) → 0 ≡ live_in uppers from 0
unfolding live_in filter run
live_none uppers from = refl

-- one row more of a part passes the test if it is live
count_more : (uppers : List ℕ) (from k : ℕ) → from + k < length uppers → (b : Bool) → live uppers (from + k) ≡ b
    → count_by (λ u. u == 0) (take (k + 1) (drop from uppers)) ≡ count_by (λ u. u == 0) (take k (drop from uppers)) + cond b 1 0
unfolding live
count_more uppers from k h true e =
    count_by_more_yes (λ u. u == 0) (drop from uppers) k 0 (omega (arith, length-drop from uppers)) (rw (get_or-drop from uppers k 0) e)
count_more uppers from k h false e =
    count_by_more_no (λ u. u == 0) (drop from uppers) k 0 (omega (arith, length-drop from uppers)) (rw (get_or-drop from uppers k 0) e)
    ∙ sym (add-zero (count_by (λ u. u == 0) (take k (drop from uppers))))

-- of the rows from a place on as many are live as pass the test in the part that begins there
pub counted : (uppers : List ℕ) (from k : ℕ) → from + k ≤ length uppers → count_by (λ u. u == 0) (take k (drop from uppers)) ≡ live_in uppers from k
counted uppers from zero h = live_none uppers from
counted uppers from (suc k) h =
    let e : suc k ≡ k + 1 = omega arith in
    rw e
    (count_more uppers from k (omega arith) (live uppers (from + k)) refl
    ∙ ap (λ (n : ℕ). n + cond (live uppers (from + k)) 1 0) (counted uppers from k (omega arith))
    ∙ sym (live_more uppers from k))

-- how many rows are taken for live below a place in a book that is not dense: those that are
pub taken_counted : (dense : Bool) (uppers : List ℕ) (to : ℕ) → 64 ≤ to → dense ≡ false → {n : ℕ} → n ≡ live_in uppers (to - 64) 64 → n ≡ taken_live dense uppers to
unfolding taken_live
taken_counted dense uppers to h e f = f ∙ rw (le-ltb to 64 h, e)

-- where more than one is, there are 64 rows
pub block_below : (dense : Bool) (uppers : List ℕ) (to : ℕ) {n : ℕ} → n ≡ taken_live dense uppers to → 32 < n → 64 ≤ to
unfolding taken_live
block_below dense uppers to {n} e h = go (ltb to 64) refl e
  where
    go : (x : Bool) → ltb to 64 ≡ x → n ≡ cond x 1 (cond dense 64 (live_in uppers (to - 64) 64)) → 64 ≤ to
    go true w f = absurd (omega arith)
    go false w f = ltb-false to 64 w

-- the cells of a row lie within those of the rows below b
pub row_in : (i b d : ℕ) → i < b → i * d + d ≤ b * d
row_in i b d h = rw (← suc-mul i d) (mul-le-mul_right d h)

-- one of two neighbours lies between them
pub pushed : (t : Bool) {at r : ℕ} → r ≡ cond t (at - 1) at → (at - 1 ≤ r) × (r ≤ at)
pushed true e = (omega arith, omega arith)
pushed false e = (omega arith, omega arith)

module _ (s : Rows) where
  pub fits_less : {a b : ℕ} → a ≤ b → Fits s b → Fits s a
  fits_less {a} {b} h v =
      let m : a * s.d ≤ b * s.d = mul-le-mul_right s.d h in
      record { quoted = v.quoted; columns = omega (arith, v.columns); uppers = omega (arith, v.uppers); bounded = omega (arith, v.bounded) }

  -- the 64 rows below a place lie within the table if the rows below it do
  pub fits_at : {b : ℕ} → 64 ≤ b → Fits s b → Fits s (b - 64 + 64)
  fits_at {b} h v = let e : b - 64 + 64 ≡ b = omega arith in rw e v

  -- one of 64 rows more is compared
  pub compare_turn : (from k : ℕ) {all : Bool} → from ≤ k → all ≡ dull_in s from (k - from) → (c : Comparison)
      → c ≡ compared s.d s.directions s.quote (drop (k * s.d) s.columns) → all && (c.better && c.worse) ≡ dull_in s from (k + 1 - from)
  compare_turn from k {all} h v c e =
      let n : from + (k - from) ≡ k = omega arith in
      let m : k + 1 - from ≡ k - from + 1 = omega arith in
      rw (m, v) (sym (dull_more s from (k - from) c (rw n e)))

  -- the list has room once a place more is listed
  pub room_pushed : {i at : ℕ} {places places' : List ℕ} → Room s (suc i) places at → (next : ℕ) → (at - 1 ≤ next) × (next ≤ at) → length places' ≡ length places → Room s i places' next
  room_pushed r next e l = record { least = omega (arith, e, r.least); most = omega (arith, e, r.most) }

  -- none of the rows below a place is live where none is taken for it
  pub none_taken : (dense : Bool) {from to : ℕ} → to ≤ from + 64 → taken_live dense s.uppers to ≡ 0 → (q : ℕ) → from ≤ q → q < to → live s.uppers q ≡ false
  unfolding taken_live live_in
  none_taken dense {from} {to} h e q u l = go (ltb to 64) refl dense e
    where
      go : (x : Bool) → ltb to 64 ≡ x → (y : Bool) → cond x 1 (cond y 64 (length (filter (live s.uppers) (run (to - 64) 64)))) ≡ 0 → live s.uppers q ≡ false
      go true w y z = absurd (omega arith)
      go false w true z = absurd (omega arith)
      go false w false z =
          let k : 64 ≤ to = ltb-false to 64 w in
          none_live (live s.uppers) (to - 64) 64 z q (omega arith) (omega arith)
