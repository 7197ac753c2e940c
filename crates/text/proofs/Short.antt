-- Numbers below 10,000 in decimal: their digits one by one, stored from the first to the last.
use mathlib.Core.Path.{◌≡◌, refl, ap, ◌∙◌}
use mathlib.Core.Logic.{inl, inr}
use Prim.Native.Nat.{ℕ, suc, ◌+◌, ◌/◌, ◌%◌, ◌≤◌, ◌<◌}
use native.Mathlib.Omega.{arith}
use mathlib.Core.List.{List, [], ◌∷◌}
use lib.ListN.{length, set}
use Rattle.lists.proofs.Laying.{front_none, front_store}
use Rattle.text.specs.Text.{digits_up_to, digits, Laid}
use Rattle.text.proofs.Digits.{Sized, fixed, digits_fixed}
use Rattle.text.proofs.Lines.{of_front}

module _ (n : ℕ) (before : List ℕ) (room : 10 ≤ length before) where
  -- a number that is its digits
  as_digits : (k j : ℕ) → 10 ≡ suc k + j → Sized k n → digits n ≡ fixed (suc k) n
  unfolding digits
  as_digits k j t s = ap (λ (i : ℕ). digits_up_to i n) t ∙ digits_fixed k j n s

  -- one digit
  pub one_digit : n < 10 → Laid (digits n) before 1 (set before 0 (48 + n))
  unfolding fixed
  one_digit h =
      let e : n % 10 ≡ n = omega arith in
      let d : digits n ≡ (48 + n) ∷ [] = as_digits 0 9 (omega arith) (record { below = h; reached = inl refl }) ∙ rw e in
      rw d (of_front (front_store (front_none before) (48 + n) (omega arith)))

  -- two digits
  pub two_digits : (a b : ℕ) → 10 ≤ n → n < 100 → a ≡ n / 10 → b ≡ n % 10 → Laid (digits n) before 2 (set (set before 0 (48 + a)) 1 (48 + b))
  unfolding fixed
  two_digits a b g h p q =
      let e : n / 10 % 10 ≡ a = omega arith in
      let d : digits n ≡ (48 + a) ∷ (48 + b) ∷ [] = as_digits 1 8 (omega arith) (record { below = h; reached = inr g }) ∙ rw (e, q) in
      rw d (of_front (front_store (front_store (front_none before) (48 + a) (omega arith)) (48 + b) (omega arith)))

  -- three digits
  pub three_digits : (a b x : ℕ) → 100 ≤ n → n < 1000 → a ≡ n / 100 → b ≡ n / 10 % 10 → x ≡ n % 10
      → Laid (digits n) before 3 (set (set (set before 0 (48 + a)) 1 (48 + b)) 2 (48 + x))
  unfolding fixed
  three_digits a b x g h p q r =
      let e : n / 10 / 10 % 10 ≡ a = omega arith in
      let d : digits n ≡ (48 + a) ∷ (48 + b) ∷ (48 + x) ∷ [] = as_digits 2 7 (omega arith) (record { below = h; reached = inr g }) ∙ rw (e, q, r) in
      let f = front_store (front_store (front_none before) (48 + a) (omega arith)) (48 + b) (omega arith) in
      rw d (of_front (front_store f (48 + x) (omega arith)))

  -- four digits
  pub four_digits : (a b x y : ℕ) → 1000 ≤ n → n < 10000 → a ≡ n / 1000 → b ≡ n / 100 % 10 → x ≡ n / 10 % 10 → y ≡ n % 10
      → Laid (digits n) before 4 (set (set (set (set before 0 (48 + a)) 1 (48 + b)) 2 (48 + x)) 3 (48 + y))
  unfolding fixed
  four_digits a b x y g h p q r s =
      let e : n / 10 / 10 / 10 % 10 ≡ a = omega arith in
      let i : n / 10 / 10 % 10 ≡ b = omega arith in
      let d : digits n ≡ (48 + a) ∷ (48 + b) ∷ (48 + x) ∷ (48 + y) ∷ [] =
      as_digits 3 6 (omega arith) (record { below = h; reached = inr g }) ∙ rw (e, i, r, s) in
      let f = front_store (front_store (front_none before) (48 + a) (omega arith)) (48 + b) (omega arith) in
      rw d (of_front (front_store (front_store f (48 + x) (omega arith)) (48 + y) (omega arith)))
