-- Laws of decimal digits: how many a number has, and writing them from the last to the first.
use mathlib.Core.Path.{◌≡◌, refl, sym, ap, ◌∙◌}
use mathlib.Core.Logic.{◌⊎◌, inl, inr}
use Prim.Native.Nat.{ℕ, zero, suc, ◌+◌, ◌-◌, ◌*◌, ◌/◌, ◌%◌, ◌^◌, ◌≤◌, ◌<◌}
use native.Mathlib.Nat.{pow-suc, suc-add}
use lib.Pow.{pow-add}
use native.Mathlib.Omega.{arith}
use native.Mathlib.Numerals.{add-one}
use native.Mathlib.Decide.{dec_le}
use mathlib.Core.Bool.{Bool, true, false, cond}
use mathlib.Core.List.{List, [], ◌∷◌, ◌++◌, append-nil}
use lib.Dec.{ltb}
use lib.ListN.{length, take, drop, set, get_or, length-append, length-set, take-append-drop}
use lib.Seq.{take-suc, set_at, length-take-le, append_snoc}
use borrow.Author.Tests.{ltb-true, lt-ltb, le-ltb}
use Rattle.lists.specs.Lists.{laid}
use Rattle.lists.proofs.Booleans.{either}
use Rattle.text.specs.Text.{digits_up_to, digits, Laid}

-- the last k decimal digits of a number
unfoldable pub fixed : ℕ → ℕ → List ℕ
fixed zero n = []
fixed (suc k) n = fixed k (n / 10) ++ ((48 + n % 10) ∷ [])

length_fixed : (k n : ℕ) → length (fixed k n) ≡ k
unfolding fixed
length_fixed zero n = refl
length_fixed (suc k) n = length-append (fixed k (n / 10)) ((48 + n % 10) ∷ []) ∙ rw (length_fixed k (n / 10)) (add-one k)

-- a number has k + 1 digits
pub record Sized (k n : ℕ) : Type 0 where
  pub below : n < 10 ^ suc k
  pub reached : (k ≡ 0) ⊎ (10 ^ k ≤ n)

positive : (k : ℕ) → 1 ≤ 10 ^ k
positive zero = omega arith
positive (suc k) = rw pow-suc (omega (arith, positive k))

-- the number without its last digit
shorter : (k n : ℕ) → n < 10 ^ suc (suc k) → 10 ^ suc k ≤ n → Sized k (n / 10)
shorter zero n b h = record { below = omega arith; reached = inl refl }
shorter (suc k) n b h =
    let u : n < 10 ^ suc (suc k) * 10 = rw (pow-suc 10 (suc (suc k))) at b in
    let v : 10 ^ suc k * 10 ≤ n = rw (pow-suc 10 (suc k)) at h in
    record { below = omega arith; reached = inr (omega arith) }

pub digits_fixed : (k j n : ℕ) → Sized k n → digits_up_to (suc k + j) n ≡ fixed (suc k) n
unfolding digits_up_to fixed
digits_fixed zero j n s =
    let b : n < 10 = s.below in
    let e : n % 10 ≡ n = omega arith in
    rw (suc-add, lt-ltb n 10 b, e)
digits_fixed (suc k) j n s = go s.reached (λ t. digits_fixed k j (n / 10) t)
  where
    go : (suc k ≡ 0) ⊎ (10 ^ suc k ≤ n) → (Sized k (n / 10) → digits_up_to (suc k + j) (n / 10) ≡ fixed (suc k) (n / 10)) → digits_up_to (suc (suc k) + j) n ≡ fixed (suc (suc k)) n
    go (inl z) r = absurd (omega arith)
    go (inr h) r =
        let u : 10 ^ k * 10 ≤ n = rw pow-suc at h in
        let big : 10 ≤ n = omega (arith, positive k) in
        rw (suc-add, le-ltb n 10 big) (ap (λ (l : List ℕ). l ++ ((48 + n % 10) ∷ [])) (r (shorter k n s.below h)))

-- ---- counting

-- a number below 2^32 has at most ten digits
bounded : (n count : ℕ) → n < 2 ^ 32 → (count ≡ 1) ⊎ (10 ^ (count - 1) ≤ n) → count ≤ 10
bounded n count h = go (dec_le count 10)
  where
    go : Dec (count ≤ 10) → (count ≡ 1) ⊎ (10 ^ (count - 1) ≤ n) → count ≤ 10
    go (yes k) p = k
    go (no k) (inl e) = absurd (omega arith)
    go (no k) (inr p) =
        let e : count - 1 ≡ 10 + (count - 11) = omega arith in
        let u : 10 ^ 10 * 10 ^ (count - 11) ≤ n = rw (e, pow-add) at p in
        absurd (omega (arith, positive (count - 11)))

sized : (n count : ℕ) → 1 ≤ count → n < 10 ^ count → (count ≡ 1) ⊎ (10 ^ (count - 1) ≤ n) → Sized (count - 1) n
sized n count k h p = let e : suc (count - 1) ≡ count = omega arith in record { below = rw e h; reached = go p }
  where
    go : (count ≡ 1) ⊎ (10 ^ (count - 1) ≤ n) → (count - 1 ≡ 0) ⊎ (10 ^ (count - 1) ≤ n)
    go (inl z) = inl (omega arith)
    go (inr q) = inr q

-- a number between two powers of ten has so many digits
counted : (n count : ℕ) → n < 2 ^ 32 → 1 ≤ count → n < 10 ^ count → (count ≡ 1) ⊎ (10 ^ (count - 1) ≤ n) → count ≡ length (digits n)
unfolding digits
counted n count w k h p =
    let f = bounded n count w p in
    let e : suc (count - 1) ≡ count = omega arith in
    let t : 10 ≡ suc (count - 1) + (10 - count) = omega arith in
    sym (
    ap (λ (k : ℕ). length (digits_up_to k n)) t
    ∙ ap length (digits_fixed (count - 1) (10 - count) n (sized n count k h p))
    ∙ length_fixed (suc (count - 1)) n
    ∙ e
    )

-- 0 has one digit
pub counted_zero : (n : ℕ) → n ≡ 0 → 1 ≡ length (digits n)
unfolding digits digits_up_to
counted_zero n e = rw e

-- a number has one digit more than its logarithm
pub counted_log : (n log : ℕ) → n < 2 ^ 32 → 10 ^ log ≤ n → n < 10 * 10 ^ log → log + 1 ≡ length (digits n)
counted_log n log w low high =
    let e : 10 ^ (log + 1) ≡ 10 ^ log * 10 = rw (add-one log, pow-suc) in
    let l : log + 1 - 1 ≡ log = omega arith in
    counted n (log + 1) w (omega arith) (rw e (omega arith)) (inr (rw l low))

-- ---- writing, from the last digit to the first

as_fixed : (k n : ℕ) → digits_up_to k n ≡ fixed (length (digits_up_to k n)) n
unfolding digits_up_to fixed
as_fixed zero n = refl
as_fixed (suc k) n = go (either (ltb n 10)) (as_fixed k (n / 10))
  where
    D : List ℕ
    D = digits_up_to k (n / 10)

    go : (ltb n 10 ≡ true) ⊎ (ltb n 10 ≡ false) → D ≡ fixed (length D) (n / 10)
        → cond (ltb n 10) ((48 + n) ∷ []) (D ++ ((48 + n % 10) ∷ [])) ≡ fixed (length (cond (ltb n 10) ((48 + n) ∷ []) (D ++ ((48 + n % 10) ∷ [])))) n
    go (inl t) ih = let e : n % 10 ≡ n = omega (arith, ltb-true n 10 t) in rw (t, e)
    go (inr t) ih =
        rw (t, length-append D ((48 + n % 10) ∷ []), add-one (length D)) (ap (λ (l : List ℕ). l ++ ((48 + n % 10) ∷ [])) ih)

-- the digits from i on stand in the text
pub record Putting (n : ℕ) (before : List ℕ) (count : ℕ) (text : List ℕ) (rest i : ℕ) : Type 0 where
  pub turns : i ≤ count
  pub room : count ≤ length before
  pub long : length text ≡ length before
  pub tail : List ℕ
  pub whole : fixed count n ≡ fixed i rest ++ tail
  pub bytes : text ≡ take i before ++ (tail ++ drop count before)

pub put_start : (n : ℕ) (before : List ℕ) (count : ℕ) → count ≤ length before → Putting n before count before n count
put_start n before count h =
    record { turns = omega arith; room = h; long = refl; tail = []; whole = sym (append-nil (fixed count n)); bytes = sym (take-append-drop count before) }

pub put_more : (n : ℕ) (before : List ℕ) (count : ℕ) (text : List ℕ) (rest i : ℕ) → 0 < i → Putting n before count text rest i
    → Putting n before count (set text (i - 1) (48 + rest % 10)) (rest / 10) (i - 1)
unfolding fixed
put_more n before count text rest zero h p = absurd (omega arith)
put_more n before count text rest (suc j) h p =
    let e : suc j - 1 ≡ j = omega arith in
    let x : ℕ = 48 + rest % 10 in
    let behind : List ℕ = p.tail ++ drop count before in
    let inside : j < length before = let r = p.room in let t = p.turns in omega arith in
    rw e (record {
      turns = let t = p.turns in omega arith;
      room = p.room;
      long = length-set text j x ∙ p.long;
      tail = x ∷ p.tail;
      whole = p.whole ∙ append_snoc (fixed j (rest / 10)) x p.tail;
      bytes =
          ap (λ (l : List ℕ). set l j x) (p.bytes ∙ ap (λ (l : List ℕ). l ++ behind) (take-suc before j 0 inside) ∙ append_snoc (take j before) (get_or before j 0) behind)
          ∙ set_at (take j before) (get_or before j 0) behind x j (length-take-le j before (omega arith));
    })

pub put_finish : (n : ℕ) (before : List ℕ) (count : ℕ) (text : List ℕ) (rest i : ℕ) → count ≡ length (digits n) → i ≤ 0 → Putting n before count text rest i → Laid (digits n) before count text
unfolding digits fixed laid
put_finish n before count text rest zero e h p =
    let all : digits n ≡ p.tail = as_fixed 10 n ∙ ap (λ (k : ℕ). fixed k n) (sym e) ∙ p.whole in
    record { counted = e; text = p.bytes ∙ rw (← all, ← e) }
put_finish n before count text rest (suc i) e h p = absurd (omega arith)

length_up_to : (k n : ℕ) → length (digits_up_to k n) ≤ k
unfolding digits_up_to
length_up_to zero n = omega arith
length_up_to (suc k) n = go (ltb n 10) (length_up_to k (n / 10))
  where
    go : (b : Bool) → length (digits_up_to k (n / 10)) ≤ k → length (cond b ((48 + n) ∷ []) (digits_up_to k (n / 10) ++ ((48 + n % 10) ∷ []))) ≤ suc k
    go true h = omega arith
    go false h = rw length-append (omega arith)

pub at_most_ten : (n : ℕ) → length (digits n) ≤ 10
unfolding digits
at_most_ten n = length_up_to 10 n
