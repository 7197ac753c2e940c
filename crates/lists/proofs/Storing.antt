-- Laws of a table that is written from its front on: the next store, and what stands beyond.
use mathlib.Core.Path.{◌≡◌, sym, ap, ◌∙◌}
use Prim.Native.Nat.{ℕ, suc, ◌+◌, ◌-◌, ◌≤◌, ◌<◌}
use native.Mathlib.Numerals.{add-one}
use native.Mathlib.Omega.{arith}
use mathlib.Core.List.{List, [], ◌∷◌, ◌++◌, append_assoc}
use lib.ListN.{length, get_or, set, take, drop, replicate, length-append, length-replicate, replicate-append-replicate, take-append-drop}
use lib.Seq.{length-take-le, drop-cons, set_at, append_snoc, drop-append-add, drop-drop, get_or-drop}
use Rattle.lists.specs.Lists.{padded}
use Rattle.lists.proofs.Writing.{beyond_only}

module _ {A : Type 0} where
  -- a store just behind what was written
  pub store_next : (z : A) (front before : List A) (w : ℕ) (x : A) → length front ≡ w → w < length before
      → set (front ++ drop w before) w x ≡ front ++ (x ∷ []) ++ drop (w + 1) before
  store_next z front before w x e h =
      rw (add-one, drop-cons before w z h, set_at front (get_or before w z) (drop (suc w) before) x w e, append_snoc)

  -- what stands beyond what was written is what stood there
  pub drop_beyond : (front before : List A) (w r : ℕ) → length front ≡ w → w ≤ r → drop r (front ++ drop w before) ≡ drop r before
  drop_beyond front before w r e h =
      let s : r ≡ length front + (r - w) = omega arith in
      let u : w + (r - w) ≡ r = omega arith in
      ap (λ (k : ℕ). drop k (front ++ drop w before)) s ∙ drop-append-add front (drop w before) (r - w) ∙ drop-drop (r - w) w before ∙ ap (λ (k : ℕ). drop k before) u

  -- lists that agree from place n on agree from any later place on
  pub drop_later : (l m : List A) (n k : ℕ) → n ≤ k → drop n l ≡ drop n m → drop k l ≡ drop k m
  drop_later l m n k h e =
      let s : n + (k - n) ≡ k = omega arith in
      ap (λ (j : ℕ). drop j l) (sym s) ∙ sym (drop-drop (k - n) n l) ∙ ap (drop (k - n)) e ∙ drop-drop (k - n) n m ∙ ap (λ (j : ℕ). drop j m) s

  -- and at each place from n on
  pub get_d_beyond : (z : A) (l m : List A) (n k : ℕ) → n ≤ k → drop n l ≡ drop n m → get_or l k z ≡ get_or m k z
  get_d_beyond z l m n k h e =
      let s : n + (k - n) ≡ k = omega arith in
      ap (λ (j : ℕ). get_or l j z) (sym s) ∙ sym (get_or-drop n l (k - n) z) ∙ ap (λ (r : List A). get_or r (k - n) z) e ∙ get_or-drop n m (k - n) z
      ∙ ap (λ (j : ℕ). get_or m j z) s

-- ---- zeros behind a list, up to a place

pub padded_none : (n : ℕ) (before : List ℕ) → n ≤ length before → padded n (take n before) before ≡ before
unfolding padded
padded_none n before h =
    let z : n - length (take n before) ≡ 0 = omega (arith, length-take-le n before h) in
    rw z (take-append-drop n before)

-- one more zero
pub padded_next : (n : ℕ) (l before : List ℕ) → length l ≤ n → n < length before → set (padded n l before) n 0 ≡ padded (n + 1) l before
unfolding padded
padded_next n l before h k =
    let zeros : List ℕ = replicate (n - length l) 0 in
    let front# : length (l ++ zeros) ≡ n = length-append l zeros ∙ omega (arith, length-replicate {A = ℕ} (n - length l) 0) in
    let e : n + 1 - length l ≡ n - length l + 1 = omega arith in
    rw (← append_assoc) (store_next 0 (l ++ zeros) before n 0 front# k ∙ rw (e, ← replicate-append-replicate) (simp append_assoc))

-- zeros behind what was written, where nothing beyond was
pub padded_over : (n w : ℕ) (l before after : List ℕ) → take w after ≡ l → drop n after ≡ drop n before → padded n (take w after) after ≡ padded n l before
padded_over n w l before after e f = rw e (beyond_only n l after before f)
