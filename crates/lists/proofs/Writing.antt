-- Laws of lists written over the front of others: `laid` and `padded`.
use mathlib.Core.Path.{◌≡◌, ap, ◌∙◌}
use Prim.Native.Nat.{ℕ, ◌+◌, ◌-◌, ◌≤◌}
use native.Mathlib.Omega.{arith}
use mathlib.Core.List.{List, ◌++◌, append_assoc}
use lib.ListN.{length, take, drop, replicate, length-append, length-replicate, length-drop}
use lib.Seq.{take_at, drop_at}
use Rattle.lists.specs.Lists.{laid, padded}

pub length_laid : (l before : List ℕ) → length l ≤ length before → length (laid l before) ≡ length before
unfolding laid
length_laid l before h = simp (length-append, length-drop) (omega arith)

pub length_padded : (n : ℕ) (l before : List ℕ) → length l ≤ n → n ≤ length before → length (padded n l before) ≡ length before
unfolding padded
length_padded n l before h k = simp (length-append, length-replicate, length-drop) (omega arith)

padded_front : (n : ℕ) (l : List ℕ) → length l ≤ n → length (l ++ replicate (n - length l) 0) ≡ n
padded_front n l h = length-append l (replicate (n - length l) 0) ∙ ap (λ (k : ℕ). length l + k) (length-replicate {A = ℕ} (n - length l) 0) ∙ omega arith

-- of what stood before, only what is beyond n places matters
pub beyond_only : (n : ℕ) (l before before' : List ℕ) → drop n before ≡ drop n before' → padded n l before ≡ padded n l before'
unfolding padded
beyond_only n l before before' e = ap (λ (r : List ℕ). l ++ (replicate (n - length l) 0 ++ r)) e

-- the n places of what was written
pub take_padded : (n : ℕ) (l before : List ℕ) → length l ≤ n → take n (padded n l before) ≡ l ++ replicate (n - length l) 0
unfolding padded
take_padded n l before h = rw (← append_assoc) (take_at (l ++ replicate (n - length l) 0) (drop n before) n (padded_front n l h))

-- what stands beyond is as it was
pub drop_padded : (n : ℕ) (l before : List ℕ) → length l ≤ n → drop n (padded n l before) ≡ drop n before
unfolding padded
drop_padded n l before h = rw (← append_assoc) (drop_at (l ++ replicate (n - length l) 0) (drop n before) n (padded_front n l h))

-- the last writing counts
pub padded_again : (n : ℕ) (l l' before : List ℕ) → length l' ≤ n → padded n l (padded n l' before) ≡ padded n l before
padded_again n l l' before h = beyond_only n l (padded n l' before) before (drop_padded n l' before h)
