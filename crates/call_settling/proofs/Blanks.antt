-- Laws of cells that are zeros: from a later place on, and behind a list.
use mathlib.Core.Path.{◌≡◌, sym, ap, ◌∙◌}
use Prim.Native.Nat.{ℕ, ◌+◌, ◌-◌, ◌≤◌}
use native.Mathlib.Omega.{arith}
use mathlib.Core.List.{List, ◌++◌, append_assoc}
use lib.ListN.{length, drop, replicate, length-replicate, replicate-append-replicate}
use lib.Seq.{drop_at, drop-append_seam, drop-drop}
use Rattle.lists.specs.Lists.{padded}
use Rattle.lists.proofs.Writing.{drop_padded}
use Rattle.lists.proofs.Storing.{drop_later}
use Rattle.call_settling.specs.Blank.{Blank}

-- zeros in two parts, and what stands behind them
zeros_split : (k n : ℕ) (rest : List ℕ) → replicate k 0 ++ (replicate n 0 ++ rest) ≡ replicate (k + n) 0 ++ rest
zeros_split k n rest = rw (← append_assoc, replicate-append-replicate)

-- the zeros from a later place on
pub blank_later : {from to : ℕ} {cells : List ℕ} (m : ℕ) → from ≤ m → m ≤ to → Blank from to cells → Blank m to cells
blank_later {from} {to} {cells} m h k b = record {
  within = k;
  zeros =
      let s : from + (m - from) ≡ m = omega arith in
      let n : to - from ≡ (m - from) + (to - m) = omega arith in
      ap (λ (j : ℕ). drop j cells) (sym s) ∙ sym (drop-drop (m - from) from cells) ∙ ap (drop (m - from)) b.zeros
      ∙ rw (n, ← zeros_split) (drop_at (replicate (m - from) 0) (replicate (to - m) 0 ++ drop to cells) (m - from) (length-replicate {A = ℕ} (m - from) 0));
}

-- other cells that are the same from there on
pub blank_same : {from to : ℕ} {cells cells' : List ℕ} → drop from cells' ≡ drop from cells → Blank from to cells → Blank from to cells'
blank_same {from} {to} {cells} {cells'} e b = record {
  within = b.within;
  zeros = e ∙ b.zeros ∙ ap (λ (l : List ℕ). replicate (to - from) 0 ++ l) (sym (drop_later cells' cells from to b.within e));
}

-- zeros that were put behind a list
pub blank_padded : (n m : ℕ) (l before : List ℕ) → length l ≤ m → m ≤ n → Blank m n (padded n l before)
unfolding padded
blank_padded n m l before h k =
    blank_later m h k
    (record {
      within = omega arith;
      zeros = drop-append_seam l (replicate (n - length l) 0 ++ drop n before) ∙ ap (λ (r : List ℕ). replicate (n - length l) 0 ++ r) (sym (drop_padded n l before (omega arith)));
    })
