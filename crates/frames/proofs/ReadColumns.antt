-- A quote's columns are read one after the other: the columns after i of them.
use mathlib.Core.Path.{◌≡◌, refl, sym, ap, ◌∙◌}
use mathlib.Core.Logic.{◌⊎◌, inl, inr}
use Prim.Native.Nat.{ℕ, ◌+◌, ◌*◌, ◌≤◌, ◌<◌}
use native.Mathlib.Omega.{arith}
use native.Mathlib.Nat.{zero-add}
use mathlib.Core.Bool.{cond}
use mathlib.Core.List.{List, [], ◌∷◌, map}
use lib.Dec.{ltb}
use lib.ListN.{length, get_or, set, length-set, length-map}
use lib.Seq.{ext_get_or, get_or-set_same, get_or-set_other}
use borrow.Author.Tests.{lt-ltb, le-ltb, le-leb, lt-leb}
use Rattle.lists.specs.Lists.{run}
use Rattle.lists.proofs.Booleans.{and_false}
use Rattle.lists.proofs.Runs.{order, length_run, get_or_run}
use Rattle.octets.specs.Bytes.{number4}
use Rattle.frames.specs.Frames.{columns_at}

module _ (tape : List ℕ) (body : ℕ) where
  -- column j, if it is one of the first i; else 0
  unfoldable pub column : ℕ → ℕ → ℕ
  column i j = cond (ltb j i) (number4 tape (body + 4 * j)) 0

  -- six columns: the first i of the body, then zeros
  unfoldable pub columns_to : ℕ → List ℕ
  columns_to i = map (column i) (run 0 6)

  length_columns : (i : ℕ) → length (columns_to i) ≡ 6
  unfolding columns_to
  length_columns i = length-map (run 0 6) (column i) ∙ length_run 0 6

  column_at : (i k : ℕ) → k < 6 → get_or (columns_to i) k 0 ≡ column i k
  unfolding columns_to
  column_at i k h = get_or_run (column i) 0 0 6 k h ∙ ap (column i) (zero-add k)

  column_next : (i : ℕ) → column (i + 1) i ≡ number4 tape (body + 4 * i)
  unfolding column
  column_next i = simp (lt-ltb i (i + 1) (omega arith))

  column_other : (i k : ℕ) → (k ≡ i → ⊥) → column i k ≡ column (i + 1) k
  unfolding column
  column_other i k h = go (order k i)
    where
      go : (k < i) ⊎ ((k ≡ i) ⊎ (i < k)) → column i k ≡ column (i + 1) k
      go (inl l) = simp (lt-ltb k i l, lt-ltb k (i + 1) (omega arith))
      go (inr (inl e)) = absurd (h e)
      go (inr (inr g)) = simp (le-ltb k i (omega arith), le-ltb k (i + 1) (omega arith))

  pub columns_more : (i : ℕ) → i < 6 → set (columns_to i) i (number4 tape (body + 4 * i)) ≡ columns_to (i + 1)
  columns_more i h =
      ext_get_or 0 (set (columns_to i) i v) (columns_to (i + 1))
      (length-set (columns_to i) i v ∙ length_columns i ∙ sym (length_columns (i + 1)))
      (λ k l. at k (omega (arith, length-set (columns_to i) i v, length_columns i)) (order k i))
    where
      v : ℕ
      v = number4 tape (body + 4 * i)

      other : (k : ℕ) → k < 6 → (k ≡ i → ⊥) → get_or (set (columns_to i) i v) k 0 ≡ get_or (columns_to (i + 1)) k 0
      other k l n = get_or-set_other (columns_to i) i k v 0 n ∙ column_at i k l ∙ column_other i k n ∙ sym (column_at (i + 1) k l)

      at : (k : ℕ) → k < 6 → (k < i) ⊎ ((k ≡ i) ⊎ (i < k)) → get_or (set (columns_to i) i v) k 0 ≡ get_or (columns_to (i + 1)) k 0
      at k l (inl b) = other k l (λ e. omega arith)
      at k l (inr (inl e)) = rw e (get_or-set_same (columns_to i) i v 0 (omega (arith, length_columns i)) ∙ sym (column_next i) ∙ sym (column_at (i + 1) i h))
      at k l (inr (inr b)) = other k l (λ e. omega arith)

  -- none yet
  pub columns_none : 0 ∷ 0 ∷ 0 ∷ 0 ∷ 0 ∷ 0 ∷ [] ≡ columns_to 0
  unfolding columns_to column run
  columns_none = refl

  -- all that the kind of a quote has
  pub columns_all : (kind : ℕ) → 1 ≤ kind → kind ≤ 6 → columns_to kind ≡ columns_at tape body kind
  unfolding columns_to column columns_at
  columns_all kind some bounded = simp (le-leb 1 kind some, le-leb kind 6 bounded)

-- a kind that is no quote's has no columns
pub no_columns : (tape : List ℕ) (body kind : ℕ) → 6 < kind → 0 ∷ 0 ∷ 0 ∷ 0 ∷ 0 ∷ 0 ∷ [] ≡ columns_at tape body kind
unfolding columns_at run
no_columns tape body kind h = simp (lt-leb kind 6 h, and_false)
