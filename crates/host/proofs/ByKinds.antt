-- The comparison of two frames by their kinds, as 01 has it: 4 where the kinds differ or are no quotes.
use mathlib.Core.Path.{◌≡◌, refl, sym, ap, ◌∙◌}
use mathlib.Core.Logic.{◌⊎◌, inl, inr}
use Prim.Native.Nat.{ℕ, ◌/◌, ◌^◌, ◌≤◌, ◌<◌}
use native.Mathlib.Omega.{arith}
use native.Mathlib.Decide.{dec_lt}
use mathlib.Core.Bool.{true, false, not}
use mathlib.Core.List.{List}
use lib.Dec.{eqb}
use lib.ListN.{length}
use lib.Seq.{length-take-le}
use borrow.Author.Tests.{le-leb, lt-leb, eqb-true, eqb-false}
use Rattle.lists.specs.Lists.{run}
use Rattle.lists.proofs.Booleans.{either, and_false, or_right}
use Rattle.frame_kinds.specs.Kinds.{within}
use Rattle.frames.specs.Frames.{columns_at}
use Rattle.host_standing.specs.Standing.{standing, number, comparison}
use Rattle.host_standing.proofs.Refusals.{few, unlike, high_bit, stands}
use Rattle.host.specs.Host.{kind_of, column_count, columns_of, compare_of, by_kinds}
use Rattle.host.proofs.Answers.{quote_count, low_count, other_count, count_cases}

-- a frame has as many columns as its kind gives
columns_length : (s : List ℕ) → length (columns_of s) ≡ column_count (kind_of s)
unfolding columns_of columns_at run
columns_length s = length-take-le (column_count (kind_of s)) (columns_at s 1 (kind_of s)) (count_cases (λ k. k ≤ 6) (kind_of s) (λ a b. b) (omega arith))

-- a kind that gives some columns gives as many as it says
count_is : (kind n : ℕ) → 1 ≤ n → column_count kind ≡ n → kind ≡ n
count_is kind n some = count_cases (λ k. k ≡ n → kind ≡ n) kind (λ a b e. e) (λ e. omega arith)

module _ (a b : List ℕ) (directions : ℕ) where
  -- a frame that is no quote
  no_quote_lem : column_count (kind_of a) ≡ 0 → comparison directions (columns_of a) (columns_of b) ≡ 4
  no_quote_lem e = few directions (columns_of a) (columns_of b) (omega (arith, columns_length a))

  module _ (some : 1 ≤ kind_of a) (bounded : kind_of a ≤ 6) where
    -- as many columns as the kind says
    first_length : length (columns_of a) ≡ kind_of a
    first_length = columns_length a ∙ quote_count (kind_of a) some bounded

    -- kinds that differ
    other_kind : (kind_of a ≡ kind_of b → ⊥) → comparison directions (columns_of a) (columns_of b) ≡ 4
    other_kind n =
        unlike directions (columns_of a) (columns_of b)
        (λ e. n (sym (count_is (kind_of b) (kind_of a) some (sym (columns_length b) ∙ sym e ∙ first_length))))

    module _ (same : kind_of a ≡ kind_of b) where
      same_length : length (columns_of a) ≡ length (columns_of b)
      same_length = first_length ∙ sym (columns_length b ∙ ap column_count (sym same) ∙ quote_count (kind_of a) some bounded)

      high : (directions / 2 ^ kind_of a ≡ 0 → ⊥) → comparison directions (columns_of a) (columns_of b) ≡ 3
      high n = high_bit directions (columns_of a) (columns_of b) (rw first_length some) (rw first_length bounded) same_length (rw first_length n)

      low : directions / 2 ^ kind_of a ≡ 0
          → comparison directions (columns_of a) (columns_of b) ≡ number (standing (kind_of a) directions (columns_of a) (columns_of b))
      low e =
          rw first_length at (stands directions (columns_of a) (columns_of b) (rw first_length some) (rw first_length bounded) same_length (rw first_length e))

  -- the comparison of two frames is as 01 has it, by their kinds
  pub compared_by_kinds : compare_of a b directions ≡ by_kinds a b directions
  unfolding compare_of by_kinds
  compared_by_kinds = go (dec_lt 0 (kind_of a)) (dec_lt 6 (kind_of a)) (either (eqb (kind_of a) (kind_of b))) (either (eqb (directions / 2 ^ kind_of a) 0))
    where
      go : Dec (0 < kind_of a) → Dec (6 < kind_of a) → (eqb (kind_of a) (kind_of b) ≡ true) ⊎ (eqb (kind_of a) (kind_of b) ≡ false)
          → (eqb (directions / 2 ^ kind_of a) 0 ≡ true) ⊎ (eqb (directions / 2 ^ kind_of a) 0 ≡ false) → compare_of a b directions ≡ by_kinds a b directions
      go (no h) k s t = rw (no_quote_lem (low_count (kind_of a) (omega arith) ∙ (omega arith)), lt-leb 1 (kind_of a) (omega arith))
      go (yes h) (yes k) s t = rw (no_quote_lem (other_count (kind_of a) k), lt-leb (kind_of a) 6 k, and_false)
      go (yes h) (no k) (inr s) t =
          rw (other_kind h (omega arith) (eqb-false (kind_of a) (kind_of b) s), s, or_right (not (within 1 6 (kind_of a))) true refl)
      go (yes h) (no k) (inl s) (inr t) =
          rw (
            high h (omega arith) (eqb-true (kind_of a) (kind_of b) s) (eqb-false (directions / 2 ^ kind_of a) 0 t),
            le-leb 1 (kind_of a) h,
            le-leb (kind_of a) 6 (omega arith),
            s,
            t,
          )
      go (yes h) (no k) (inl s) (inl t) =
          rw (
            low h (omega arith) (eqb-true (kind_of a) (kind_of b) s) (eqb-true (directions / 2 ^ kind_of a) 0 t),
            le-leb 1 (kind_of a) h,
            le-leb (kind_of a) 6 (omega arith),
            s,
            t,
          )
