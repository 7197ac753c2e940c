-- Cut frames, the cases of the comparison, the columns that are read from a frame, and the comparison by the frames' kinds.
use mathlib.Core.Path.{◌≡◌, refl, ap, ◌∙◌}
use Prim.Native.Nat.{ℕ, ◌+◌, ◌*◌, ◌≤◌, ◌<◌}
use native.Mathlib.Omega.{arith}
use native.Mathlib.Decide.{dec_lt}
use mathlib.Core.List.{List}
use lib.Dec.{eqb}
use lib.ListN.{length, get_or, take}
use borrow.Author.Tests.{lt-ltb, le-ltb, le-leb, lt-leb, eq-eqb, ne_eqb}
use Rattle.lists.specs.Lists.{run}
use Rattle.lists.proofs.Booleans.{and_false, or_right}
use Rattle.frames.specs.declared.Read.{Read}
use Rattle.frame_kinds.specs.Kinds.{body_length}
use Rattle.frames.specs.Frames.{Reading, reading, stays, read_at, columns_at}
use Rattle.frame_kinds.proofs.Shapes.{quote_body}
use Rattle.frames.proofs.Reading.{read_columns, Found, beyond, at_end_lem, unknown, cut, whole, found}
use Rattle.host_standing.specs.Standing.{comparison}
use Rattle.host.specs.Host.{kind_of, check_of, column_count, columns_of, compare_of}

-- how many columns a kind gives
pub quote_count : (kind : ℕ) → 1 ≤ kind → kind ≤ 6 → column_count kind ≡ kind
unfolding column_count
quote_count kind a b = rw (le-leb 1 kind a, le-leb kind 6 b)

pub other_count : (kind : ℕ) → 6 < kind → column_count kind ≡ 0
unfolding column_count
other_count kind h = rw (lt-leb kind 6 h, and_false)

pub low_count : (kind : ℕ) → kind ≤ 6 → column_count kind ≡ kind
unfolding column_count
low_count kind h = go (dec_lt 0 kind)
  where
    go : Dec (0 < kind) → column_count kind ≡ kind
    go (yes k) = quote_count kind k h
    go (no k) = let none : kind ≡ 0 = omega arith in rw none

-- a kind is that of a quote, or has no column
pub count_cases : (A : ℕ → Type 0) (kind : ℕ) → (1 ≤ kind → kind ≤ 6 → A kind) → A 0 → A (column_count kind)
unfolding column_count
count_cases A kind f z = go (dec_lt 0 kind) (dec_lt 6 kind)
  where
    go : Dec (0 < kind) → Dec (6 < kind) → A (column_count kind)
    go (yes h) (yes k) = rw (other_count kind k) z
    go (yes h) (no k) = rw (quote_count kind h (omega arith)) (f h (omega arith))
    go (no h) k = rw (lt-leb 1 kind (omega arith)) z

module _ (s : List ℕ) where
  pub check_empty : length s ≡ 0 → check_of s ≡ 2
  unfolding check_of
  check_empty h = rw (eq-eqb (length s) 0 h)

  module _ (some : 0 < length s) where
    module _ (known : body_length (get_or s 0 0) ≡ 255 → ⊥) where
      pub check_cut : length s < 1 + body_length (get_or s 0 0) → check_of s ≡ 2
      unfolding check_of
      check_cut h = rw (ne_eqb (length s) 0 (λ e. omega arith), ne_eqb (body_length (get_or s 0 0)) 255 known, lt-ltb (length s) (1 + body_length (get_or s 0 0)) h)

  -- what is not cut has a first byte
  pub uncut_some : (check_of s ≡ 2 → ⊥) → 0 < length s
  uncut_some n = go (dec_lt 0 (length s))
    where
      go : Dec (0 < length s) → 0 < length s
      go (yes h) = h
      go (no h) = absurd (n (check_empty (omega arith)))

  -- a quote frame that is not cut is whole
  uncut_whole : (kind : ℕ) → 1 ≤ kind → kind ≤ 6 → kind_of s ≡ kind → (check_of s ≡ 2 → ⊥) → 1 + 4 * kind ≤ length s
  uncut_whole kind a b e n = go (dec_lt (length s) (1 + 4 * kind))
    where
      body : body_length (kind_of s) ≡ 4 * kind
      body = rw e (quote_body kind a b)

      go : Dec (length s < 1 + 4 * kind) → 1 + 4 * kind ≤ length s
      go (yes h) = let l = body in absurd (n (check_cut (uncut_some n) (λ q. omega arith) (omega arith)))
      go (no h) = omega arith

  -- the columns that are read from a quote frame that is not cut
  quote_read : (kind : ℕ) → 1 ≤ kind → kind ≤ 6 → kind_of s ≡ kind → (check_of s ≡ 2 → ⊥) → (read_at s 0).columns ≡ columns_at s 1 (kind_of s)
  unfolding read_at
  quote_read kind a b e n =
      let whole = uncut_whole kind a b e n in
      let body : body_length (kind_of s) ≡ 4 * kind = rw e (quote_body kind a b) in
      rw (
        le-ltb (length s) 0 (omega arith),
        ne_eqb 0 (length s) (λ f. omega arith),
        ne_eqb (body_length (kind_of s)) 255 (λ f. omega arith),
        le-ltb (length s) (1 + body_length (kind_of s)) (omega arith),
      )

  -- as many of the columns that are read as the kind gives are the frame's
  pub columns_read : (check_of s ≡ 2 → ⊥) → (r : Read) → reading r ≡ read_at s 0 → (n : ℕ) → n ≡ column_count (kind_of s) → take n r.columns ≡ columns_of s
  unfolding columns_of
  columns_read u r e n f =
      rw f (count_cases (λ k. take k r.columns ≡ take k (columns_at s 1 (kind_of s))) (kind_of s)
      (λ a b. ap (take (kind_of s)) (read_columns r e ∙ quote_read (kind_of s) a b refl u)) refl)

-- what is read has six columns
read_six : (s : List ℕ) {r : Reading} → Found s 0 r → length r.columns ≡ 6
unfolding stays columns_at run
read_six s (beyond h) = refl
read_six s (at_end_lem e) = refl
read_six s unknown = refl
read_six s cut = refl
read_six s (whole k h) = refl

-- no kind gives more columns than are read
pub count_fits : (s : List ℕ) (r : Read) → reading r ≡ read_at s 0 → (n kind : ℕ) → n ≡ column_count kind → n ≤ length r.columns
count_fits s r e n kind f = rw (read_columns r e, read_six s (found s 0), f) (count_cases (λ k. k ≤ 6) kind (λ a b. b) (omega arith))

module _ (a b : List ℕ) (directions : ℕ) where
  pub first_cut : check_of a ≡ 2 → compare_of a b directions ≡ 2
  unfolding compare_of
  first_cut h = rw (eq-eqb (check_of a) 2 h)

  pub second_cut : check_of b ≡ 2 → compare_of a b directions ≡ 2
  unfolding compare_of
  second_cut h = rw (or_right (eqb (check_of a) 2) (eqb (check_of b) 2) (eq-eqb (check_of b) 2 h))

  pub uncut : (check_of a ≡ 2 → ⊥) → (check_of b ≡ 2 → ⊥) → compare_of a b directions ≡ comparison directions (columns_of a) (columns_of b)
  unfolding compare_of
  uncut p q = rw (ne_eqb (check_of a) 2 p, ne_eqb (check_of b) 2 q)
