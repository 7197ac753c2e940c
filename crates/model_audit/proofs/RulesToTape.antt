-- From the audit's rules to a tape: the held quotes are in the rows, and any stood before them.
use mathlib.Core.Path.{◌≡◌, refl, ap, ◌∙◌}
use mathlib.Core.Logic.{◌⊎◌, inl, inr}
use Prim.Native.Nat.{ℕ, zero, suc, ◌+◌, ◌-◌, ◌≤◌, ◌<◌, zero-le}
use native.Mathlib.Omega.{arith}
use native.Mathlib.Decide.{dec_lt}
use mathlib.Core.Bool.{Bool, true, false, cond}
use mathlib.Core.List.Memᴰ
use mathlib.Core.List.{List, [], ◌∷◌, map, Memᴰ}
use lib.Dec.{eqb}
use lib.ListN.{length, get_or, replicate, length-map, length-replicate, get_or-eq_default}
use borrow.Author.Tests.{eq-eqb, ne_eqb}
use Rattle.lists.specs.Lists.{any, run, between, rising}
use Rattle.lists.proofs.Filters.{map_map, map-id}
use Rattle.lists.proofs.Members.{into_map, map_same_mem}
use Rattle.lists.proofs.Runs.{length_run, get_or_run}
use Rattle.lists.proofs.Rising.{rising_cons, rising_between, rising_bounds}
use Rattle.dominance.specs.Renewal.{quote_at}
use Rattle.skyline.specs.Skyline.{window_start}
use Rattle.model.specs.Rows.{Row}
use Rattle.model.specs.Reference.{row_of, rows_of}
use Rattle.model_audit.specs.Audit.{Small, wrong_end}
use Rattle.model.proofs.Tables.{Fit}
use Rattle.model_audit.proofs.Plays.{holding, WideAll}
use Rattle.model_audit.proofs.RightEnds.{ends_are}

-- zeros are small
zeros_small : (d : ℕ) → Small (replicate d 0)
zeros_small zero i = zero-le
zeros_small (suc d) zero = zero-le
zeros_small (suc d) (suc i) = zeros_small d i

module _ (d : ℕ) where
  -- the columns of the row at a position, or zeros where it has none
  columns_at : List Row → ℕ → List ℕ
  columns_at [] p = replicate d 0
  columns_at (r ∷ rs) p = cond (eqb p r.position) r.columns (columns_at rs p)

  -- at a row's position, its columns
  at_row : (lo hi : ℕ) (rs : List Row) → rising lo hi (map Row.position rs) ≡ true → (r : Row) → Memᴰ r rs
      → (lo ≤ r.position) × (columns_at rs r.position ≡ r.columns)
  unfolding columns_at
  at_row lo hi [] e r m = absurd (Memᴰ.not-nil m)
  at_row lo hi (x ∷ xs) e r m =
      let c = rising_cons lo hi x.position (map Row.position xs) e in
      go c.low (Memᴰ.cases_cons m) (λ n. at_row (suc x.position) hi xs c.rest r n)
    where
      go : lo ≤ x.position → (r ≡ x) ⊎ Memᴰ r xs → (Memᴰ r xs → (suc x.position ≤ r.position) × (columns_at xs r.position ≡ r.columns))
          → (lo ≤ r.position) × (cond (eqb r.position x.position) x.columns (columns_at xs r.position) ≡ r.columns)
      go u (inl q) f = rw q (u, rw (eq-eqb x.position x.position refl))
      go u (inr n) f = let t = f n in (omega arith, rw (ne_eqb r.position x.position (λ w. let a = t.0 in omega arith)) t.1)

  -- what holds of every row's columns and of zeros holds of those at every position
  at_all : (P : List ℕ → Type 0) → P (replicate d 0) → (rs : List Row) → ((r : Row) → Memᴰ r rs → P r.columns) → (p : ℕ) → P (columns_at rs p)
  unfolding columns_at
  at_all P w [] f p = w
  at_all P w (x ∷ xs) f p = go (eqb p x.position) (at_all P w xs (λ r m. f r (Memᴰ.tail m)) p)
    where
      go : (b : Bool) → P (columns_at xs p) → P (cond b x.columns (columns_at xs p))
      go true h = f x (Memᴰ.head refl)
      go false h = h

  -- the tape of M quotes
  pub tape_of : ℕ → List Row → List (List ℕ)
  tape_of M rs = map (columns_at rs) (run 1 M)

  pub length_tape : (M : ℕ) (rs : List Row) → length (tape_of M rs) ≡ M
  unfolding tape_of
  length_tape M rs = length-map (run 1 M) (columns_at rs) ∙ length_run 1 M

  tape_at : (M : ℕ) (rs : List Row) (k : ℕ) → k < M → get_or (tape_of M rs) k [] ≡ columns_at rs (1 + k)
  unfolding tape_of
  tape_at M rs k h = get_or_run (columns_at rs) [] 1 M k h

  -- rows of d columns make a tape of such quotes
  pub tape_wide : (M : ℕ) (rs : List Row) → Fit d rs → WideAll d (tape_of M rs)
  tape_wide M rs fit k h = let e = length_tape M rs in rw (tape_at M rs k (omega arith)) (at_all (λ (x : List ℕ). length x ≡ d) (length-replicate d 0) rs fit (1 + k))

  -- every column of the tape holds what a cell can
  pub tape_small : (M : ℕ) (rs : List Row) → ((r : Row) → Memᴰ r rs → Small r.columns) → (k : ℕ) → Small (get_or (tape_of M rs) k [])
  tape_small M rs small k = go (dec_lt k M)
    where
      go : Dec (k < M) → Small (get_or (tape_of M rs) k [])
      go (yes h) = rw (tape_at M rs k h) (at_all Small (zeros_small d) rs small (1 + k))
      go (no n) = let e = length_tape M rs in rw (get_or-eq_default (tape_of M rs) [] {n = k} (omega arith)) (λ i. zero-le)

  module _ (directions N M : ℕ) (rs : List Row) (window : map Row.position rs ≡ between (window_start M N) M) (right : any (wrong_end d directions rs) rs ≡ false) where
    -- the first position of the window of N
    abbrev S : ℕ
    S = window_start M N

    -- the quotes of the tape
    abbrev qs : List (List ℕ)
    qs = tape_of M rs

    from_one : (1 ≤ S) × (S ≤ suc M)
    unfolding window_start
    from_one = omega arith

    rises : rising S M (map Row.position rs) ≡ true
    rises = rw window (rising_between S M from_one.1)

    -- the quote of the tape at a row's position
    quote_row : (r : Row) → Memᴰ r rs → quote_at qs r.position ≡ r.columns
    unfolding quote_at
    quote_row r m =
        let b = rising_bounds S M r.position (map Row.position rs) rises (into_map Row.position r rs m) in
        let e : 1 + (r.position - 1) ≡ r.position = omega (arith, from_one) in
        tape_at M rs (r.position - 1) (omega (arith, from_one)) ∙ ap (columns_at rs) e ∙ (at_row S M rs rises r m).1

    -- the tape leaves the rows
    pub tape_rows : rows_of (holding d N directions qs) ≡ rs
    unfolding rows_of row_of
    tape_rows =
        rw (length_tape M rs, ← window, map_map)
        (map_same_mem (λ r. row_of (holding d N directions qs) r.position) (λ r. r) rs
        (λ r m. let e = ends_are d directions S M qs rs from_one.0 window quote_row right r m in rw (length_tape M rs, ← e.0, ← e.1, quote_row r m))
        ∙ map-id rs)
