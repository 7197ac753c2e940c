-- What is filled into the tables is read back, the last filling counts, and no filling changes a length.
use mathlib.Core.Path.{◌≡◌, refl, sym, ap, ap₂, ◌∙◌}
use Prim.Native.Nat.{ℕ, zero, suc, ◌*◌, ◌≤◌}
use native.Mathlib.Nat.{zero-mul, suc-mul, add_comm, mul-le-mul_right}
use native.Mathlib.Omega.{arith}
use mathlib.Core.Bool.{false, ◌||◌}
use mathlib.Core.List.{List, [], ◌∷◌, ◌++◌, map, Memᴰ, append_assoc}
use lib.Dec.{ltb}
use lib.ListN.{length, get_or, take, drop, length-append, length-drop, length-map}
use lib.Seq.{length-take-le, take_at, drop-append-add}
use borrow.Author.Tests.{ltb-false}
use Rattle.lists.specs.Lists.{flat, run, padded}
use Rattle.lists.proofs.Booleans.{none_left, none_right}
use Rattle.lists.proofs.Runs.{length_run, of_run}
use Rattle.lists.proofs.Members.{of_map, map_same_mem}
use Rattle.lists.proofs.Writing.{length_padded, padded_again}
use Rattle.model.specs.Rows.{Row, Tables, row_at, rows_in, filled}
use Rattle.model.specs.Book.{short_tables}

-- every row has d columns
abbrev pub Fit : ℕ → List Row → Type 0
Fit d rs = (r : Row) → Memᴰ r rs → length r.columns ≡ d

-- tables that begin with these rows
abbrev begun : List Row → Tables → Tables
begun rs t = record {
  columns = flat (map Row.columns rs) ++ t.columns;
  positions = map Row.position rs ++ t.positions;
  lower_ends = map Row.lower_end rs ++ t.lower_ends;
  upper_ends = map Row.upper_end rs ++ t.upper_ends;
}

-- a run from one further on
run_shift : {A : Type 0} (f : ℕ → A) (a k : ℕ) → map f (run (suc a) k) ≡ map (λ i. f (suc i)) (run a k)
unfolding run
run_shift f a zero = refl
run_shift {A} f a (suc k) = ap (λ (l : List A). f (suc a) ∷ l) (run_shift f (suc a) k)

module _ (d : ℕ) where
  -- the place behind the first row of the tables
  next_row : (r : Row) (rs : List Row) (t : Tables) (i : ℕ) → length r.columns ≡ d → row_at d (begun (r ∷ rs) t) (suc i) ≡ row_at d (begun rs t) i
  unfolding row_at flat
  next_row r rs t i h =
      ap (λ (c : List ℕ). record { position = get_or (begun rs t).positions i 0; lower_end = get_or (begun rs t).lower_ends i 0; upper_end = get_or (begun rs t).upper_ends i 0; columns = take d c })
      (rw (append_assoc, suc-mul, add_comm, ← h) (drop-append-add r.columns (flat (map Row.columns rs) ++ t.columns) (i * length r.columns)))

  -- the first row of the tables
  first_row : (r : Row) (rs : List Row) (t : Tables) → length r.columns ≡ d → row_at d (begun (r ∷ rs) t) 0 ≡ r
  unfolding row_at flat
  first_row r rs t h =
      ap (λ (c : List ℕ). record { position = r.position; lower_end = r.lower_end; upper_end = r.upper_end; columns = c })
      (rw (append_assoc, zero-mul) (take_at r.columns (flat (map Row.columns rs) ++ t.columns) d h))

  -- rows that the tables begin with are read
  begun_read : (rs : List Row) (t : Tables) → Fit d rs → rows_in d (length rs) (begun rs t) ≡ rs
  unfolding rows_in run
  begun_read [] t fit = refl
  begun_read (r ∷ rs) t fit =
      let h = fit r (Memᴰ.head refl) in
      ap₂ {C = List Row} (λ (q : Row) (l : List Row). q ∷ l) (first_row r rs t h)
      (run_shift (row_at d (begun (r ∷ rs) t)) 0 (length rs)
      ∙ map_same_mem (λ i. row_at d (begun (r ∷ rs) t) (suc i)) (row_at d (begun rs t)) (run 0 (length rs)) (λ i m. next_row r rs t i h)
      ∙ begun_read rs t (λ q m. fit q (Memᴰ.tail m)))

  -- rows of d columns fill d cells each
  pub cells_counted : (rs : List Row) → Fit d rs → length (flat (map Row.columns rs)) ≡ length rs * d
  unfolding flat
  cells_counted [] fit = sym (zero-mul d)
  cells_counted (r ∷ rs) fit =
      length-append r.columns (flat (map Row.columns rs))
      ∙ rw (fit r (Memᴰ.head refl), cells_counted rs (λ q m. fit q (Memᴰ.tail m))) (add_comm d (length rs * d) ∙ sym (suc-mul (length rs) d))

  module _ (N : ℕ) (rs : List Row) (t : Tables) (bounded : length rs ≤ N) (fit : Fit d rs) where
    cells_fit : length (flat (map Row.columns rs)) ≤ N * d
    cells_fit = rw (cells_counted rs fit) (mul-le-mul_right d bounded)

    -- what is filled is read back
    pub rows_filled : rows_in d (length rs) (filled d N rs t) ≡ rs
    unfolding filled padded
    rows_filled = begun_read rs record { columns = _; positions = _; lower_ends = _; upper_ends = _ } fit

    -- the last filling counts
    pub filled_again : (rs' : List Row) → filled d N rs' (filled d N rs t) ≡ filled d N rs' t
    unfolding filled
    filled_again rs' =
        rw (
          padded_again (N * d) (flat (map Row.columns rs')) (flat (map Row.columns rs)) t.columns cells_fit,
          padded_again N (map Row.position rs') (map Row.position rs) t.positions (rw length-map bounded),
          padded_again N (map Row.lower_end rs') (map Row.lower_end rs) t.lower_ends (rw length-map bounded),
          padded_again N (map Row.upper_end rs') (map Row.upper_end rs) t.upper_ends (rw length-map bounded),
        )

    -- tables that are long enough keep their lengths
    pub filled_long : short_tables t d N ≡ false → (d' N' : ℕ) → short_tables (filled d N rs t) d' N' ≡ short_tables t d' N'
    unfolding filled short_tables
    filled_long h d' N' =
        let c = ltb (length t.columns) (N * d) in
        let p = ltb (length t.positions) N in
        let l = ltb (length t.lower_ends) N in
        let u = ltb (length t.upper_ends) N in
        let three = none_left (c || p || l) u h in
        let two = none_left (c || p) l three in
        rw (
          length_padded (N * d) (flat (map Row.columns rs)) t.columns cells_fit (ltb-false (length t.columns) (N * d) (none_left c p two)),
          length_padded N (map Row.position rs) t.positions (rw length-map bounded) (ltb-false (length t.positions) N (none_right c p two)),
          length_padded N (map Row.lower_end rs) t.lower_ends (rw length-map bounded) (ltb-false (length t.lower_ends) N (none_right (c || p) l three)),
          length_padded N (map Row.upper_end rs) t.upper_ends (rw length-map bounded) (ltb-false (length t.upper_ends) N (none_right (c || p || l) u h)),
        )

-- as many rows are read as asked for
pub length_read : (d k : ℕ) (t : Tables) → length (rows_in d k t) ≡ k
unfolding rows_in
length_read d k t = length-map (run 0 k) (row_at d t) ∙ length_run 0 k

-- rows that are read have d columns
pub read_fit : (d N k : ℕ) (t : Tables) → k ≤ N → N * d ≤ length t.columns → Fit d (rows_in d k t)
unfolding rows_in row_at
read_fit d N k t h room r m =
    let p = of_map (row_at d t) r (run 0 k) m in
    let i = p.0 in
    let b = of_run 0 k i p.1 in
    let fits : suc i * d ≤ N * d = mul-le-mul_right d (omega arith) in
    rw p.2 (length-take-le d (drop (i * d) t.columns) (simp length-drop (omega (arith, fits, suc-mul i d))))
