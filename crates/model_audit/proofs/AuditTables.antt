-- Tables with zeros behind their rows are as if filled with these rows, and the other way round.
use mathlib.Core.Path.{◌≡◌, refl, sym, ap, ◌∙◌}
use Prim.Native.Nat.{ℕ, zero, suc, ◌+◌, ◌-◌, ◌*◌, ◌≤◌, zero-le}
use native.Mathlib.Omega.{arith}
use native.Mathlib.Nat.{zero-mul, suc-mul, add_comm, mul-le-mul_right}
use mathlib.Core.Bool.{true, false}
use mathlib.Core.List.{List, [], ◌∷◌, ◌++◌, map, Memᴰ}
use lib.Dec.{ltb}
use lib.ListN.{length, get_or, take, drop, replicate, length-append, length-map, length-replicate, length-drop, take-append-drop}
use lib.Seq.{get_or-drop, length-take-le, drop-append_seam, take_at, drop-cons, take-add, drop-drop}
use borrow.Author.Tests.{ltb-false, not-true}
use Rattle.lists.specs.Lists.{any, flat, run, padded}
use Rattle.lists.proofs.Booleans.{none_left}
use Rattle.lists.proofs.Filters.{map_map}
use Rattle.lists.proofs.Members.{of_map}
use Rattle.model.specs.Rows.{Row, Tables, row_at, rows_in, filled}
use Rattle.model_audit.specs.Audit.{Small, zero_from}
use Rattle.model.proofs.Tables.{Fit, cells_counted}
use Rattle.model.proofs.Sound.{any_zeros}

-- ---- cells of one table

-- where no cell is above 0, all are 0
all_zeros : (l : List ℕ) → any (ltb 0) l ≡ false → l ≡ replicate (length l) 0
unfolding any
all_zeros [] e = refl
all_zeros (zero ∷ xs) e = ap (λ (r : List ℕ). 0 ∷ r) (all_zeros xs e)
all_zeros (suc x ∷ xs) e =
    absurd (let h = ltb-false 0 (suc x) (none_left (ltb 0 (suc x)) (any (ltb 0) xs) e) in omega arith)

-- what was written over the front, with zeros behind, has zeros behind
padded_zero : (n : ℕ) (l cells : List ℕ) → padded n l cells ≡ cells → zero_from (length l) n cells ≡ true
unfolding padded zero_from
padded_zero n l cells e =
    rw (← e, drop-append_seam l, take_at (replicate (n - length l) 0) (drop n cells) (n - length l) (length-replicate {A = ℕ} (n - length l) 0), any_zeros)

-- and room for n cells
padded_room : (n : ℕ) (l cells : List ℕ) → padded n l cells ≡ cells → n ≤ length cells
unfolding padded
padded_room n l cells e = omega (arith, simp (length-append, length-replicate) at (ap length e))

-- cells with zeros from k to n are as if their first k had been written over them
padded_same : (n k : ℕ) (cells : List ℕ) → k ≤ n → n ≤ length cells → zero_from k n cells ≡ true → padded n (take k cells) cells ≡ cells
unfolding padded zero_from
padded_same n k cells h room e =
    rw (length-take-le k cells (omega arith), ← zeros) (ap (λ (r : List ℕ). take k cells ++ r) rest ∙ take-append-drop k cells)
  where
    M : List ℕ
    M = take (n - k) (drop k cells)

    zeros : M ≡ replicate (n - k) 0
    zeros = all_zeros M (not-true (any (ltb 0) M) e) ∙ ap (λ (j : ℕ). replicate j 0) (length-take-le (n - k) (drop k cells) (simp length-drop (omega arith)))

    rest : M ++ drop n cells ≡ drop k cells
    rest =
        let j : n ≡ k + (n - k) = omega arith in
        ap (λ (i : ℕ). M ++ drop i cells) j ∙ ap (λ (r : List ℕ). M ++ r) (sym (drop-drop (n - k) k cells)) ∙ take-append-drop (n - k) (drop k cells)

-- ---- tables

-- cells read one by one
cells_read : (l : List ℕ) (a k : ℕ) → a + k ≤ length l → map (λ i. get_or l i 0) (run a k) ≡ take k (drop a l)
unfolding run
cells_read l a zero h = refl
cells_read l a (suc k) h = rw (drop-cons l a 0 (omega arith)) (ap (λ (r : List ℕ). get_or l a 0 ∷ r) (cells_read l (suc a) k (omega arith)))

-- columns read row by row
columns_read : (l : List ℕ) (d a k : ℕ) → flat (map (λ i. take d (drop (i * d) l)) (run a k)) ≡ take (k * d) (drop (a * d) l)
unfolding flat run
columns_read l d a zero = rw zero-mul
columns_read l d a (suc k) =
    let e : suc k * d ≡ d + k * d = rw suc-mul (add_comm (k * d) d) in
    rw (columns_read l d (suc a) k, e, take-add, drop-drop, suc-mul)

small_take : (n : ℕ) (l : List ℕ) → Small l → Small (take n l)
small_take zero l small i = zero-le
small_take (suc n) [] small i = zero-le
small_take (suc n) (x ∷ xs) small zero = small 0
small_take (suc n) (x ∷ xs) small (suc i) = small_take n xs (λ j. small (suc j)) i

-- rows that are read hold cells of the table
pub read_small : (d k : ℕ) (t : Tables) → Small t.columns → (r : Row) → Memᴰ r (rows_in d k t) → Small r.columns
unfolding rows_in row_at
read_small d k t small r m =
    let p = of_map (row_at d t) r (run 0 k) m in
    rw p.2 (small_take d (drop (p.0 * d) t.columns) (λ i. rw get_or-drop (small (p.0 * d + i))))

-- each table has N places, with zeros from place k on
pub record Clean (d N k : ℕ) (t : Tables) : Type 0 where
  pub columns_room : N * d ≤ length t.columns
  pub positions_room : N ≤ length t.positions
  pub lower_room : N ≤ length t.lower_ends
  pub upper_room : N ≤ length t.upper_ends
  pub columns_zero : zero_from (k * d) (N * d) t.columns ≡ true
  pub positions_zero : zero_from k N t.positions ≡ true
  pub lower_zero : zero_from k N t.lower_ends ≡ true
  pub upper_zero : zero_from k N t.upper_ends ≡ true

-- clean tables are as if filled with the rows that are read from them
pub clean_filled : (d N k : ℕ) (t : Tables) → k ≤ N → Clean d N k t → filled d N (rows_in d k t) t ≡ t
unfolding filled rows_in row_at
clean_filled d N k t h c =
    rw (
      map_map Row.columns (row_at d t) (run 0 k),
      map_map Row.position (row_at d t) (run 0 k),
      map_map Row.lower_end (row_at d t) (run 0 k),
      map_map Row.upper_end (row_at d t) (run 0 k),
      columns_read t.columns d 0 k,
      cells_read t.positions 0 k (omega arith),
      cells_read t.lower_ends 0 k (omega arith),
      cells_read t.upper_ends 0 k (omega arith),
      zero-mul,
      padded_same (N * d) (k * d) t.columns (mul-le-mul_right d h) c.columns_room c.columns_zero,
      padded_same N k t.positions h c.positions_room c.positions_zero,
      padded_same N k t.lower_ends h c.lower_room c.lower_zero,
      padded_same N k t.upper_ends h c.upper_room c.upper_zero,
    )

-- tables that are as if filled with rows are clean behind these
pub filled_clean : (d N : ℕ) (rs : List Row) (t : Tables) → Fit d rs → filled d N rs t ≡ t → Clean d N (length rs) t
unfolding filled
filled_clean d N rs t fit e = record {
  columns_room = padded_room (N * d) (flat (map Row.columns rs)) t.columns (ap Tables.columns e);
  positions_room = padded_room N (map Row.position rs) t.positions (ap Tables.positions e);
  lower_room = padded_room N (map Row.lower_end rs) t.lower_ends (ap Tables.lower_ends e);
  upper_room = padded_room N (map Row.upper_end rs) t.upper_ends (ap Tables.upper_ends e);
  columns_zero = rw (← (cells_counted d rs fit)) (padded_zero (N * d) (flat (map Row.columns rs)) t.columns (ap Tables.columns e));
  positions_zero = rw length-map at (padded_zero N (map Row.position rs) t.positions (ap Tables.positions e));
  lower_zero = rw length-map at (padded_zero N (map Row.lower_end rs) t.lower_ends (ap Tables.lower_ends e));
  upper_zero = rw length-map at (padded_zero N (map Row.upper_end rs) t.upper_ends (ap Tables.upper_ends e));
}
