-- The four tables of two books, once N quotes are in on the late one: the same N places, positions moved and both ends lifted.
use mathlib.Core.Path.{◌≡◌, refl, sym, ap, ap₂, ◌∙◌}
use Prim.Native.Nat.{ℕ, suc, ◌-◌, ◌*◌, ◌≤◌}
use native.Mathlib.Omega.{arith}
use mathlib.Core.List.{List, ◌++◌, map, append-nil}
use lib.ListN.{length, take, replicate, length-map}
use Rattle.lists.specs.Lists.{flat, between, padded}
use Rattle.lists.proofs.Filters.{map_map, map-id}
use Rattle.lists.proofs.Members.{map_same_mem}
use Rattle.lists.proofs.Runs.{length_run}
use Rattle.lists.proofs.Writing.{take_padded}
use Rattle.skyline.specs.Skyline.{window_start}
use Rattle.model.specs.Rows.{Row, Tables, filled}
use Rattle.model.specs.Reference.{Reference, newest, row_of, rows_of}
use Rattle.model.specs.Calls.{Lent}
use Rattle.model.proofs.Tables.{cells_counted}
use Rattle.model.proofs.Sound.{rows_wide}
use Rattle.model.proofs.Simulation.{Invariant}
use Rattle.model_late.specs.Shift.{moved, lift, lifted_row, LiftedTables, Behind}
use Rattle.model_late.proofs.Models.{late_rows}

-- the first n cells of a table that is filled from n cells
full_front : (n : ℕ) (l t : List ℕ) → length l ≡ n → padded n l t ≡ t → take n t ≡ l
full_front n l t e f =
    let none : n - length l ≡ 0 = omega arith in
    ap (take n) (sym f)
    ∙ take_padded n l t (omega arith)
    ∙ ap (λ (z : ℕ). l ++ replicate z 0) none
    ∙ append-nil l

-- the same of two tables, one filled from what the other is filled from, mapped
mapped_front : (g : ℕ → ℕ) (n : ℕ) (l t l' t' : List ℕ) → l ≡ map g l' → length l' ≡ n → padded n l t ≡ t → padded n l' t' ≡ t' → take n t ≡ map g (take n t')
mapped_front g n l t l' t' m e f f' =
    full_front n l t (ap length m ∙ length-map l' g ∙ e) f ∙ m ∙ ap (map g) (sym (full_front n l' t' e f'))

-- a book has N rows once N quotes are in
rows_full : (s : Reference) → s.capacity ≤ newest s → length (rows_of s) ≡ s.capacity
unfolding rows_of between window_start
rows_full s h =
    let S = window_start (newest s) s.capacity in
    length-map (between S (newest s)) (row_of s) ∙ length_run S (suc (newest s) - S) ∙ omega arith

module _ {m : ℕ} {morning late : Reference} (b : Behind m morning late) (full : late.capacity ≤ newest late)
    (l : Lent) (f : Invariant morning l) (l' : Lent) (f' : Invariant late l') where
  -- a field of the rows of one book is that of the other's, mapped
  field_mapped : {A : Type 0} (field : Row → A) (g : A → A) → ((r : Row) → field (lifted_row m r) ≡ g (field r))
      → map field (rows_of morning) ≡ map g (map field (rows_of late))
  field_mapped {A} field g e =
      ap (map field) (late_rows b full)
      ∙ map_map field (lifted_row m) (rows_of late)
      ∙ map_same_mem (λ r. field (lifted_row m r)) (λ r. g (field r)) (rows_of late) (λ r i. e r)
      ∙ sym (map_map g field (rows_of late))

  -- a table of one cell a row
  front : (field : Row → ℕ) (g : ℕ → ℕ) (table : Tables → List ℕ) → ((r : Row) → field (lifted_row m r) ≡ g (field r))
      → ((d N : ℕ) (rs : List Row) (t : Tables) → table (filled d N rs t) ≡ padded N (map field rs) (table t))
      → take late.capacity (table l.tables) ≡ map g (take late.capacity (table l'.tables))
  front field g table e is =
      mapped_front g late.capacity (map field (rows_of morning)) (table l.tables) (map field (rows_of late)) (table l'.tables)
      (field_mapped field g e) (length-map (rows_of late) field ∙ rows_full late full)
      (rw (← b.capacity) (sym (is morning.dimensions morning.capacity (rows_of morning) l.tables) ∙ ap table f.tables))
      (sym (is late.dimensions late.capacity (rows_of late) l'.tables) ∙ ap table f'.tables)

  -- the columns, d cells a row
  columns_front : take (late.capacity * late.dimensions) l.tables.columns ≡ take (late.capacity * late.dimensions) l'.tables.columns
  unfolding filled lifted_row
  columns_front =
      let same : map Row.columns (rows_of morning) ≡ map Row.columns (rows_of late) =
      field_mapped Row.columns (λ (c : List ℕ). c) (λ r. refl) ∙ map-id (map Row.columns (rows_of late)) in
      let cells = flat (map Row.columns (rows_of late)) in
      let long : length cells ≡ late.capacity * late.dimensions =
      cells_counted late.dimensions (rows_of late) (rows_wide late f'.wide) ∙ ap (λ (n : ℕ). n * late.dimensions) (rows_full late full) in
      let size : late.capacity * late.dimensions ≡ morning.capacity * morning.dimensions =
      sym (ap₂ (λ (N d : ℕ). N * d) b.capacity b.dimensions) in
      full_front (late.capacity * late.dimensions) cells l.tables.columns long
      (ap₂ (λ (n : ℕ) (c : List (List ℕ)). padded n (flat c) l.tables.columns) size (sym same) ∙ ap Tables.columns f.tables)
      ∙ sym (full_front (late.capacity * late.dimensions) cells l'.tables.columns long (ap Tables.columns f'.tables))

  -- the four tables
  pub tables_lifted : LiftedTables m late.dimensions late.capacity l.tables l'.tables
  unfolding filled lifted_row
  tables_lifted = record {
    columns = columns_front;
    positions = front Row.position (moved m) Tables.positions (λ r. refl) (λ d N rs t. refl);
    lower_ends = front Row.lower_end (lift m) Tables.lower_ends (λ r. refl) (λ d N rs t. refl);
    upper_ends = front Row.upper_end (lift m) Tables.upper_ends (λ r. refl) (λ d N rs t. refl);
  }
