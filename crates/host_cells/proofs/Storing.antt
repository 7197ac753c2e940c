-- Turns of the loops that read eight records from sixteen cells and store them there, and what they come to.
use Rattle.std.proofs.Common.{◌≡◌, ℕ, ◌+◌, ◌*◌, ◌<◌, ◌≤◌, ◌≢◌, List, map, length, get_or, set, drop, sym, ap, ◌∙◌, arith, below_more, get_or-set_other, get_or-set_same}
use Rattle.std.proofs.lemmas.List.{drop-set-lt}
use mathlib.Core.Path.{ap₂}
use lib.ListN.{length-set}
use lib.Seq.{take_all}
use Rattle.lists.specs.Lists.{run}
use Rattle.lists.proofs.Cells.{map_run}
use Rattle.lists.proofs.Filters.{map_map}
use Rattle.lists.proofs.Places.{map_places}
use Rattle.head.specs.declared.Watch.{Watch}
use Rattle.head.specs.Desks.{record_of}
use Rattle.watch_records.specs.Records.{record_number, watched}
use Rattle.host_cells.specs.Cells.{record_at, eight_records}

-- the record that is empty
abbrev pub empty : Watch
empty = record { n = 0; desk = 0 }

-- the first i records are those in the cells
pub record Same (records : List Watch) (cells : List ℕ) (i : ℕ) : Type 0 where
  pub eight : length records ≡ 8
  pub same : (k : ℕ) → k < i → record_number (get_or records k empty) ≡ record_at cells k

-- all eight of them
pub all_same : {records : List Watch} {cells : List ℕ} {i : ℕ} → 8 ≤ i → Same records cells i → watched records ≡ eight_records cells
unfolding watched eight_records
all_same {records} {cells} {i} h v =
    let e = v.eight in
    ap (map record_number) (sym (map_places empty 8 records (omega arith) ∙ take_all 8 records (omega arith)))
    ∙ map_map record_number (λ k. get_or records k empty) (run 0 8)
    ∙ map_run (λ k. record_number (get_or records k empty)) (record_at cells) 0 8 (λ k _ l. v.same k (omega arith))

-- one record more is read
pub read_more : {records : List Watch} {cells : List ℕ} {i : ℕ} → Same records cells i → i < 8
    → Same (set records i (record { n = get_or cells (2 * i) 0; desk = get_or cells (2 * i + 1) 0 })) cells (i + 1)
read_more {records} {cells} {i} v h = record {
  eight = simp length-set v.eight;
  same =
      below_more _ _
      (λ k l. let ne : k ≢ i = omega arith in rw get_or-set_other (v.same k l))
      (let lt : i < length records = omega (arith, v.eight) in ap record_number (get_or-set_same records i _ empty lt));
}

-- the cells once a record is stored
abbrev pub stored : List ℕ → ℕ → Watch → List ℕ
stored cells i w = set (set cells (2 * i) w.n) (2 * i + 1) w.desk

-- a record before it stays
apart : (cells : List ℕ) (i k : ℕ) (w : Watch) → k < i → record_at (stored cells i w) k ≡ record_at cells k
apart cells i k w h =
    let a : 2 * k + 1 ≢ 2 * i + 1 = omega arith in
    let b : 2 * k + 1 ≢ 2 * i = omega arith in
    let c : 2 * k ≢ 2 * i + 1 = omega arith in
    let d : 2 * k ≢ 2 * i = omega arith in
    ap₂ record_of
    (get_or-set_other _ _ _ _ 0 a ∙ get_or-set_other _ _ _ _ 0 b)
    (get_or-set_other _ _ _ _ 0 c ∙ get_or-set_other _ _ _ _ 0 d)

-- it is the one in its cells
here : (cells : List ℕ) (i : ℕ) (w : Watch) → 2 * i + 1 < length cells → record_at (stored cells i w) i ≡ record_number w
here cells i w h =
    let c : 2 * i ≢ 2 * i + 1 = omega arith in
    ap₂ record_of
    (get_or-set_same (set cells (2 * i) w.n) (2 * i + 1) w.desk 0 (simp length-set h))
    (get_or-set_other _ _ _ _ 0 c ∙ get_or-set_same cells (2 * i) w.n 0 (omega arith))

-- one record more is stored
pub store_more : {records : List Watch} {cells : List ℕ} {i : ℕ} → Same records cells i → i < 8 → 16 ≤ length cells
    → Same records (stored cells i (get_or records i empty)) (i + 1)
store_more {records} {cells} {i} v h enough = record {
  eight = v.eight;
  same =
      below_more _ _
      (λ k l. v.same k l ∙ sym (apart cells i k (get_or records i empty) l))
      (sym (here cells i (get_or records i empty) (omega arith)));
}

-- the cells past the sixteenth stay
pub beyond_stored : (cells : List ℕ) (i : ℕ) (w : Watch) → i < 8 → drop 16 (stored cells i w) ≡ drop 16 cells
beyond_stored cells i w h = drop-set-lt 16 _ (2 * i + 1) w.desk (omega arith) ∙ drop-set-lt 16 cells (2 * i) w.n (omega arith)
