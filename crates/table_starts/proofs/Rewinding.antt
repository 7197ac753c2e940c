-- Where the rows of a book start: tables that are long enough, and the rows once they are moved to the front of them.
use mathlib.Core.Path.{◌≡◌, sym, ap, ◌∙◌}
use Prim.Native.Nat.{ℕ, ◌+◌, ◌-◌, ◌*◌, ◌≤◌}
use native.Mathlib.Nat.{mul-le-mul, mul-le-mul_right, one-mul, zero-add}
use native.Mathlib.Omega.{arith}
use mathlib.Core.Bool.{true}
use mathlib.Core.List.{List}
use lib.ListN.{length, take, drop, length-drop}
use lib.Seq.{paste, length-paste, take-paste}
use Rattle.head.specs.declared.Head.{Head}
use Rattle.head.specs.Heads.{settings_hold}
use Rattle.head.proofs.Settings.{settings_within}
use Rattle.model.specs.Rows.{Tables}
use Rattle.model_claims.specs.Places.{SameFront}
use Rattle.model.specs.Calls.{Reached}
use Rattle.model.specs.Promises.{tables, world}
use Rattle.model_claims.proofs.Places.{reached_in_places}
use Rattle.table_starts.specs.declared.Start.{Start}
use Rattle.table_starts.specs.Starts.{Long, Within, FullOpened, onward, Moved, stays, moves}

-- tables as long as these are long enough
pub long_same : {t t' : Tables} → length t'.columns ≡ length t.columns → length t'.positions ≡ length t.positions → length t'.lower_ends ≡ length t.lower_ends
    → length t'.upper_ends ≡ length t.upper_ends → Long t → Long t'
long_same c p l u k = record {
  columns = rw c k.columns;
  positions = rw p k.positions;
  lower_ends = rw l k.lower_ends;
  upper_ends = rw u k.upper_ends;
}

-- none or one row of at most six cells
pub bounded_cells : {by : ℕ} (d : ℕ) → by ≤ 1 → by * d ≤ d
bounded_cells d k = omega (arith, mul-le-mul_right d k, one-mul d)

front_moved : (cells : List ℕ) (by n : ℕ) {after : List ℕ} → by + n ≤ length cells → after ≡ paste cells 0 (drop by cells) (by + n - by) → SameFront n (drop by cells) after
front_moved cells by n h e =
    let k : by + n - by ≡ n = omega arith in
    rw (e, k) record {
      long = omega (arith, length-paste cells 0 (drop by cells) n (omega (arith, zero-add n)) (omega (arith, length-drop by cells)));
      same = ap (λ (j : ℕ). take j (paste cells 0 (drop by cells) n)) (sym (zero-add n)) ∙ take-paste cells 0 (drop by cells) n (omega arith) (omega (arith, length-drop by cells));
    }

module _ {s : Start} {h : Head} {t : Tables} (k : Long t) (w : Within 1024 s) (o : FullOpened s h) (full : 1024 ≤ s.row) where
  holds : settings_hold h.dimensions h.capacity h.directions ≡ true
  holds = o.opened (omega (arith, w.bounded))

  -- the rows stand within the tables
  pub rows_inside : (s.cell + h.capacity * h.dimensions ≤ 12288) × (s.row + h.capacity ≤ 2048)
  rows_inside =
      let v = settings_within _ _ _ holds in
      omega (arith, w.bounded, w.near, v.small_capacity, mul-le-mul v.small_capacity v.bounded_columns)

  -- at the front its places hold the same
  pub rewound : {cs qs ls us : List ℕ} → cs ≡ paste t.columns 0 (drop s.cell t.columns) (s.cell + h.capacity * h.dimensions - s.cell)
      → qs ≡ paste t.positions 0 (drop s.row t.positions) (s.row + h.capacity - s.row) → ls ≡ paste t.lower_ends 0 (drop s.row t.lower_ends) (s.row + h.capacity - s.row)
      → us ≡ paste t.upper_ends 0 (drop s.row t.upper_ends) (s.row + h.capacity - s.row)
      → Moved h (onward s t) (onward (record { row = 0; cell = 0 }) (tables cs qs ls us))
  unfolding onward
  rewound c q l u =
      let i = rows_inside in
      moves holds (record {
        columns = front_moved t.columns s.cell (h.capacity * h.dimensions) (omega (arith, i.0, k.columns)) c;
        positions = front_moved t.positions s.row h.capacity (omega (arith, i.1, k.positions)) q;
        lower_ends = front_moved t.lower_ends s.row h.capacity (omega (arith, i.1, k.lower_ends)) l;
        upper_ends = front_moved t.upper_ends s.row h.capacity (omega (arith, i.1, k.upper_ends)) u;
      })

-- a book that calls left, where it goes on
pub moved_reached : {h : Head} {t u : Tables} {ws : List ℕ} → Moved h t u → Reached (world h t ws) → Reached (world h u ws)
moved_reached stays c = c
moved_reached (moves holds same) c = reached_in_places holds c same
