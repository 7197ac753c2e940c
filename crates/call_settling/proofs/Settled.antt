-- The tables that are settled by what was found hold the rows after the quote.
use mathlib.Core.Path.{◌≡◌, sym, ap, ◌∙◌}
use mathlib.Core.Logic.{◌⊎◌, inl, inr}
use Prim.Native.Nat.{ℕ, ◌+◌, ◌-◌, ◌*◌, ◌≤◌, ◌<◌}
use native.Mathlib.Nat.{le_refl, mul-one}
use native.Mathlib.Omega.{arith}
use mathlib.Core.Bool.{true, not}
use mathlib.Core.List.{List, [], ◌∷◌, ◌++◌, map, append-nil}
use lib.Dec.{eqb}
use lib.ListN.{length, get_or, take, drop}
use Rattle.lists.specs.Lists.{filter, flat, run}
use Rattle.lists.proofs.Cells.{map_run, cells_part}
use Rattle.lists.proofs.Filters.{map-append, map_map, flat_append, length_filter}
use Rattle.lists.proofs.Members.{contains_filter, mem_contains, into_map, mem_none}
use Rattle.lists.proofs.Places.{rising_at}
use Rattle.lists.proofs.Rising.{rising_run, rising_filter}
use Rattle.lists.proofs.Runs.{length_run, into_run}
use Rattle.skyline.specs.Skyline.{window_start}
use Rattle.head.specs.declared.Head.{Head}
use Rattle.model.specs.Rows.{Row, Tables, row_at, rows_in, filled, expiring, renamed, over_older, retired_by, row_after, lower_end_among, rows_after}
use Rattle.model.specs.Book.{book_rows}
use Rattle.model.specs.Promises.{tables}
use Rattle.model.proofs.Torn.{upper_astray, upper_place}
use Rattle.table_cells.specs.Marked.{marked, Below}
use Rattle.table_cells.proofs.Marking.{length_marked}
use Rattle.table_finding.specs.Found.{Rows, live, over, retires, retired}
use Rattle.call_settling.specs.declared.Finding.{Finding}
use Rattle.call_settling.specs.Findings.{expired_places, held_rows, retired_places, Finds, Placed}
use Rattle.call_settling.specs.Settled.{rows_put, lowers_put, uppers_put, Ready}
use Rattle.call_settling.proofs.Reading.{rows_part, get_or_marked}
use Rattle.call_settling.proofs.Standing.{Admitted, within, long, whole, held_is, places, position_at_lem, left_is}
use Rattle.call_settling.proofs.Findings.{next_is, found_lower, found_by, found_gone}
use Rattle.call_settling.proofs.Putting.{rows_less, put_one}

module _ {h : Head} {x : List ℕ} {t : Tables} (a : Admitted h x t) where
  abbrev e : ℕ
  e = expired_places h

  -- how many rows are left
  abbrev k : ℕ
  k = h.held - e

  abbrev g : ℕ
  g = expiring h.newest h.capacity

  abbrev next : List Row
  next = rows_after h.dimensions h.directions h.capacity h.newest x (book_rows h t)

  abbrev left : List Row
  left = filter (λ r. not (eqb r.position g)) (book_rows h t)

  next_columns : flat (map Row.columns next) ≡ take (h.held * h.dimensions - e * h.dimensions) (drop (e * h.dimensions) t.columns) ++ x
  unfolding row_after flat row_at
  next_columns =
      rw (next_is a, map-append, map_map, map_map, flat_append, append-nil, rows_less)
      (ap (λ (l : List ℕ). l ++ x) (rows_part h.dimensions t.columns e k))

  next_positions : map Row.position next ≡ take k (drop e t.positions) ++ ((h.newest + 1) ∷ [])
  unfolding row_after row_at
  next_positions =
      rw (next_is a, map-append, map_map, map_map)
      (ap (λ (l : List ℕ). l ++ ((h.newest + 1) ∷ [])) (cells_part 0 t.positions e k (omega (arith, places a, (long a).positions))))

  next_lowers : map Row.lower_end next ≡ map (renamed g) (take k (drop e t.lower_ends)) ++ (lower_end_among h.dimensions h.directions x left ∷ [])
  unfolding row_after row_at
  next_lowers =
      rw (left_is a, next_is a, map-append, map_map, map_map, ← cells_part 0 t.lower_ends e k (omega (arith, places a, (long a).lower_ends)), map_map)

  -- the upper end of a row that is left
  upper_at : (i : ℕ) → e ≤ i → i < e + k
      → retired_by h.dimensions h.directions x (h.newest + 1) (row_at h.dimensions t i) ≡ get_or (marked (retired_places h x t.columns t.upper_ends) (h.newest + 1) t.upper_ends) i 0
  unfolding retired_by over_older row_at retired retires live over Rattle.table_finding.specs.Found.row_at
  upper_at i u v =
      sym (get_or_marked (retired_places h x t.columns t.upper_ends) (h.newest + 1) t.upper_ends i (omega (arith, places a, (long a).upper_ends))
      ∙ rw (contains_filter, mem_contains i (run e k) (into_run e k i u v)))

  next_uppers : map Row.upper_end next ≡ take k (drop e (marked (retired_places h x t.columns t.upper_ends) (h.newest + 1) t.upper_ends)) ++ (0 ∷ [])
  unfolding row_after
  next_uppers =
      let us = marked (retired_places h x t.columns t.upper_ends) (h.newest + 1) t.upper_ends in
      rw (next_is a, map-append, map_map, map_map)
      (ap (λ (l : List ℕ). l ++ (0 ∷ []))
      (map_run (λ i. retired_by h.dimensions h.directions x (h.newest + 1) (row_at h.dimensions t i)) (λ i. get_or us i 0) e k upper_at
      ∙ cells_part 0 us e k (omega (arith, places a, (long a).upper_ends, length_marked (retired_places h x t.columns t.upper_ends) (h.newest + 1) t.upper_ends))))

  module _ {ps : List ℕ} {f : Finding} (v : Finds h x t.columns t.upper_ends ps f) where
    -- the retired places are those of rows held
    pub retired_below : Below (drop f.at ps) h.held
    unfolding retired
    retired_below =
        rw v.listed (record {
          low = λ i l.
              omega (
                arith,
                places a,
                length_filter (retires s) (run e k),
                length_run e k,
                (rising_at e (h.held - 1) (filter (retires s) (run e k)) i (rising_filter (retires s) e (h.held - 1) (run e k) (rising_run e (h.held - 1) e k (le_refl e) (omega (arith, places a)))) l).1,
              );
        })
      where
        s : Rows
        s = held_rows h x t.columns t.upper_ends

    -- the columns may be settled
    pub ready_columns : (f.reachable ≡ true → h.capacity * h.dimensions + h.dimensions ≤ length t.columns) → Ready h f.reachable h.dimensions f.by t.columns
    ready_columns s = rw (found_by a v) (record {
      narrow = (within a).bounded_columns;
      bounded = (within a).small_capacity;
      by_held = (places a).1;
      room = (places a).3;
      held_fit = (places a).2;
      long = (long a).columns;
      spare = s;
    })

    -- and a table of one cell a row
    ready_cells : (cells : List ℕ) → h.capacity ≤ length cells → (f.reachable ≡ true → h.capacity + 1 ≤ length cells) → Ready h f.reachable 1 f.by cells
    ready_cells cells l s = rw (found_by a v) (record {
      narrow = omega arith;
      bounded = (within a).small_capacity;
      by_held = (places a).1;
      room = (places a).3;
      held_fit = (places a).2;
      long = rw mul-one l;
      spare = λ e. rw mul-one (s e);
    })

    pub ready_positions : (f.reachable ≡ true → h.capacity + 1 ≤ length t.positions) → Ready h f.reachable 1 f.by t.positions
    ready_positions = ready_cells t.positions (long a).positions

    pub ready_lowers : (f.reachable ≡ true → h.capacity + 1 ≤ length t.lower_ends) → Ready h f.reachable 1 f.by t.lower_ends
    ready_lowers = ready_cells t.lower_ends (long a).lower_ends

    pub ready_uppers : (f.reachable ≡ true → h.capacity + 1 ≤ length t.upper_ends) → Ready h f.reachable 1 f.by t.upper_ends
    ready_uppers = ready_cells t.upper_ends (long a).upper_ends

    -- the tables hold the rows after the quote
    pub settled : {cs' ps' ls' us' : List ℕ} → cs' ≡ rows_put h h.dimensions f.by x t.columns → ps' ≡ rows_put h 1 f.by ((h.newest + 1) ∷ []) t.positions
        → ls' ≡ lowers_put h f.by f.gone f.lower t.lower_ends → us' ≡ uppers_put h f.by (drop f.at ps) t.upper_ends
        → tables cs' ps' ls' us' ≡ filled h.dimensions h.capacity next t
    unfolding filled rows_put lowers_put uppers_put
    settled c p l u =
        rw (c, p ∙ put_one h f.by ((h.newest + 1) ∷ []) t.positions, l, u, next_columns, next_positions, next_lowers, next_uppers, found_by a v, found_gone a v, found_lower a v, v.listed)

  -- where a position expires its row is the first
  first_row : 0 < g → (0 < h.held) × (g ≡ window_start h.newest h.capacity + 0)
  unfolding expiring window_start
  first_row z = omega (arith, held_is a, (within a).some_capacity)

  -- where the expired row's upper end is
  pub placed : Placed h t.upper_ends
  unfolding book_rows rows_in row_at
  placed = record {
    below = a.below;
    some = (within a).some_capacity;
    full = held_is a;
    uppers_fit = omega (arith, places a, (long a).upper_ends);
    upper = λ z. go (first_row z) (upper_place h.newest (row 0) (mem_none (upper_astray h.newest) (row 0) (book_rows h t) (into_map row 0 (run 0 h.held) (into_run 0 h.held 0 (le_refl 0) (omega (arith, (first_row z).0)))) (whole a).upper_ends_lem));
  }
    where
      row : ℕ → Row
      row = row_at h.dimensions t

      go : (0 < h.held) × (g ≡ window_start h.newest h.capacity + 0) → ((row 0).upper_end ≡ 0) ⊎ (((row 0).position < (row 0).upper_end) × ((row 0).upper_end ≤ h.newest))
          → ((row 0).upper_end ≡ 0) ⊎ ((g ≤ (row 0).upper_end) × ((row 0).upper_end ≤ h.newest))
      go z (inl e) = inl e
      go z (inr u) = let p = position_at_lem a 0 z.0 in inr (omega (arith, z.1, u.0, p), u.1)
