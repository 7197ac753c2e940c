-- Which positions the book holds at the end of a list of calls, live and retired: a live one is on some skyline of n up to N, one that is
-- not is on none, then or after any further quotes, and every one held is on a past list.
use mathlib.Core.Path.{◌≡◌, sym, ap, ◌∙◌}
use mathlib.Core.Logic.{◌↔◌}
use Prim.Native.Nat.{ℕ, suc, ◌+◌, ◌-◌, ◌≤◌}
use native.Mathlib.Omega.{arith}
use mathlib.Core.Bool.{Bool, false}
use mathlib.Core.List.{List, map, Memᴰ}
use lib.Dec.{eqb}
use lib.ListN.{length-append}
use borrow.Author.Tests.{eqb-true, eq-eqb}
use Rattle.lists.specs.Lists.{filter, between}
use Rattle.lists.proofs.Filters.{filter_map, map_map, map-id}
use Rattle.lists.proofs.Members.{into_filter, of_filter}
use Rattle.lists.proofs.Runs.{into_run, of_run}
use Rattle.dominance.proofs.Renewal.{renewed_irreflexive}
use Rattle.skyline.specs.Skyline.{window_start}
use Rattle.skyline.specs.Past.{upper_end}
use Rattle.skyline.proofs.Free.{of_skyline}
use Rattle.skyline.proofs.Ends.{upper_cong}
use Rattle.skyline.proofs.Past.{live_iff_listed, retired_never_listed, held_listed_alone, held_iff_past}
use Rattle.model.specs.Rows.{Row, is_live, live_rows}
use Rattle.model.specs.Reference.{Reference, newest, over, skyline_of, past_of, row_of, rows_of, with_quotes}
use Rattle.model.specs.Calls.{Lending, Lent, Expected, World, expected_step, runs, expected_first, world_at_end, reference_at_end, positions_in, live_positions_in}
use Rattle.model_claims.specs.Claims.{ListedAlone}
use Rattle.model.proofs.Quotes.{over_within}
use Rattle.model.proofs.Sound.{positions_are}
use Rattle.model.proofs.Simulation.{Simulation, simulation_rows}
use Rattle.model.proofs.Replay.{replay_ends}

module _ (s : Reference) where
  -- the positions of the live rows
  abbrev live : List ℕ
  live = map Row.position (live_rows (rows_of s))

  -- the first position of the window of N
  abbrev S : ℕ
  S = window_start (newest s) s.capacity

  abbrev irr : (p : ℕ) → over s p p ≡ false
  irr = renewed_irreflexive s.dimensions s.directions s.quotes

  -- they are the positions of the window without an upper end
  live_are : live ≡ filter (λ p. eqb (upper_end (over s) (newest s) p) 0) (between S (newest s))
  unfolding live_rows is_live rows_of row_of
  live_are = rw (filter_map, map_map, map-id)

  pub live_is : (p : ℕ) → Memᴰ p live ↔ ((S ≤ p) × (p ≤ newest s) × (upper_end (over s) (newest s) p ≡ 0))
  unfolding between
  live_is p = rw live_are (there, back)
    where
      f : ℕ → Bool
      f q = eqb (upper_end (over s) (newest s) q) 0

      there : Memᴰ p (filter f (between S (newest s))) → (S ≤ p) × (p ≤ newest s) × (upper_end (over s) (newest s) p ≡ 0)
      there m =
          let t = of_filter f p (between S (newest s)) m in
          let r = of_run S (suc (newest s) - S) p t.0 in
          (r.0, omega arith, eqb-true (upper_end (over s) (newest s) p) 0 t.1)

      back : (S ≤ p) × (p ≤ newest s) × (upper_end (over s) (newest s) p ≡ 0) → Memᴰ p (filter f (between S (newest s)))
      back t = into_filter f p (between S (newest s)) (into_run S (suc (newest s) - S) p t.0 (omega arith)) (eq-eqb (upper_end (over s) (newest s) p) 0 t.2)

  -- a position of a reference model has a live row exactly if some n from 1 to N lists it
  pub live_iff_skyline : (p : ℕ) → Memᴰ p live ↔ ((n : ℕ) × (1 ≤ n) × (n ≤ s.capacity) × Memᴰ p (skyline_of s n))
  unfolding skyline_of window_start
  live_iff_skyline p = (there, back)
    where
      there : Memᴰ p live → (n : ℕ) × (1 ≤ n) × (n ≤ s.capacity) × Memᴰ p (skyline_of s n)
      there m = let t = (live_is p).0 m in (live_iff_listed (over s) irr s.capacity (newest s) p t.0 t.1).0 t.2

      back : (n : ℕ) × (1 ≤ n) × (n ≤ s.capacity) × Memᴰ p (skyline_of s n) → Memᴰ p live
      back t =
          let r = of_skyline (over s) (window_start (newest s) t.0) (newest s) p t.3 in
          let h : S ≤ p = omega arith in
          (live_is p).1 (h, r.1, (live_iff_listed (over s) irr s.capacity (newest s) p h r.1).1 t)

  -- a position without a live row is on no skyline of n up to N, after any further quotes
  pub retired_off_skylines : (more : List (List ℕ)) (p n : ℕ) → p ≤ newest s → n ≤ s.capacity
      → (Memᴰ p live → ⊥) → Memᴰ p (skyline_of (with_quotes s more) n) → ⊥
  unfolding skyline_of window_start
  retired_off_skylines more p n h k retired m =
      let counted = length-append s.quotes more in
      let r = of_skyline (over (with_quotes s more)) (window_start (newest (with_quotes s more)) n) (newest (with_quotes s more)) p m in
      let low : S ≤ p = omega arith in
      let same = upper_cong (over (with_quotes s more)) (over s) S (newest s) (λ a b u v w z. over_within s.dimensions s.directions s.quotes more a b (omega arith) v (omega arith) z) p low h in
      retired_never_listed (over (with_quotes s more)) (newest s) (newest (with_quotes s more)) (window_start (newest (with_quotes s more)) n) p (omega arith)
      (λ e. retired ((live_is p).1 (low, h, sym same ∙ e))) m

  -- a held position is the past list with n1 and n2 at its own place
  pub held_alone : (p : ℕ) → Memᴰ p (map Row.position (rows_of s)) → ListedAlone s p
  unfolding past_of between window_start
  held_alone p m =
      let r = of_run S (suc (newest s) - S) p (rw (positions_are s) at m) in
      let a : window_start (newest s) (newest s + 1 - p) ≡ p = omega arith in
      let b : newest s + 1 - (newest s + 1 - p) ≡ p = omega arith in
      record { some = omega arith; most = omega arith; alone = rw (a, b) (held_listed_alone (over s) irr p) }

  -- a position is held exactly if some n1 and n2 with 1 ≤ n1 ≤ n2 ≤ N have it on their past list
  pub held_iff_on_past : (p : ℕ)
      → Memᴰ p (map Row.position (rows_of s)) ↔ ((n1 : ℕ) × (n2 : ℕ) × (1 ≤ n1) × (n1 ≤ n2) × (n2 ≤ s.capacity) × Memᴰ p (past_of s n1 n2))
  unfolding past_of between
  held_iff_on_past p =
      let i = held_iff_past (over s) irr s.capacity (newest s) p in
      rw (positions_are s) (
        λ m. let r = of_run S (suc (newest s) - S) p m in i.0 (r.0, omega arith),
        λ t. let r = i.1 t in into_run S (suc (newest s) - S) p r.0 (omega arith),
      )

-- ---- the list of calls

-- a book that simulates the reference model holds the positions of its rows
pub simulation_positions : (k : Expected) (w : World) → Simulation k w → positions_in w ≡ map Row.position (rows_of k.reference)
simulation_positions k w j = ap (map Row.position) (simulation_rows k w j)

pub simulation_live : (k : Expected) (w : World) → Simulation k w → live_positions_in w ≡ live k.reference
simulation_live k w j = ap (λ (rs : List Row). map Row.position (live_rows rs)) (simulation_rows k w j)

module _ (cs : List Lending) (l : Lent) where
  -- the reference model at the end
  abbrev s : Reference
  s = reference_at_end cs l

  positions_at_end : positions_in (world_at_end cs l) ≡ map Row.position (rows_of s)
  positions_at_end = simulation_positions (runs expected_step cs (expected_first l)).1 (world_at_end cs l) (replay_ends cs l)

  live_at_end : live_positions_in (world_at_end cs l) ≡ live s
  live_at_end = simulation_live (runs expected_step cs (expected_first l)).1 (world_at_end cs l) (replay_ends cs l)

  -- at the end of any list of calls a position has a live row exactly if some n from 1 to N lists it
  pub live_row_iff_listed : (p : ℕ) → Memᴰ p (live_positions_in (world_at_end cs l)) ↔ ((n : ℕ) × (1 ≤ n) × (n ≤ s.capacity) × Memᴰ p (skyline_of s n))
  live_row_iff_listed p = rw live_at_end (live_iff_skyline s p)

  -- one that has none then is listed by no n up to N, then or after any further quotes
  pub retired_row_never_listed : (more : List (List ℕ)) (p n : ℕ) → p ≤ newest s → n ≤ s.capacity
      → (Memᴰ p (live_positions_in (world_at_end cs l)) → ⊥) → Memᴰ p (skyline_of (with_quotes s more) n) → ⊥
  retired_row_never_listed more p n h k retired = retired_off_skylines s more p n h k (λ m. retired (rw live_at_end m))

  -- every position held is the past list with n1 and n2 at its own place
  pub held_row_listed_alone : (p : ℕ) → Memᴰ p (positions_in (world_at_end cs l)) → ListedAlone s p
  held_row_listed_alone p m = held_alone s p (rw positions_at_end at m)

  -- a position is held exactly if some n1 and n2 with 1 ≤ n1 ≤ n2 ≤ N have it on their past list
  pub held_row_iff_past : (p : ℕ)
      → Memᴰ p (positions_in (world_at_end cs l)) ↔ ((n1 : ℕ) × (n2 : ℕ) × (1 ≤ n1) × (n1 ≤ n2) × (n2 ≤ s.capacity) × Memᴰ p (past_of s n1 n2))
  held_row_iff_past p = rw positions_at_end (held_iff_on_past s p)
