-- Books that lists of calls leave: the first one, the next one, the reference model that each simulates, and what follows:
-- neither 11 nor 12 is said of them, and each end names a row.
use mathlib.Core.Path.{◌≡◌, refl, sym, ap, subst, ◌∙◌}
use mathlib.Core.Logic.{◌⊎◌, inl, inr}
use Prim.Native.Nat.{ℕ, suc, ◌-◌, ◌≤◌, ◌<◌}
use native.Mathlib.Omega.{arith}
use mathlib.Core.Bool.{Bool, true, not}
use mathlib.Core.List.{List, [], ◌∷◌, ◌++◌, map, Memᴰ}
use Rattle.lists.specs.Lists.{between}
use Rattle.lists.proofs.Runs.{into_run}
use Rattle.skyline.specs.Skyline.{window_start}
use Rattle.skyline.specs.Past.{lower_end, upper_end}
use Rattle.skyline.proofs.Ends.{lower_spec, upper_within}
use Rattle.refusals.specs.declared.Refusal.TheVariants.{Settings}
use Rattle.refusals.specs.Refusals.{number, first_of}
use Rattle.head.specs.Heads.{settings_hold}
use Rattle.model.specs.Rows.{Row}
use Rattle.model.specs.Reference.{Reference, unopened, newest, over, row_of, rows_of, head_of, is_open}
use Rattle.model.specs.Book.{book_rows, watchful_answer}
use Rattle.model.specs.Calls.{Call, Outputs, Lending, Lent, Seen, World, book_step, Expected, expected_step, runs, world_first, expected_first, Reached}
use Rattle.model.proofs.Sound.{positions_are, row_held}
use Rattle.model.proofs.Simulation.{Invariant, Simulation, book_with, simulation_by, judged_watchful, simulation_rows}
use Rattle.model.proofs.Replay.{replay_ends}

-- a call behind a list of calls
runs_snoc : {S : Type 0} (step : Call → Outputs → S → Seen × S) (cs : List Lending) (c : Lending) (s : S)
    → (runs step (cs ++ (c ∷ [])) s).1 ≡ (step c.call c.outputs (runs step cs s).1).1
unfolding runs
runs_snoc step [] c s = refl
runs_snoc step (b ∷ cs) c s = runs_snoc step cs c (step b.call b.outputs s).1

-- a head of zeros, and anything lent
pub reached_first : (l : Lent) → Reached (world_first l)
unfolding runs
reached_first l = record { calls = []; lent = l; ends = refl }

-- one call more
pub reached_step : (c : Call) (o : Outputs) {w : World} → Reached w → Reached (book_step c o w).1
reached_step c o r =
    let one : Lending = record { call = c; outputs = o } in
    record {
      calls = r.calls ++ (one ∷ []);
      lent = r.lent;
      ends = runs_snoc book_step r.calls one (world_first r.lent) ∙ ap (λ (v : World). (book_step c o v).1) r.ends;
    }

-- the reference model after the same calls
abbrev pub expected : {w : World} → Reached w → Expected
expected r = (runs expected_step r.calls (expected_first r.lent)).1

-- the book simulates it
pub reached_simulation : {w : World} (r : Reached w) → Simulation (expected r) w
reached_simulation r = subst (Simulation (expected r)) r.ends (replay_ends r.calls r.lent)

-- what holds before any opening and by the invariant holds of it
pub reached_by : (P : World → Type 0) → ((l : Lent) → P (book_with unopened l)) → ((s : Reference) (l : Lent) → Invariant s l → P (book_with s l)) → {w : World}
    → Reached w → P w
reached_by P before after {w} r = simulation_by (λ k v. P v) before after (expected r) w (reached_simulation r)

-- neither 11 nor 12 is said of it: a call is refused with 3, or answered by what it adds
pub reached_judged : (more : List (Bool × ℕ)) {w : World} → Reached w
    → watchful_answer w.head w.lent.tables w.lent.watches more
    ≡ first_of ((not (settings_hold w.head.dimensions w.head.capacity w.head.directions), number Settings) ∷ more)
unfolding watchful_answer first_of settings_hold head_of is_open
reached_judged more =
    reached_by
    (λ w. watchful_answer w.head w.lent.tables w.lent.watches more ≡ first_of ((not (settings_hold w.head.dimensions w.head.capacity w.head.directions), number Settings) ∷ more))
    (λ l. refl) (λ s l f. judged_watchful s l f more more refl)

-- ---- ends

-- 0 or the position of a row
abbrev pub Named : List Row → ℕ → Type 0
Named rs p = (p ≡ 0) ⊎ Memᴰ p (map Row.position rs)

module _ (s : Reference) where
  -- a position of the window of N has a row
  held_position : (p : ℕ) → window_start (newest s) s.capacity ≤ p → p ≤ newest s → Memᴰ p (map Row.position (rows_of s))
  unfolding between
  held_position p h k = rw (positions_are s) (into_run (window_start (newest s) s.capacity) (suc (newest s) - window_start (newest s) s.capacity) p h (omega arith))

  -- so both ends of a row of the reference model name one
  lower_named : (r : Row) → Memᴰ r (rows_of s) → Named (rows_of s) r.lower_end
  unfolding row_of
  lower_named r m = let t = row_held s r m in rw t.4 (go t.0 t.2 (lower_spec (over s) S t.0).named)
    where
      S : ℕ
      S = window_start (newest s) s.capacity

      go : (p : ℕ) → p ≤ newest s → (lower_end (over s) S p ≡ 0) ⊎ ((S ≤ lower_end (over s) S p) × (lower_end (over s) S p < p) × (over s (lower_end (over s) S p) p ≡ true))
          → Named (rows_of s) (lower_end (over s) S p)
      go p h (inl e) = inl e
      go p h (inr u) = inr (held_position (lower_end (over s) S p) u.0 (let w = u.1 in omega arith))

  upper_named : (r : Row) → Memᴰ r (rows_of s) → Named (rows_of s) r.upper_end
  unfolding row_of
  upper_named r m = let t = row_held s r m in rw t.4 (go t.0 t.1 (upper_within (over s) (newest s) t.0))
    where
      go : (p : ℕ) → window_start (newest s) s.capacity ≤ p → (upper_end (over s) (newest s) p ≡ 0) ⊎ ((p < upper_end (over s) (newest s) p) × (upper_end (over s) (newest s) p ≤ newest s))
          → Named (rows_of s) (upper_end (over s) (newest s) p)
      go p h (inl e) = inl e
      go p h (inr u) = inr (held_position (upper_end (over s) (newest s) p) (let w = u.0 in omega arith) u.1)

-- both ends of each row of a book that calls left are 0 or the position of one of its rows
pub reached_names : {w : World} → Reached w → (r : Row) → Memᴰ r (book_rows w.head w.lent.tables)
    → Named (book_rows w.head w.lent.tables) r.lower_end × Named (book_rows w.head w.lent.tables) r.upper_end
reached_names {w} g r =
    let s = (expected g).reference in
    subst (λ (rs : List Row). Memᴰ r rs → Named rs r.lower_end × Named rs r.upper_end) (sym (simulation_rows (expected g) w (reached_simulation g))) (λ m. (lower_named s r m, upper_named s r m))
