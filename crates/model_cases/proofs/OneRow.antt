-- M5 for every list of quotes: in a book of N = 1 one row is live once a quote was accepted.
use mathlib.Core.Path.{◌≡◌, refl, ◌∙◌}
use Prim.Native.Nat.{ℕ, suc, ◌-◌, ◌≤◌}
use native.Mathlib.Omega.{arith}
use mathlib.Core.List.{List, [], ◌∷◌}
use lib.ListN.{length}
use Rattle.lists.specs.Lists.{filter, head_or, run, between}
use Rattle.skyline.specs.Skyline.{window_start}
use Rattle.skyline.specs.Past.{upper_end}
use Rattle.model.specs.Rows.{is_live, live_rows}
use Rattle.model.specs.Reference.{Reference, Quote, ample, newest, row_of, rows_of, with_quote, opening, tells, reference_step}
use Rattle.model_audit.specs.Audit.{plays}
use Rattle.model.proofs.Lengths.{either_way}

-- the positions from one on to itself, and from the next one
run_one : (M : ℕ) → between M M ≡ M ∷ []
unfolding between run
run_one M = let one : suc M - M ≡ 1 = omega arith in rw one

run_none : (M : ℕ) → between (suc M) M ≡ []
unfolding between run
run_none M = let none : suc M - suc M ≡ 0 = omega arith in rw none

-- one row is live in a book of N = 1 that has a quote: the newest, which no younger one is over
one_live : (s : Reference) → s.capacity ≡ 1 → 1 ≤ newest s → length (live_rows (rows_of s)) ≡ 1
unfolding rows_of row_of live_rows is_live upper_end head_or filter window_start
one_live s e h =
    let start : window_start (newest s) s.capacity ≡ newest s = omega (arith, e) in
    rw (start, run_one (newest s), run_none (newest s))

-- quotes do not change the memory
plays_capacity : (qs : List (List ℕ)) (s : Reference) → (plays qs s).capacity ≡ s.capacity
unfolding plays reference_step tells with_quote
plays_capacity [] s = refl
plays_capacity (x ∷ xs) s =
    plays_capacity xs (reference_step (Quote x) ample s).next
    ∙ either_way (λ (t : Reference). t.capacity ≡ s.capacity) (reference_step (Quote x) ample s).number (with_quote s x) s (λ _. refl) refl

-- M5: after every list of quotes on a book opened with N = 1, if any was accepted, one row is live
pub one_row : (d directions : ℕ) (qs : List (List ℕ)) → 1 ≤ newest (plays qs (opening d 1 directions))
    → length (live_rows (rows_of (plays qs (opening d 1 directions)))) ≡ 1
unfolding opening
one_row d directions qs h = one_live (plays qs (opening d 1 directions)) (plays_capacity qs (opening d 1 directions)) h
