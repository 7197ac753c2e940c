-- How many positions a list of the reference model has at most.
use Prim.Native.Nat.{ℕ, suc, ◌+◌, ◌-◌, ◌≤◌}
use native.Mathlib.Omega.{arith}
use mathlib.Core.Bool.{Bool, not}
use lib.ListN.{length}
use Rattle.lists.specs.Lists.{between}
use Rattle.lists.proofs.Filters.{length_filter}
use Rattle.lists.proofs.Runs.{length_run}
use Rattle.skyline.specs.Skyline.{window_start, dominated_in, skyline}
use Rattle.model.specs.Reference.{Reference, newest, over, skyline_of, past_of}

-- a skyline of positions from a to b has at most as many
skyline_bounded : (dom : ℕ → ℕ → Bool) (a b : ℕ) → length (skyline dom a b) ≤ suc b - a
unfolding skyline between
skyline_bounded dom a b = omega (arith, length_filter (λ p. not (dominated_in dom a b p)) (between a b), length_run a (suc b - a))

-- a skyline of a window of n has at most n positions
pub skyline_short : (s : Reference) (n : ℕ) → 1 ≤ n → length (skyline_of s n) ≤ n
unfolding skyline_of window_start
skyline_short s n h = omega (arith, skyline_bounded (over s) (window_start (newest s) n) (newest s))

-- and so has one that begins there and ended before the newest
pub past_short : (s : Reference) (n1 n2 : ℕ) → 1 ≤ n1 → n1 ≤ n2 → length (past_of s n1 n2) ≤ n2
unfolding past_of window_start
past_short s n1 n2 h k = omega (arith, skyline_bounded (over s) (window_start (newest s) n2) (newest s + 1 - n1))
