-- The pass that removes a watch: its invariant, and what it comes to.
use mathlib.Core.Path.{◌≡◌, refl, ap}
use Prim.Native.Nat.{ℕ, ◌+◌, ◌<◌, ◌≤◌}
use native.Mathlib.Numerals.{add-one}
use native.Mathlib.Omega.{arith}
use mathlib.Core.Bool.{Bool, true, false, ◌&&◌, not}
use mathlib.Core.List.{List, [], ◌++◌, append-nil}
use lib.Dec.{ltb, eqb}
use lib.ListN.{length, get_or, take, set, replicate, length-append, drop_of_length-le}
use Rattle.lists.specs.Lists.{keep, filter, without, padded}
use Rattle.lists.proofs.Filters.{filter_filter}
use Rattle.lists.proofs.Growing.{length_prefix, filter_more, padded_more}
use Rattle.model.specs.Book.{standing}

-- a watch that stands, and is not that of n
unfoldable pub stays : ℕ → ℕ → Bool
stays n watch = ltb 0 watch && not (eqb n watch)

-- of the eight watches the first i are passed, and count of them stay and are written
pub record Removing (watches : List ℕ) (n : ℕ) (kept : List ℕ) (count i : ℕ) : Type 0 where
  pub eight : length watches ≡ 8
  pub within : i ≤ 8
  pub counted : count ≡ length (filter (stays n) (take i watches))
  pub written : kept ≡ padded 8 (filter (stays n) (take i watches)) watches

module _ (watches : List ℕ) (n : ℕ) where
  pub start : length watches ≡ 8 → Removing watches n (replicate 8 0) 0 0
  unfolding filter padded
  start e = record { eight = e; within = omega arith; counted = refl; written = rw (drop_of_length-le watches {i = 8} (omega arith)) }

  module _ (kept : List ℕ) (count i : ℕ) (s : Removing watches n kept count i) where
    pub finish : 8 ≤ i → kept ≡ padded 8 (without n (standing watches)) watches
    unfolding stays without standing
    finish h =
        let e : i ≡ 8 = omega (arith, s.within) in
        rw (filter_filter (λ y. not (eqb n y)) (ltb 0) (take 8 watches)) (rw e at s.written)

    module _ (h : i < 8) where
      pub bounded : count < 8
      bounded = omega (arith, s.counted, length_prefix (stays n) watches i)

      -- one more is passed
      passed : (b : Bool) → stays n (get_or watches i 0) ≡ b
          → filter (stays n) (take (i + 1) watches) ≡ filter (stays n) (take i watches) ++ keep b (get_or watches i 0) []
      passed b e = let l : i < length watches = omega (arith, s.eight) in rw (add-one i, ← e) (filter_more (stays n) watches i 0 l)

      pub more_stays : stays n (get_or watches i 0) ≡ true → Removing watches n (set kept count (get_or watches i 0)) (count + 1) (i + 1)
      more_stays e =
          record {
            eight = s.eight;
            within = omega arith;
            counted = rw (passed true e, length-append) (ap (λ (k : ℕ). k + 1) s.counted);
            written = rw (passed true e, s.written, s.counted) (padded_more 8 (filter (stays n) (take i watches)) watches (get_or watches i 0) (omega (arith, bounded, s.counted)));
          }

      pub more_goes : stays n (get_or watches i 0) ≡ false → Removing watches n kept count (i + 1)
      more_goes e =
          record {
            eight = s.eight;
            within = omega arith;
            counted = rw (passed false e, append-nil) s.counted;
            written = rw (passed false e, append-nil) s.written;
          }
