-- Loops over the rows of a window from position a to position b, for a test that no row before the window passes: they count or write the
-- positions that it picks.
use mathlib.Core.Path.{◌≡◌}
use Prim.Native.Nat.{ℕ, ◌+◌, ◌-◌, ◌≤◌, ◌<◌}
use native.Mathlib.Omega.{arith}
use mathlib.Core.Bool.{Bool, false}
use mathlib.Core.List.{List}
use lib.ListN.{length}
use mir.Val.{bool_byte}
use Rattle.table_listing.specs.Picked.{picked}
use Rattle.table_listing.proofs.Picking.{picked_skip, Counted, counted_start, counted_skip, counted_more}
use Rattle.table_listing.proofs.Writing.{cells, Writing, writing_start, writing_skip}

module _ (test : ℕ → Bool) (first a b : ℕ) where
  -- the positions of the window below place i are counted
  pub record Counting (n i : ℕ) : Type 0 where
    pub reached : a ≤ first + i
    pub counted : Counted test first (b + 1 - first) n i

  -- the positions picked below place i stand as cells at the front of the output
  pub record Listing (encode : ℕ → List ℕ) (entry out : List ℕ) (at i : ℕ) : Type 0 where
    pub reached : a ≤ first + i
    pub writing : Writing encode test first (b + 1 - first) entry out at i

  pub counting_more : {n i : ℕ} → Counting n i → i < b + 1 - first → (on : Bool) → on ≡ test i → Counting (n + bool_byte on) (i + 1)
  counting_more v h on e = let r = v.reached in record { reached = omega arith; counted = counted_more v.counted h on e }

  module _ (low : first ≤ a) (near : a ≤ b + 1) (early : (i : ℕ) → first + i < a → test i ≡ false) where
    pub counting_start : Counting 0 (a - first)
    counting_start =
        record {
          reached = omega arith;
          counted = counted_skip (counted_start test first (b + 1 - first)) (a - first) (omega arith) (omega arith) (λ q _ h. early q (omega arith));
        }

    pub listing_start : (encode : ℕ → List ℕ) (entry : List ℕ) → length (cells encode (picked test first (b + 1 - first))) ≤ length entry
        → Listing encode entry entry 0 (a - first)
    listing_start encode entry h =
        record {
          reached = omega arith;
          writing =
              writing_skip (writing_start encode test first (b + 1 - first) entry h) (a - first) (omega arith)
              (picked_skip test first 0 (a - first) (omega arith) (λ q _ k. early q (omega arith)));
        }
