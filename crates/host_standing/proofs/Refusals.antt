-- The cases of the comparison: the refusals in their order, and the answer where none is given.
use mathlib.Core.Path.{◌≡◌}
use Prim.Native.Nat.{ℕ, ◌/◌, ◌^◌, ◌≤◌, ◌<◌}
use mathlib.Core.List.{List}
use lib.ListN.{length}
use borrow.Author.Tests.{le-leb, lt-leb, eq-eqb, ne_eqb}
use Rattle.lists.proofs.Booleans.{and_false}
use Rattle.refusals.specs.Refusals.{first_of}
use Rattle.host_standing.specs.Standing.{standing, number, alike, comparison}

module _ (directions : ℕ) (p q : List ℕ) where
  -- no column
  pub few : length p < 1 → comparison directions p q ≡ 4
  unfolding comparison alike first_of
  few h = rw (lt-leb 1 (length p) h)

  -- more than six
  pub many : 6 < length p → comparison directions p q ≡ 4
  unfolding comparison alike first_of
  many h = rw (lt-leb (length p) 6 h, and_false)

  -- not as many as the other
  pub unlike : (length p ≡ length q → ⊥) → comparison directions p q ≡ 4
  unfolding comparison alike first_of
  unlike h = rw (ne_eqb (length p) (length q) h, and_false)

  module _ (some : 1 ≤ length p) (bounded : length p ≤ 6) (same : length p ≡ length q) where
    -- a direction bit too high
    pub high_bit : (directions / 2 ^ length p ≡ 0 → ⊥) → comparison directions p q ≡ 3
    unfolding comparison alike first_of
    high_bit h = rw (le-leb 1 (length p) some, le-leb (length p) 6 bounded, eq-eqb (length p) (length q) same, ne_eqb (directions / 2 ^ length p) 0 h)

    -- compared
    pub stands : directions / 2 ^ length p ≡ 0 → comparison directions p q ≡ number (standing (length p) directions p q)
    unfolding comparison alike first_of
    stands h = rw (le-leb 1 (length p) some, le-leb (length p) 6 bounded, eq-eqb (length p) (length q) same, eq-eqb (directions / 2 ^ length p) 0 h)
