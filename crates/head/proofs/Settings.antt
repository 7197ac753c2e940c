-- The cases of `settings_hold`, and the ranges that settings which hold are in.
use mathlib.Core.Path.{◌≡◌}
use Prim.Native.Nat.{ℕ, ◌/◌, ◌^◌, ◌≤◌, ◌<◌}
use mathlib.Core.Bool.{true, false, ◌&&◌}
use lib.Dec.{leb, eqb}
use borrow.Author.Tests.{leb-true, le-leb, lt-leb}
use Rattle.lists.proofs.Booleans.{and_left, and_right, and_false}
use Rattle.head.specs.Heads.{settings_hold}

module _ (d N directions : ℕ) where
  pub no_column : d < 1 → settings_hold d N directions ≡ false
  unfolding settings_hold
  no_column h = simp (lt-leb 1 d h)

  pub many_columns : 6 < d → settings_hold d N directions ≡ false
  unfolding settings_hold
  many_columns h = simp (lt-leb d 6 h, and_false)

  pub no_capacity : N < 1 → settings_hold d N directions ≡ false
  unfolding settings_hold
  no_capacity h = simp (lt-leb 1 N h, and_false)

  pub large_capacity : 1024 < N → settings_hold d N directions ≡ false
  unfolding settings_hold
  large_capacity h = simp (lt-leb N 1024 h, and_false)

  pub by_directions : 1 ≤ d → d ≤ 6 → 1 ≤ N → N ≤ 1024 → settings_hold d N directions ≡ eqb (directions / 2 ^ d) 0
  unfolding settings_hold
  by_directions a b u v = simp (le-leb 1 d a, le-leb d 6 b, le-leb 1 N u, le-leb N 1024 v)

-- the ranges of settings that hold
pub record Within (d N : ℕ) : Type 0 where
  pub some_column : 1 ≤ d
  pub bounded_columns : d ≤ 6
  pub some_capacity : 1 ≤ N
  pub small_capacity : N ≤ 1024

pub settings_within : (d N directions : ℕ) → settings_hold d N directions ≡ true → Within d N
unfolding settings_hold
settings_within d N directions h =
    let ranges = and_left ((leb 1 d && leb d 6) && (leb 1 N && leb N 1024)) (eqb (directions / 2 ^ d) 0) h in
    let columns = and_left (leb 1 d && leb d 6) (leb 1 N && leb N 1024) ranges in
    let capacity = and_right (leb 1 d && leb d 6) (leb 1 N && leb N 1024) ranges in
    record {
      some_column = leb-true 1 d (and_left (leb 1 d) (leb d 6) columns);
      bounded_columns = leb-true d 6 (and_right (leb 1 d) (leb d 6) columns);
      some_capacity = leb-true 1 N (and_left (leb 1 N) (leb N 1024) capacity);
      small_capacity = leb-true N 1024 (and_right (leb 1 N) (leb N 1024) capacity);
    }
