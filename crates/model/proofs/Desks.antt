-- Laws of watch records as numbers: desk and n of a record are read back, and a record that is a watch is that of its desk and its n.
use mathlib.Core.Path.{◌≡◌, refl, sym, ◌∙◌}
use mathlib.Core.Logic.{◌⊎◌, inl, inr}
use Prim.Native.Nat.{ℕ, zero, suc, ◌*◌, ◌≤◌, ◌<◌}
use native.Mathlib.Omega.{arith}
use mathlib.Core.Bool.{true, false, ◌&&◌}
use lib.Dec.{leb, eqb}
use borrow.Author.Tests.{leb-true, le-leb, eqb-false, eq-eqb, ne_eqb}
use Rattle.lists.proofs.Booleans.{and_left, and_right}
use Rattle.head.specs.declared.Desk.{Desk}
use Rattle.head.specs.declared.Desk.TheVariants.{One, Two}
use Rattle.head.specs.Desks.{desk_number, desk_unit, record_of, desk_in, size_in, watch_of}
use Rattle.model.specs.Shares.{of_desk}
use Rattle.model.specs.Book.{is_watch}

-- ---- records

-- the desk of a record is read back
pub desk_of_record : (desk n : ℕ) → n < desk_unit → desk_in (record_of desk n) ≡ desk
unfolding desk_in record_of
desk_of_record desk n h = omega arith

-- and its n
pub size_of_record : (desk n : ℕ) → n < desk_unit → size_in (record_of desk n) ≡ n
unfolding size_in record_of
size_of_record desk n h = omega arith

-- a record is that of its desk and its n
pub record_of_parts : (w : ℕ) → record_of (desk_in w) (size_in w) ≡ w
unfolding desk_in size_in record_of
record_of_parts w = omega arith

-- so records of one desk and one n are the same
pub record_injective : (v w : ℕ) → desk_in v ≡ desk_in w → size_in v ≡ size_in w → v ≡ w
record_injective v w d n = sym (record_of_parts v) ∙ rw (d, n) (record_of_parts w)

-- ---- the desks

-- a desk is one or two
pub desk_range : (desk : Desk) → (1 ≤ desk_number desk) × (desk_number desk ≤ 2)
desk_range One = (omega arith, omega arith)
desk_range Two = (omega arith, omega arith)

module _ (desk : Desk) (n : ℕ) (small : n < desk_unit) where
  -- desk and n of a desk's watch are read back
  pub desk_of_watch : desk_in (watch_of desk n) ≡ desk_number desk
  unfolding watch_of
  desk_of_watch = desk_of_record (desk_number desk) n small

  pub size_of_watch : size_in (watch_of desk n) ≡ n
  unfolding watch_of
  size_of_watch = size_of_record (desk_number desk) n small

  -- a desk's watch is the desk's
  pub watch_own : of_desk desk (watch_of desk n) ≡ true
  unfolding of_desk
  watch_own = rw desk_of_watch (eq-eqb (desk_number desk) (desk_number desk) refl)

  -- and not another's
  pub watch_other : (other : Desk) → eqb (desk_number other) (desk_number desk) ≡ false → of_desk other (watch_of desk n) ≡ false
  unfolding of_desk
  watch_other other e = rw desk_of_watch (ne_eqb (desk_number desk) (desk_number other) (λ f. eqb-false (desk_number other) (desk_number desk) e (sym f)))

-- ---- what a watch is

-- a record of desk one or two, its n from 1 to N
pub record IsWatch (N w : ℕ) : Type 0 where
  pub some_desk : 1 ≤ desk_in w
  pub bounded_desks : desk_in w ≤ 2
  pub some_size : 1 ≤ size_in w
  pub most_size : size_in w ≤ N

pub watch_parts : (N w : ℕ) → is_watch N w ≡ true → IsWatch N w
unfolding is_watch
watch_parts N w e =
    let three = and_left (leb 1 (desk_in w) && leb (desk_in w) 2 && leb 1 (size_in w)) (leb (size_in w) N) e in
    let two = and_left (leb 1 (desk_in w) && leb (desk_in w) 2) (leb 1 (size_in w)) three in
    record {
      some_desk = leb-true 1 (desk_in w) (and_left (leb 1 (desk_in w)) (leb (desk_in w) 2) two);
      bounded_desks = leb-true (desk_in w) 2 (and_right (leb 1 (desk_in w)) (leb (desk_in w) 2) two);
      some_size = leb-true 1 (size_in w) (and_right (leb 1 (desk_in w) && leb (desk_in w) 2) (leb 1 (size_in w)) three);
      most_size = leb-true (size_in w) N (and_right (leb 1 (desk_in w) && leb (desk_in w) 2 && leb 1 (size_in w)) (leb (size_in w) N) e);
    }

pub parts_watch : (N w : ℕ) → IsWatch N w → is_watch N w ≡ true
unfolding is_watch
parts_watch N w p =
    rw (le-leb 1 (desk_in w) p.some_desk, le-leb (desk_in w) 2 p.bounded_desks, le-leb 1 (size_in w) p.some_size, le-leb (size_in w) N p.most_size)

-- a desk's watch of n from 1 to N is one
pub watch_is : (N : ℕ) (desk : Desk) (n : ℕ) → n < desk_unit → 1 ≤ n → n ≤ N → is_watch N (watch_of desk n) ≡ true
watch_is N desk n small some most =
    let r = desk_range desk in
    parts_watch N (watch_of desk n) record {
      some_desk = rw (desk_of_watch desk n small) r.0;
      bounded_desks = rw (desk_of_watch desk n small) r.1;
      some_size = rw (size_of_watch desk n small) some;
      most_size = rw (size_of_watch desk n small) most;
    }

-- above every record of desk one or two
abbrev pub highest : ℕ
highest = 3 * desk_unit

-- a watch is above 0 and not above that
pub watch_range : (N w : ℕ) → is_watch N w ≡ true → (1 ≤ w) × (w ≤ highest)
unfolding desk_in
watch_range N w e = let p = watch_parts N w e in (omega (arith, p.some_desk), omega (arith, p.bounded_desks))

-- a watch is that of desk one or of desk two
pub watch_desk : (N w : ℕ) → is_watch N w ≡ true → ((desk_in w ≡ 1) ⊎ (desk_in w ≡ 2))
watch_desk N w e = let p = watch_parts N w e in go (desk_in w) p.some_desk p.bounded_desks
  where
    go : (d : ℕ) → 1 ≤ d → d ≤ 2 → (d ≡ 1) ⊎ (d ≡ 2)
    go zero a b = absurd (omega arith)
    go (suc zero) a b = inl refl
    go (suc (suc zero)) a b = inr refl
    go (suc (suc (suc d))) a b = absurd (omega arith)
