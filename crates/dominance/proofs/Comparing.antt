-- A turn of the loop that compares two quotes column by column, and dominance by what it finds.
use mathlib.Core.Path.{◌≡◌, refl, sym}
use Prim.Native.Nat.{ℕ, zero, suc, ◌+◌, ◌/◌, ◌^◌, ◌≤◌, ◌<◌}
use native.Mathlib.Nat.{le_refl, le_antisymm, div-one, div-div-eq-div-mul, pow-suc}
use native.Mathlib.Numerals.{add-one}
use native.Mathlib.Omega.{arith}
use mathlib.Core.Bool.{Bool, true, false, ◌&&◌, ◌||◌, not}
use mathlib.Core.List.{List}
use lib.Bits.{bit_and, and_mask}
use lib.Dec.{eqb}
use lib.ListN.{get_or, take, drop}
use lib.Seq.{get_or-take, get_or-drop}
use Rattle.dominance.specs.Dominance.{higher, better, better_at, no_worse, some_better, dominates}
use Rattle.dominance.specs.Compared.{compared}

-- the lowest bit by a mask
pub lowest : (bits : ℕ) → higher bits 0 ≡ eqb (bit_and bits 1) 1
unfolding higher
lowest bits = rw (div-one, ← and_mask bits 1)

-- bit i is the lowest once the bits below it are shifted out
pub shifted : (directions bits i : ℕ) → bits ≡ directions / 2 ^ i → higher bits 0 ≡ higher directions i
unfolding higher
shifted directions bits i e = rw (div-one, e)

-- one more shift
pub halved : (directions i : ℕ) → directions / 2 ^ i / 2 ≡ directions / 2 ^ (i + 1)
halved directions i = rw (add-one, pow-suc) (div-div-eq-div-mul directions (2 ^ i) 2)

-- i columns of a quote p and of the cells from place s on have been compared
pub record Comparing (d directions : ℕ) (p cells : List ℕ) (s bits : ℕ) (b w : Bool) (i : ℕ) : Type 0 where
  pub within : i ≤ d
  pub bits≡ : bits ≡ directions / 2 ^ i
  pub better≡ : b ≡ some_better i directions p (drop s cells)
  pub worse≡ : w ≡ some_better i directions (drop s cells) p

pub start : (d directions : ℕ) (p cells : List ℕ) (s : ℕ) → Comparing d directions p cells s directions false false 0
unfolding some_better
start d directions p cells s = record { within = omega arith; bits≡ = sym (div-one directions); better≡ = refl; worse≡ = refl }

pub more : {d directions : ℕ} {p cells : List ℕ} {s bits : ℕ} {b w : Bool} {i : ℕ} → Comparing d directions p cells s bits b w i → i < d
    → (x y : Bool) → x ≡ better (higher bits 0) (get_or p i 0) (get_or cells (s + i) 0) → y ≡ better (higher bits 0) (get_or cells (s + i) 0) (get_or p i 0)
    → Comparing d directions p cells s (bits / 2) (b || x) (w || y) (i + 1)
unfolding some_better better_at
more {d} {directions} {p} {cells} {s} {bits} {b} {w} {i} v l x y e f =
    let bit = shifted directions bits i v.bits≡ in
    record {
      within = omega arith;
      bits≡ = rw v.bits≡ (halved directions i);
      better≡ = rw (add-one, v.better≡, e, bit, get_or-drop);
      worse≡ = rw (add-one, v.worse≡, f, bit, get_or-drop);
    }

pub finish : {d directions : ℕ} {p cells : List ℕ} {s bits : ℕ} {b w : Bool} {i : ℕ} → Comparing d directions p cells s bits b w i → d ≤ i
    → record { better = b; worse = w } ≡ compared d directions p (drop s cells)
unfolding compared
finish v h = let e = le_antisymm v.within h in rw (← e, ← v.better≡, ← v.worse≡)

no_worse_not : (d directions : ℕ) (p q : List ℕ) → no_worse d directions p q ≡ not (some_better d directions q p)
unfolding no_worse some_better
no_worse_not zero directions p q = refl
no_worse_not (suc i) directions p q = rw (no_worse_not i directions p q) (go (some_better i directions q p) (better_at directions i q p))
  where
    go : (a b : Bool) → not a && not b ≡ not (a || b)
    go true b = refl
    go false b = refl

-- p dominates q exactly if it is better in some column and worse in none
pub dominates_by : (d directions : ℕ) (p q : List ℕ) → dominates d directions p q ≡ (compared d directions p q).better && not (compared d directions p q).worse
unfolding dominates compared
dominates_by d directions p q = rw (no_worse_not d directions p q) (swap (not (some_better d directions q p)) (some_better d directions p q))
  where
    swap : (a b : Bool) → a && b ≡ b && a
    swap true true = refl
    swap true false = refl
    swap false true = refl
    swap false false = refl

-- q dominates p exactly if p is worse in some column and better in none
pub dominated_by_lem : (d directions : ℕ) (p q : List ℕ) → dominates d directions q p ≡ (compared d directions p q).worse && not (compared d directions p q).better
unfolding compared
dominated_by_lem d directions p q = dominates_by d directions q p

-- p is no worse than q exactly if it is worse in no column
pub no_worse_by : (d directions : ℕ) (p q : List ℕ) → no_worse d directions p q ≡ not (compared d directions p q).worse
unfolding compared
no_worse_by d directions p q = no_worse_not d directions p q

-- columns that are the same are better and worse alike
pub some_better_same : (d directions : ℕ) (p p' q q' : List ℕ) → ((i : ℕ) → i < d → get_or p i 0 ≡ get_or p' i 0) → ((i : ℕ) → i < d → get_or q i 0 ≡ get_or q' i 0)
    → some_better d directions p q ≡ some_better d directions p' q'
unfolding some_better better_at
some_better_same zero directions p p' q q' e f = refl
some_better_same (suc i) directions p p' q q' e f =
    rw (some_better_same i directions p p' q q' (λ j h. e j (omega arith)) (λ j h. f j (omega arith)), e i (le_refl (suc i)), f i (le_refl (suc i)))

-- the first d columns decide
pub compared_take : (d directions : ℕ) (p q : List ℕ) → compared d directions p (take d q) ≡ compared d directions p q
unfolding compared
compared_take d directions p q =
    rw (
      some_better_same d directions p p (take d q) q (λ i h. refl) (λ i h. get_or-take d q i 0 h),
      some_better_same d directions (take d q) q p p (λ i h. get_or-take d q i 0 h) (λ i h. refl),
    )
