-- Laws of `picked`: one more place, places that fail, how many are picked, and a loop that counts them.
use mathlib.Core.Path.{◌≡◌, refl, sym, ap, ◌∙◌}
use Prim.Native.Nat.{ℕ, ◌+◌, ◌-◌, ◌≤◌, ◌<◌}
use native.Mathlib.Nat.{zero-add, le_antisymm}
use native.Mathlib.Numerals.{add-one}
use native.Mathlib.Omega.{arith}
use mathlib.Core.Bool.{Bool, true, false}
use mathlib.Core.List.{[], ◌∷◌, ◌++◌, map, append-nil}
use lib.ListN.{length, length-append, length-map}
use mir.Val.{bool_byte}
use Rattle.lists.specs.Lists.{keep, filter, run}
use Rattle.lists.proofs.Filters.{filter_append, length_filter, map-append}
use Rattle.lists.proofs.Runs.{length_run, run_snoc, filter_same, filter_upto}
use Rattle.table_listing.specs.Picked.{picked}

module _ (test : ℕ → Bool) (first : ℕ) where
  pub picked_none : picked test first 0 ≡ []
  unfolding picked filter run
  picked_none = refl

  -- one more place
  pub picked_more : (i : ℕ) → picked test first (i + 1) ≡ picked test first i ++ keep (test i) (first + i) []
  unfolding picked filter
  picked_more i = rw (add-one, run_snoc, zero-add, filter_append, map-append) (go (test i))
    where
      at : ℕ → ℕ
      at k = first + k

      go : (b : Bool) → map at (filter test (run 0 i)) ++ map at (keep b i []) ≡ map at (filter test (run 0 i)) ++ keep b (at i) []
      go true = refl
      go false = refl

  pub picked_took : (i : ℕ) → test i ≡ true → picked test first (i + 1) ≡ picked test first i ++ ((first + i) ∷ [])
  picked_took i e = rw (picked_more, e)

  pub picked_passed : (i : ℕ) → test i ≡ false → picked test first (i + 1) ≡ picked test first i
  picked_passed i e = rw (picked_more, e, append-nil)

  -- places that fail pick nothing
  pub picked_skip : (i j : ℕ) → i ≤ j → ((q : ℕ) → i ≤ q → q < j → test q ≡ false) → picked test first j ≡ picked test first i
  unfolding picked
  picked_skip i j h none =
      let e : i + (j - i) ≡ j = omega arith in
      ap (map (λ k. first + k)) (rw e at (filter_upto test 0 i (j - i) (λ q u v. none q (omega arith) (omega arith))))

  pub picked_bounded : (count : ℕ) → length (picked test first count) ≤ count
  unfolding picked
  picked_bounded count = simp length-map (omega (arith, length_filter test (run 0 count), length_run 0 count))

-- two tests that agree at the places below count pick the same
pub picked_same : (f g : ℕ → Bool) (first count : ℕ) → ((i : ℕ) → i < count → f i ≡ g i) → picked f first count ≡ picked g first count
unfolding picked
picked_same f g first count e = ap (map (λ i. first + i)) (filter_same f g 0 count (λ i _ h. e i (rw zero-add at h)))

pub byte_small : (b : Bool) → bool_byte b ≤ 1
byte_small true = omega arith
byte_small false = omega arith

-- i places are counted
pub record Counted (test : ℕ → Bool) (first count n i : ℕ) : Type 0 where
  pub within : i ≤ count
  pub bounded : n ≤ i
  pub sum : n ≡ length (picked test first i)

pub counted_start : (test : ℕ → Bool) (first count : ℕ) → Counted test first count 0 0
counted_start test first count = record { within = omega arith; bounded = omega arith; sum = ap length (sym (picked_none test first)) }

-- turns that count nothing
pub counted_skip : {test : ℕ → Bool} {first count n i : ℕ} → Counted test first count n i → (j : ℕ) → i ≤ j → j ≤ count
    → ((q : ℕ) → i ≤ q → q < j → test q ≡ false) → Counted test first count n j
counted_skip {test} {first} {i = i} v j h k none =
    record { within = k; bounded = let f = v.bounded in omega arith; sum = v.sum ∙ ap length (sym (picked_skip test first i j h none)) }

pub counted_more : {test : ℕ → Bool} {first count n i : ℕ} → Counted test first count n i → i < count → (b : Bool) → b ≡ test i
    → Counted test first count (n + bool_byte b) (i + 1)
counted_more {test} {first} {count} {n} {i} v h b e = record {
  within = omega arith;
  bounded = omega (arith, byte_small b);
  sum = rw (picked_more, length-append, ← e, ← v.sum) (held b);
}
  where
    held : (b : Bool) → n + bool_byte b ≡ n + length (keep b (first + i) [])
    held true = refl
    held false = refl

pub counted_all : {test : ℕ → Bool} {first count n i : ℕ} → Counted test first count n i → count ≤ i → n ≡ length (picked test first count)
counted_all {test} {first} {count} {n} {i} v h = let e : count ≡ i = le_antisymm h v.within in rw e v.sum
