-- Laws of what is read off the records and stored back.
use mathlib.Core.Path.{◌≡◌, ap, ◌∙◌}
use Prim.Native.Nat.{ℕ, zero, suc, ◌-◌, ◌≤◌}
use native.Mathlib.Nat.{sub-zero}
use native.Mathlib.Omega.{arith}
use mathlib.Core.List.{List, [], ◌∷◌, ◌++◌, append-nil, append_assoc}
use mathlib.Core.Bool.{not}
use lib.Dec.{ltb, eqb}
use lib.ListN.{length, take, drop, replicate, length-append, length-drop, length-take, length-map, length-replicate, drop_of_length-le}
use lib.Seq.{take_all, take-take, take-nil, take-append-le}
use Rattle.lists.specs.Lists.{filter, insert, without, laid, padded}
use Rattle.lists.proofs.Filters.{filter_append, length_filter}
use Rattle.lists.proofs.Growing.{length_prefix}
use Rattle.lists.proofs.Rising.{length_insert}
use Rattle.head.specs.declared.Watch.{Watch}
use Rattle.model.specs.Book.{standing, torn_watches}
use Rattle.watch_records.specs.Records.{record_number, watched, first_eight, stored}
use Rattle.watch_numbers.specs.Vacancy.{Vacant}
use Rattle.watch_numbers.proofs.Inserting.{none_stand}

-- zeros behind a list, as far as it is too short
pub front_is : (n k : ℕ) (l : List ℕ) → n ≤ k → take n (l ++ replicate k 0) ≡ take n l ++ replicate (n - length l) 0
front_is zero k l h = let e : 0 - length l ≡ 0 = omega arith in rw e
front_is (suc n) zero l h = absurd (omega arith)
front_is (suc n) (suc k) [] h = rw sub-zero (ap (λ (r : List ℕ). 0 ∷ r) (rw (take-nil {A = ℕ} n, sub-zero) at (front_is n k [] (omega arith))))
front_is (suc n) (suc k) (x ∷ xs) h =
    let e : suc n - suc (length xs) ≡ n - length xs = omega arith in
    rw e (ap (λ (r : List ℕ). x ∷ r) (front_is n (suc k) xs (omega arith)))

-- eight records or more: their first eight numbers
pub first_eight_whole : (ws : List ℕ) → 8 ≤ length ws → first_eight ws ≡ take 8 ws
unfolding first_eight
first_eight_whole ws h = take-append-le 8 ws (replicate 8 0) h

-- the watches that stand are read off the numbers
pub standing_first : (ws : List ℕ) → standing (first_eight ws) ≡ standing ws
unfolding first_eight standing
standing_first ws = rw (take-take 8 8 (ws ++ replicate 8 0) (omega arith), front_is 8 8 ws (omega arith), filter_append, none_stand, append-nil)

-- so is what is torn of eight records
pub torn_first : (capacity : ℕ) (ws : List ℕ) → 8 ≤ length ws → torn_watches capacity (first_eight ws) ≡ torn_watches capacity ws
unfolding torn_watches
torn_first capacity ws h = rw (standing_first ws, first_eight_whole ws h, take-take 8 8 ws (omega arith))

-- watches written with empties behind them, as numbers and stored, are the same written over the records
stored_padded : (l ws : List ℕ) → length l ≤ 8 → 8 ≤ length ws → stored (padded 8 l (first_eight ws)) ws ≡ padded 8 l ws
unfolding stored laid padded
stored_padded l ws h k =
    let none : drop 8 (first_eight ws) ≡ [] = rw (first_eight_whole ws k) (drop_of_length-le (take 8 ws) {i = 8} (omega (arith, length-take 8 ws))) in
    let front : length (l ++ replicate (8 - length l) 0) ≡ 8 = simp (length-append, length-replicate) (omega arith) in
    let fits : length (l ++ (replicate (8 - length l) 0 ++ drop 8 ws)) ≤ length ws = simp (length-append, length-replicate, length-drop) (omega arith) in
    rw (none, append-nil, front, append_assoc) (take_all (length ws) (l ++ (replicate (8 - length l) 0 ++ drop 8 ws)) fits)

module _ (ws : List ℕ) (enough : 8 ≤ length ws) where
  -- a change of the watches that stand, by their numbers and stored, is that change over the records
  pub changed : (f : List ℕ → List ℕ) → length (f (standing ws)) ≤ 8 → stored (padded 8 (f (standing (first_eight ws))) (first_eight ws)) ws ≡ padded 8 (f (standing ws)) ws
  changed f h = rw (standing_first ws) (stored_padded (f (standing ws)) ws h enough)

  pub vacant_first : Vacant ws → Vacant (first_eight ws)
  vacant_first v = record { capacity = v.capacity; untorn = torn_first v.capacity ws enough ∙ v.untorn; free = rw (standing_first ws) v.free }

pub bounded_inserted : (n : ℕ) (ws : List ℕ) → Vacant ws → length (insert n (standing ws)) ≤ 8
bounded_inserted n ws v = rw length_insert v.free

pub bounded_left : (n : ℕ) (ws : List ℕ) → length (without n (standing ws)) ≤ 8
unfolding without standing
bounded_left n ws =
    omega (arith, length_filter (λ y. not (eqb n y)) (filter (ltb 0) (take 8 ws)), length_prefix (ltb 0) ws 8)

pub many : (records : List Watch) → 8 ≤ length records → 8 ≤ length (watched records)
unfolding watched
many records h = rw (length-map records record_number) h
