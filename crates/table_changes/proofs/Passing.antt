-- Cells passed over that are not the value sought: none, a block, one, and two stretches; and a loop over a block.
use Rattle.std.specs.Prelude.{Some, None, position}
use Rattle.std.specs.List.{list_any, position_or_len}
use Rattle.std.proofs.Common.{◌==◌}
use Rattle.std.proofs.lemmas.List.{get_or-drop}
use Rattle.std.proofs.lemmas.List.Folds.{list_any_at}
use Rattle.std.proofs.lemmas.List.Quantifiers.{position-Some}
use mathlib.Core.Path.{◌≡◌}
use Prim.Native.Nat.{ℕ, zero, suc, ◌+◌, ◌-◌, ◌≤◌, ◌<◌}
use native.Mathlib.Decide.{dec_lt}
use native.Mathlib.Omega.{arith}
use mathlib.Core.Bool.{Bool, true, false, not, cond}
use mathlib.Core.List.{List, [], ◌∷◌}
use lib.ListN.{length, get_or, take, drop, length-take, length-drop}
use lib.Seq.{get_or-take}
use borrow.Author.Tests.{eqb-true, eq-eqb, lt-ltb}
use Rattle.lists.proofs.Booleans.{clash}
use Rattle.table_changes.specs.Sought.{Unequal, Found}

-- a cell that is the value, as one of a block
at_cell : (cells : List ℕ) (x i size q : ℕ) → i ≤ q → q < i + size → get_or cells q 0 ≡ x → (get_or (take size (drop i cells)) (q - i) 0 == x) ≡ true
at_cell cells x i size q k l same =
    let place : i + (q - i) ≡ q = omega arith in
    rw (get_or-take size (drop i cells) (q - i) 0 (omega arith), get_or-drop, place) (eq-eqb (get_or cells q 0) x same)

in_block : (cells : List ℕ) (x i size q : ℕ) → i + size ≤ length cells → i ≤ q → q < i + size → get_or cells q 0 ≡ x
    → list_any (λ cell. cell == x) (take size (drop i cells)) ≡ true
in_block cells x i size q room k l same =
    let len : size ≤ length (take size (drop i cells)) = simp (length-take, length-drop) (omega arith) in
    list_any_at (λ cell. cell == x) (take size (drop i cells)) (q - i) 0 (omega arith) (at_cell cells x i size q k l same)

-- where one passes, the first is below the end
first_below : (p : ℕ → Bool) (xs : List ℕ) (k : ℕ) → k < length xs → p (get_or xs k 0) ≡ true → position_or_len p xs < length xs
first_below p [] k h t = absurd (omega arith)
first_below p (y ∷ xs) zero h t = rw t (omega arith)
first_below p (y ∷ xs) (suc k) h t = go (p y) (first_below p xs k (omega arith) t)
  where
    go : (b : Bool) → position_or_len p xs < length xs → cond (not b) (1 + position_or_len p xs) 0 < suc (length xs)
    go true l = omega arith
    go false l = omega arith

none_passes : (p : ℕ → Bool) (xs : List ℕ) → position p xs ≡ None → (k : ℕ) → k < length xs → p (get_or xs k 0) ≡ true → ⊥
none_passes p xs e k h t =
    let some : Some (position_or_len p xs) ≡ None = rw (lt-ltb (position_or_len p xs) (length xs) (first_below p xs k h t)) at e in
    cc

module _ (cells : List ℕ) (x from to : ℕ) where
  pub unequal_none : from ≤ to → Unequal cells x from to from
  unequal_none h = record { low = omega arith; high = h; none = λ q u l. absurd (omega arith) }

  -- one stretch behind another
  pub unequal_join : {i j : ℕ} → Unequal cells x from to i → Unequal cells x i to j → Unequal cells x from to j
  unequal_join {i} {j} u v = record {
    low = let a = u.low in let b = v.low in omega arith;
    high = v.high;
    none = λ q k l. go q k l (dec_lt q i);
  }
    where
      go : (q : ℕ) → from ≤ q → q < j → Dec (q < i) → get_or cells q 0 ≡ x → ⊥
      go q k l (yes h) = u.none q k h
      go q k l (no h) = v.none q (omega arith) l

  -- a block without the value
  pub unequal_block : {i j size : ℕ} → to ≤ length cells → Unequal cells x from to i → size ≤ to - i → j ≡ i + size
      → list_any (λ cell. cell == x) (take (j - i) (drop i cells)) ≡ false → Unequal cells x from to j
  unequal_block {i} {j} {size} room u h e f = record {
    low = let a = u.low in omega arith;
    high = let b = u.high in omega arith;
    none = λ q k l. go q k l (dec_lt q i);
  }
    where
      go : (q : ℕ) → from ≤ q → q < j → Dec (q < i) → get_or cells q 0 ≡ x → ⊥
      go q k l (yes b) = u.none q k b
      go q k l (no b) = λ same. clash (list_any (λ cell. cell == x) (take (j - i) (drop i cells))) (in_block cells x i (j - i) q (omega arith) (omega arith) (omega arith) same) f

  -- the first cell that is the value, in what is left
  pub found_some : {near place : ℕ} → to ≤ length cells → Unequal cells x from to near → position (λ cell. cell == x) (take (to - near) (drop near cells)) ≡ Some place
      → Found cells x from to (Some (near + place))
  found_some {near} {place} room u e =
      let t = position-Some (λ cell. cell == x) (take (to - near) (drop near cells)) place 0 e in
      let len : length (take (to - near) (drop near cells)) ≤ to - near = simp length-take (omega arith) in
      let within : near + place < to = let l = t.0 in let high = u.high in omega arith in
      record {
        next = record { passed = record { low = let a = u.low in omega arith; high = omega arith; none = λ q k l. go within q k l (dec_lt q near) }; found = λ _. eqb-true (get_or cells (near + place) 0) x (rw (get_or-take (to - near) (drop near cells) place 0 (omega arith), get_or-drop) at t.1) };
        below = λ i q. let same : near + place ≡ i = cc in omega arith;
      }
    where
      go : near + place < to → (q : ℕ) → from ≤ q → q < near + place → Dec (q < near) → get_or cells q 0 ≡ x → ⊥
      go h q k l (yes b) = u.none q k b
      go h q k l (no b) = λ same.
          let t = position-Some (λ cell. cell == x) (take (to - near) (drop near cells)) place 0 e in
          clash (get_or (take (to - near) (drop near cells)) (q - near) 0 == x) (at_cell cells x near (to - near) q (omega arith) (omega arith) same) (t.2 (q - near) (omega arith))

  -- no such cell in what is left
  pub found_none : {near : ℕ} → to ≤ length cells → Unequal cells x from to near → position (λ cell. cell == x) (take (to - near) (drop near cells)) ≡ None → Found cells x from to None
  found_none {near} room u e = record {
    next = record { passed = record { low = let a = u.low in let b = u.high in omega arith; high = omega arith; none = λ q k l. go q k l (dec_lt q near) }; found = λ l. absurd (omega arith) };
    below = λ i q. absurd (cc);
  }
    where
      go : (q : ℕ) → from ≤ q → q < to → Dec (q < near) → get_or cells q 0 ≡ x → ⊥
      go q k l (yes b) = u.none q k b
      go q k l (no b) = λ same.
          let len : to - near ≤ length (take (to - near) (drop near cells)) = simp (length-take, length-drop) (omega arith) in
          none_passes (λ cell. cell == x) (take (to - near) (drop near cells)) e (q - near) (omega arith) (at_cell cells x near (to - near) q (omega arith) (omega arith) same)
