-- Laws of answers by 01's numbers: of the first condition that holds, of what is granted, and of an answer and its number.
use mathlib.Core.Path.{◌≡◌, refl, sym, ap, ◌∙◌}
use Prim.Native.Nat.{ℕ, zero, suc, ◌≤◌}
use native.Mathlib.Omega.{arith}
use mathlib.Core.Bool.{Bool, true, false, ◌&&◌}
use mathlib.Core.List.{List, [], ◌∷◌, ◌++◌}
use lib.Dec.{ltb}
use borrow.Author.Tests.{ltb-true}
use Rattle.lists.proofs.Booleans.{and_left, and_right}
use Rattle.refusals.specs.declared.Refusal.{Refusal}
use Rattle.refusals.specs.declared.Refusal.TheVariants.{UnknownKind, CutFrame, Settings, ColumnCount, WindowSize, TapeFull, OutOfPlace, AlreadyWatched, NoFreeRecord, NotWatched, ShortLoan, Torn, ShortOutput, WindowOrder, StampOrder, Unmatched, DayLength, MalformedLine, DrillSize}
use Rattle.std.specs.Prelude.{Result, Ok, Err}
use Rattle.std.specs.Result.{IsErr, IsErrAnd}
use Rattle.std.proofs.lemmas.Result.{err_from_is_err_and}
use Rattle.refusals.specs.Refusals.{number, number_of, first_of, granted}

-- ---- the first condition that holds

module _ (b : Bool) (n : ℕ) (more : List (Bool × ℕ)) where
  -- a call that is answered with 0 has passed every condition
  pub zero_passed : first_of ((b, suc n) ∷ more) ≡ 0 → (b ≡ false) × (first_of more ≡ 0)
  unfolding first_of
  zero_passed e = go b e
    where
      go : (c : Bool) → first_of ((c, suc n) ∷ more) ≡ 0 → (c ≡ false) × (first_of more ≡ 0)
      go true e = absurd (omega arith)
      go false e = (refl, e)

  -- two lists that differ only behind a condition answer alike if they do where it is passed
  pub first_of_alike : (more' : List (Bool × ℕ)) → (b ≡ false → first_of more ≡ first_of more') → first_of ((b, n) ∷ more) ≡ first_of ((b, n) ∷ more')
  unfolding first_of
  first_of_alike more' h = go b h
    where
      go : (c : Bool) → (c ≡ false → first_of more ≡ first_of more') → first_of ((c, n) ∷ more) ≡ first_of ((c, n) ∷ more')
      go true h = refl
      go false h = h refl

  -- a condition that fails does not count
  pub first_of_fails : b ≡ false → first_of ((b, n) ∷ more) ≡ first_of more
  unfolding first_of
  first_of_fails e = rw e

-- ---- an answer and its number

-- no refusal has the number 0
pub number_above : (k : Refusal) → 1 ≤ number k
number_above UnknownKind = omega arith
number_above CutFrame = omega arith
number_above Settings = omega arith
number_above ColumnCount = omega arith
number_above WindowSize = omega arith
number_above TapeFull = omega arith
number_above OutOfPlace = omega arith
number_above AlreadyWatched = omega arith
number_above NoFreeRecord = omega arith
number_above NotWatched = omega arith
number_above ShortLoan = omega arith
number_above Torn = omega arith
number_above ShortOutput = omega arith
number_above WindowOrder = omega arith
number_above StampOrder = omega arith
number_above Unmatched = omega arith
number_above DayLength = omega arith
number_above MalformedLine = omega arith
number_above DrillSize = omega arith

-- the number of a call that was accepted is 0
pub accepted_number : {n : ℕ} (a : Result (Unit {0}) Refusal) → number_of a ≡ n → a ≡ Ok tt → n ≡ 0
accepted_number a e f = sym e ∙ ap number_of f

-- the number of a call that was refused is that of its refusal
pub refused_number : {n : ℕ} (a : Result (Unit {0}) Refusal) (k : Refusal) → number_of a ≡ n → a ≡ Err k → n ≡ number k
refused_number a k e f = sym e ∙ ap number_of f

-- a function that hands a refusal on answers with it
pub handed_refusal : {T : Type 0} (r : Result T Refusal) {k : Refusal} → IsErr r × IsErrAnd r (λ j. j ≡ k) → r ≡ Err k
handed_refusal r e = let p = err_from_is_err_and r e.1 in p.1 ∙ ap Err p.2

-- ---- what is granted

-- a call with this number was refused
pub granted_refused : {A : Type 0} (n : ℕ) → 1 ≤ n → (a r : A) → granted n a r ≡ r
unfolding granted
granted_refused zero h a r = absurd (omega arith)
granted_refused (suc n) h a r = refl

-- a refused call
pub refused_granted : {A : Type 0} (k : Refusal) (a r : A) → granted (number k) a r ≡ r
refused_granted k = granted_refused (number k) (number_above k)

-- an accepted call
pub accepted_granted : {A : Type 0} (n : ℕ) → n ≡ 0 → (a r : A) → granted n a r ≡ a
unfolding granted
accepted_granted n e a r = rw e

-- ---- conditions behind others

-- no condition has the number 0
abbrev pub positive : List (Bool × ℕ) → Bool
positive [] = true
positive (c ∷ cs) = ltb 0 c.1 && positive cs

-- where none of the first conditions holds the ones behind them count
pub first_of_append : (cs more : List (Bool × ℕ)) → positive cs ≡ true → first_of (cs ++ more) ≡ granted (first_of cs) (first_of more) (first_of cs)
unfolding first_of granted
first_of_append [] more p = refl
first_of_append (c ∷ cs) more p =
    let above = ltb-true 0 c.1 (and_left (ltb 0 c.1) (positive cs) p) in
    go c.0 (first_of_append cs more (and_right (ltb 0 c.1) (positive cs) p)) above
  where
    go : (b : Bool) → first_of (cs ++ more) ≡ granted (first_of cs) (first_of more) (first_of cs) → 1 ≤ c.1
        → first_of ((b, c.1) ∷ (cs ++ more)) ≡ granted (first_of ((b, c.1) ∷ cs)) (first_of more) (first_of ((b, c.1) ∷ cs))
    go true r above = sym (granted_refused c.1 above (first_of more) c.1)
    go false r above = r
