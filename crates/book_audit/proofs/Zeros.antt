-- Cells that are all 0, by the library's words.
use Rattle.std.proofs.Common.{◌≡◌, refl, ℕ, zero, suc, sym, arith, ◌-◌, Bool, true, false, not, ◌&&◌, ◌||◌, List, [], ◌∷◌, take, drop, eqb, ltb}
use Rattle.std.specs.List.{list_all}
use borrow.Author.Tests.{ne_eqb, lt-ltb}
use Rattle.lists.specs.Lists.{any}
use Rattle.model_audit.specs.Audit.{zero_from}

not_or : (a b : Bool) → not (a || b) ≡ not a && not b
not_or true b = refl
not_or false b = refl

zero_test : (x : ℕ) → eqb x 0 ≡ not (ltb 0 x)
zero_test zero = refl
zero_test (suc x) = rw (ne_eqb (suc x) 0 (λ e. omega arith), lt-ltb 0 (suc x) (omega arith))

all_are : (cells : List ℕ) → list_all (λ x. eqb x 0) cells ≡ not (any (ltb 0) cells)
unfolding any
all_are [] = refl
all_are (x ∷ xs) = rw (zero_test x, all_are xs) (sym (not_or (ltb 0 x) (any (ltb 0) xs)))

-- the cells from one place up to another
pub all_zeros : (from to : ℕ) (cells : List ℕ) → list_all (λ x. eqb x 0) (take (to - from) (drop from cells)) ≡ zero_from from to cells
unfolding zero_from
all_zeros from to cells = all_are (take (to - from) (drop from cells))
