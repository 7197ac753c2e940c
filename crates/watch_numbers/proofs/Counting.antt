-- A desk's watches counted and one sought among all eight records, by what the library's methods come to.
use mathlib.Core.Path.{◌≡◌, refl, sym, ap, ◌∙◌}
use mathlib.Core.Logic.{◌⊎◌, inl, inr}
use Prim.Native.Nat.{ℕ, ◌+◌, ◌≤◌}
use native.Mathlib.Omega.{arith}
use mathlib.Core.Bool.{Bool, true, false, ◌&&◌, ◌||◌, cond}
use mathlib.Core.List.{List, [], ◌∷◌}
use lib.Dec.{ltb, eqb}
use lib.ListN.{length, take}
use lib.Seq.{take_all}
use Rattle.std.specs.Prelude.{count_by}
use Rattle.std.specs.List.{list_any}
use Rattle.std.proofs.lemmas.List.Recursion.{is_count_by}
use borrow.Author.Tests.{lt-ltb, eqb-true, eq-eqb}
use Rattle.lists.specs.Lists.{keep, filter, any, contains}
use Rattle.lists.proofs.Booleans.{either, and_false, agree}
use Rattle.lists.proofs.Filters.{filter_filter}
use Rattle.lists.proofs.Members.{contains_filter, filter_same_mem}
use Rattle.lists.proofs.Growing.{length_prefix}
use Rattle.head.specs.declared.Desk.{Desk}
use Rattle.head.specs.Desks.{desk_number, desk_in, watch_of}
use Rattle.model.specs.Shares.{of_desk, count_of}
use Rattle.model.specs.Book.{standing}
use Rattle.watch_numbers.proofs.RecordNumbers.{watch_stands, desk_stands}

-- a watch is that of the desk with this number
unfoldable pub of_number : ℕ → ℕ → Bool
of_number number w = eqb (desk_in w) number

-- an empty record is no desk's: a desk's watches stand
desk_of_standing : (desk : Desk) (w : ℕ) → ltb 0 w && of_desk desk w ≡ of_number (desk_number desk) w
unfolding of_desk of_number
desk_of_standing desk w = go (either (eqb (desk_in w) (desk_number desk)))
  where
    go : (eqb (desk_in w) (desk_number desk) ≡ true) ⊎ (eqb (desk_in w) (desk_number desk) ≡ false) → ltb 0 w && eqb (desk_in w) (desk_number desk) ≡ eqb (desk_in w) (desk_number desk)
    go (inl t) = rw (t, lt-ltb 0 w (desk_stands desk w (eqb-true (desk_in w) (desk_number desk) t)))
    go (inr t) = rw t (and_false (ltb 0 w))

-- a desk's watches among the first eight records
desk_counted : (desk : Desk) (watches : List ℕ) → count_of desk (standing watches) ≡ length (filter (of_number (desk_number desk)) (take 8 watches))
unfolding count_of standing
desk_counted desk watches =
    ap length (filter_filter (of_desk desk) (ltb 0) (take 8 watches))
    ∙ ap length (filter_same_mem (λ w. ltb 0 w && of_desk desk w) (of_number (desk_number desk)) (take 8 watches) (λ w m. desk_of_standing desk w))

-- a desk has eight at most
pub bounded_of_desk : (desk : Desk) (watches : List ℕ) → count_of desk (standing watches) ≤ 8
bounded_of_desk desk watches = omega (arith, desk_counted desk watches, length_prefix (of_number (desk_number desk)) watches 8)

-- the elements that pass a test, counted by the library's words
counted_lem : (test : ℕ → Bool) (l : List ℕ) → length (filter test l) ≡ count_by test l
unfolding filter
counted_lem test l = is_count_by (λ (m : List ℕ). length (filter test m)) test refl (λ x xs. go (test x) x (filter test xs)) l
  where
    go : (b : Bool) (x : ℕ) (rest : List ℕ) → length (keep b x rest) ≡ cond b (1 + length rest) (length rest)
    go true x rest = omega arith
    go false x rest = refl

-- what is counted among all eight is counted among those that stand
pub counted_of : (desk : Desk) (watches : List ℕ) (number : ℕ) → length watches ≡ 8 → number ≡ desk_number desk
    → count_by (λ w. eqb (desk_in w) number) watches ≡ count_of desk (standing watches)
unfolding of_number
counted_of desk watches number e n =
    let whole : take 8 watches ≡ watches = take_all 8 watches (omega arith) in
    sym (desk_counted desk watches ∙ rw (whole, ← n) (counted_lem (of_number number) watches))

-- some element is this one, by the library's words
any_lem : (x : ℕ) (l : List ℕ) → list_any (λ y. eqb y x) l ≡ contains x l
unfolding contains any
any_lem x [] = refl
any_lem x (y ∷ ys) =
    rw (agree (eqb y x) (eqb x y) (λ t. eq-eqb x y (sym (eqb-true y x t))) (λ t. eq-eqb y x (sym (eqb-true x y t)))) (ap (λ (b : Bool). eqb x y || b) (any_lem x ys))

and-true : (b : Bool) → b && true ≡ b
and-true true = refl
and-true false = refl

-- a desk's watch that is found is one that stands
pub found_among : (watches : List ℕ) (desk : Desk) (n watch : ℕ) → length watches ≡ 8 → watch ≡ watch_of desk n
    → list_any (λ y. eqb y watch) watches ≡ contains (watch_of desk n) (standing watches)
unfolding standing
found_among watches desk n watch e w =
    rw (w, any_lem (watch_of desk n) watches, contains_filter (ltb 0) (watch_of desk n) (take 8 watches), lt-ltb 0 (watch_of desk n) (watch_stands desk n), and-true, take_all 8 watches (omega arith))
