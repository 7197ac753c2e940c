-- How two quotes stand to each other by their columns alone (02, 7/13): four answers with their numbers, the comparison with its
-- refusals, and with which answers one of two quotes that came one after the other is over the other (5/13).
use Rattle.std.specs.Prelude.{ℕ, ◌/◌, ◌^◌, Bool, true, false, ◌&&◌, not, List, [], ◌∷◌, leb, eqb, length, Result, Ok, Err}
use Rattle.dominance.specs.Dominance.{some_better}
use Rattle.refusals.specs.declared.Refusal.{Refusal}
use Rattle.refusals.specs.Refusals.{first_of, number as refusal}
use Rattle.host_standing.specs.declared.Standing.{Standing}
use Rattle.host_standing.specs.declared.Standing.TheVariants.{FirstBetter, SecondBetter, Equal, Neither}

-- the answer, by whether the first is better in some column and whether the second is
unfoldable pub standing_by : Bool → Bool → Standing
standing_by true false = FirstBetter
standing_by false true = SecondBetter
standing_by false false = Equal
standing_by true true = Neither

-- how p, the first, stands to q, the second, over the columns below d
unfoldable pub standing : ℕ → ℕ → List ℕ → List ℕ → Standing
standing d directions p q = standing_by (some_better d directions p q) (some_better d directions q p)

-- 02's number of an answer
abbrev pub number : Standing → ℕ
number FirstBetter = 100
number SecondBetter = 101
number Equal = 102
number Neither = 103

-- the number of what the comparison hands back: 100 to 103, or 01's of a refusal
abbrev pub answered : Result Standing Refusal → ℕ
answered (Ok s) = number s
answered (Err k) = refusal k

-- the two have as many columns as each other, 1 to 6
unfoldable pub alike : List ℕ → List ℕ → Bool
alike p q = (leb 1 (length p) && leb (length p) 6) && eqb (length p) (length q)

-- the comparison of p, the first, with q, the second: 4 where their numbers of columns differ or are not 1 to 6, then 3 where a
-- direction bit at that number or above is set, else the number of how they stand
unfoldable pub comparison : ℕ → List ℕ → List ℕ → ℕ
comparison directions p q =
    let d = length p in
    first_of ((not (alike p q), 4) ∷ (not (eqb (directions / 2 ^ d) 0), 3) ∷ (true, number (standing d directions p q)) ∷ [])

-- the answer once first and second are swapped
abbrev pub swapped : Standing → Standing
swapped FirstBetter = SecondBetter
swapped SecondBetter = FirstBetter
swapped Equal = Equal
swapped Neither = Neither

-- a later quote that stands so to an earlier one is over it (5/13): it is better, or equal
abbrev pub over_earlier : Standing → Bool
over_earlier FirstBetter = true
over_earlier SecondBetter = false
over_earlier Equal = true
over_earlier Neither = false

-- an earlier quote that stands so to a later one is over it: it is better
abbrev pub over_later : Standing → Bool
over_later FirstBetter = true
over_later SecondBetter = false
over_later Equal = false
over_later Neither = false
