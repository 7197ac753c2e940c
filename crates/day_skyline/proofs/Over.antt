-- One position of a day over another, by one comparison of their cells.
use mathlib.Core.Path.{◌≡◌, refl, ◌∙◌}
use Prim.Native.Nat.{ℕ, suc, ◌+◌, ◌-◌, ◌*◌, ◌≤◌, ◌<◌}
use native.Mathlib.Nat.{zero-add, suc-mul, mul_comm, mul-le-mul_right}
use native.Mathlib.Omega.{arith}
use native.Mathlib.Decide.{dec_lt}
use mathlib.Core.Bool.{Bool, true, false, ◌&&◌, ◌||◌, not}
use mathlib.Core.List.{List, []}
use lib.Dec.{ltb}
use lib.ListN.{length, take, drop, length-drop}
use lib.Seq.{take_all, get_or-take}
use borrow.Author.Tests.{lt-ltb, le-ltb}
use Rattle.lists.proofs.Runs.{get_or_run}
use Rattle.dominance.specs.Dominance.{some_better}
use Rattle.dominance.specs.Renewal.{quote_at, renewed}
use Rattle.dominance.specs.Compared.{compared}
use Rattle.dominance.specs.declared.Comparison.{Comparison}
use Rattle.dominance.proofs.Comparing.{no_worse_by, dominated_by_lem, some_better_same}
use Rattle.dominance.proofs.Renewal.{renewed_later, renewed_earlier, renewed_irreflexive, renewed_transitive}
use Rattle.day_skyline.specs.declared.day.Day.{Day}
use Rattle.day_skyline.specs.Sheet.{quotes_in}
use Rattle.day_skyline.specs.Finding.{over_in, Inside}

-- the first d cells decide who is better
better_take : (d directions : ℕ) (p q : List ℕ) → some_better d directions (take d p) (take d q) ≡ some_better d directions p q
better_take d directions p q = some_better_same d directions (take d p) p (take d q) q (λ i h. get_or-take d p i 0 h) (λ i h. get_or-take d q i 0 h)

-- the part from a place on is all that stands there
pub part_all : (a : ℕ) (l : List ℕ) → take (length l - a) (drop a l) ≡ drop a l
part_all a l = take_all (length l - a) (drop a l) (simp length-drop (omega arith))

module _ (day : Day) where
  abbrev d : ℕ
  d = day.dimensions

  abbrev columns : List ℕ
  columns = day.columns.now

  abbrev quotes : List (List ℕ)
  quotes = quotes_in d day.count columns

  -- it is a strict partial order
  pub over_irreflexive : (p : ℕ) → over_in day p p ≡ false
  unfolding over_in
  over_irreflexive p = renewed_irreflexive d day.directions quotes p

  pub over_transitive : (p q r : ℕ) → over_in day p q ≡ true → over_in day q r ≡ true → over_in day p r ≡ true
  unfolding over_in
  over_transitive p q r e f = renewed_transitive d day.directions quotes p q r e f

  -- the columns of a position are in the table
  pub columns_in : (p : ℕ) → Inside day.count p → (p - 1) * d + d ≤ length columns
  columns_in p i =
      let low = i.low in
      let high = i.high in
      let e : suc (p - 1) ≤ day.count = omega arith in
      let m : (p - 1) * d + d ≤ day.count * d = rw (← suc-mul (p - 1) d) (mul-le-mul_right d e) in
      omega (arith, m, day.quotes_held, mul_comm d day.count)

  -- and are its quote
  quote_is : (p : ℕ) → Inside day.count p → quote_at quotes p ≡ take d (drop ((p - 1) * d) columns)
  unfolding quote_at quotes_in
  quote_is p i =
      let low = i.low in
      let high = i.high in
      get_or_run (λ i. take d (drop (i * d) columns)) [] 0 day.count (p - 1) (omega arith) ∙ rw zero-add

  module _ (q p : ℕ) (inside-q : Inside day.count q) (inside-p : Inside day.count p) where
    abbrev x : List ℕ
    x = drop ((p - 1) * d) columns

    abbrev y : List ℕ
    y = drop ((q - 1) * d) columns

    -- the quote at q is over that at p: it is nowhere worse, and better somewhere or the later one
    pub over_by : {c : Comparison} → c ≡ compared d day.directions x y → not c.better && (c.worse || ltb p q) ≡ over_in day q p
    unfolding over_in compared
    over_by e = rw e (go (dec_lt p q))
      where
        b : Bool
        b = some_better d day.directions x y

        w : Bool
        w = some_better d day.directions y x

        later : (b w : Bool) → not b && (w || true) ≡ not b
        later true w = refl
        later false true = refl
        later false false = refl

        earlier : (b w : Bool) → not b && (w || false) ≡ w && not b
        earlier true true = refl
        earlier true false = refl
        earlier false true = refl
        earlier false false = refl

        go : Dec (p < q) → not b && (w || ltb p q) ≡ renewed d day.directions quotes q p
        go (yes h) =
            rw (
              lt-ltb p q h,
              renewed_later d day.directions quotes q p h,
              quote_is q inside-q,
              quote_is p inside-p,
              no_worse_by d day.directions (take d y) (take d x),
              better_take d day.directions x y,
            ) (later b w)
        go (no h) =
            let k : q ≤ p = omega arith in
            rw (
              le-ltb p q k,
              renewed_earlier d day.directions quotes q p k,
              quote_is q inside-q,
              quote_is p inside-p,
              dominated_by_lem d day.directions (take d x) (take d y),
              better_take d day.directions x y,
              better_take d day.directions y x,
            ) (earlier b w)
