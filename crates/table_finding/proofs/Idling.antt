-- Rows that say nothing: columns compared up to the first that is worse, and rows passed over.
use mathlib.Core.Path.{◌≡◌, refl, sym, ◌∙◌}
use mathlib.Core.Logic.{◌⊎◌, inl, inr}
use Prim.Native.Nat.{ℕ, ◌+◌, ◌-◌, ◌*◌, ◌/◌, ◌^◌, ◌≤◌, ◌<◌}
use native.Mathlib.Nat.{add-zero, div-one, le_refl}
use native.Mathlib.Decide.{dec_lt}
use native.Mathlib.Omega.{arith}
use mathlib.Core.Bool.{Bool, true, false, not}
use mathlib.Core.List.{List}
use Rattle.std.specs.Option.{is_some}
use lib.ListN.{length, take, drop, length-drop}
use lib.Seq.{take_all, get_or-drop}
use borrow.Author.Tests.{not-true, not-false}
use Rattle.lists.proofs.Booleans.{clash, refute, and_false}
use Rattle.dominance.specs.declared.Comparison.{Comparison}
use Rattle.dominance.specs.Dominance.{better_at, no_worse, some_better}
use Rattle.dominance.specs.Compared.{compared}
use Rattle.dominance.proofs.Comparing.{shifted, halved, no_worse_by}
use Rattle.dominance.proofs.Columns.{no_worse_at, at_no_worse}
use Rattle.table_finding.specs.Found.{live, Rows, over, under, retires, Finds, Idle}
use Rattle.table_finding.specs.declared.Found.{Found}
use Rattle.table_finding.proofs.Comparisons.{over_by, under_by}
use Rattle.table_finding.proofs.Passing.{passed}

-- ---- columns compared up to the first that is worse

-- a part from a place on is all that stands there
pub rest_whole : (x : ℕ) (l : List ℕ) → take (length l - x) (drop x l) ≡ drop x l
rest_whole x l = take_all (length l - x) (drop x l) (omega (arith, length-drop x l))

-- what comparing column i says
pub worse_at : (directions : ℕ) {bits : ℕ} (i : ℕ) (xs ys : List ℕ) (c : Comparison) → bits ≡ directions / 2 ^ i
    → c ≡ compared 1 bits (take (length xs - i) (drop i xs)) (drop i ys) → c.worse ≡ better_at directions i ys xs
unfolding compared some_better better_at
worse_at directions {bits} i xs ys c b e =
    rw (
      e,
      rest_whole i xs,
      shifted directions bits i b,
      get_or-drop i ys 0 0,
      get_or-drop i xs 0 0,
      add-zero i,
    )

module _ (d directions : ℕ) (p q : List ℕ) where
  -- in none of the first i columns is p worse than q
  pub record Ranking (bits i : ℕ) : Type 0 where
    pub within : i ≤ d
    pub bits≡ : bits ≡ directions / 2 ^ i
    pub no_worse_lem : (j : ℕ) → j < i → better_at directions j q p ≡ false

  pub rank_start : Ranking directions 0
  rank_start = record { within = omega arith; bits≡ = sym (div-one directions); no_worse_lem = λ j h. absurd (omega arith) }

  pub rank_turn : {bits i : ℕ} → Ranking bits i → i < d → better_at directions i q p ≡ false → Ranking (bits / 2) (i + 1)
  rank_turn {bits} {i} v h e = record {
    within = omega arith;
    bits≡ = rw v.bits≡ (halved directions i);
    no_worse_lem = λ j l. part j l (dec_lt j i);
  }
    where
      part : (j : ℕ) → j < i + 1 → Dec (j < i) → better_at directions j q p ≡ false
      part j l (yes k) = v.no_worse_lem j k
      part j l (no n) = let z : j ≡ i = omega arith in rw z e

  pub rank_end : {bits i : ℕ} → Ranking bits i → d ≤ i → true ≡ no_worse d directions p q
  rank_end v h = sym (at_no_worse directions p q d (λ j l. v.no_worse_lem j (omega arith)))

  pub rank_stop : {i : ℕ} → i < d → better_at directions i q p ≡ true → false ≡ no_worse d directions p q
  rank_stop {i} h e = sym (refute (no_worse d directions p q) (λ t. clash (better_at directions i q p) e (no_worse_at directions p q d t i h)))

-- ---- one row

module _ (s : Rows) where
  over_row : (i : ℕ) → over s i ≡ no_worse s.d s.directions s.quote (drop (i * s.d) s.columns)
  over_row i =
      let row = drop (i * s.d) s.columns in
      over_by s i (compared s.d s.directions s.quote row) refl ∙ sym (no_worse_by s.d s.directions s.quote row)

  -- a retired row is not retired again
  pub dead_kept : (i : ℕ) → live s.uppers i ≡ false → true ≡ not (retires s i)
  unfolding retires
  dead_kept i e = rw e refl

  -- a live row is retired if the quote is no worse
  pub live_kept : (i : ℕ) → live s.uppers i ≡ true → {r : Bool} → r ≡ no_worse s.d s.directions s.quote (drop (i * s.d) s.columns)
      → not r ≡ not (retires s i)
  unfolding retires
  live_kept i e v = rw (e, over_row i, v) refl

  -- a row that is worse in some column is not over the quote
  not_over_row : (i : ℕ) → no_worse s.d s.directions (drop (i * s.d) s.columns) s.quote ≡ false → under s i ≡ false
  unfolding compared
  not_over_row i e =
      let row = drop (i * s.d) s.columns in
      let c = compared s.d s.directions s.quote row in
      let b : c.better ≡ true = not-false c.better (sym (no_worse_by s.d s.directions row s.quote) ∙ e) in
      rw (under_by s i c refl, b) (and_false c.worse)

  -- a row that is kept says nothing where none over the quote is sought
  pub idle_kept : {sought : Bool} {i : ℕ} → not sought ≡ true → {r : Bool} → r ≡ not (retires s i) → r ≡ true → Idle s sought i
  idle_kept {sought} {i} f e t = record { kept = not-true (retires s i) (sym e ∙ t); not_over = λ w. absurd (clash sought w (not-true sought f)) }

  -- and elsewhere where it is worse in some column
  pub idle_worse : {sought : Bool} {i : ℕ} → {n r : Bool} → n ≡ no_worse s.d s.directions (drop (i * s.d) s.columns) s.quote → n ≡ false
      → r ≡ not (retires s i) → r ≡ true → Idle s sought i
  idle_worse {sought} {i} v f e t = record { kept = not-true (retires s i) (sym e ∙ t); not_over = λ w. not_over_row i (sym v ∙ f) }

  -- ---- rows passed over

  -- the rows from place i on and below to say nothing
  pub record Passed (sought : Bool) (from to i : ℕ) : Type 0 where
    pub least : from ≤ i
    pub most : i ≤ to
    pub idle : (q : ℕ) → i ≤ q → q < to → Idle s sought q

  pub pass_start : {sought : Bool} {from to : ℕ} → from ≤ to → Passed sought from to to
  pass_start {to = to} h = record { least = h; most = le_refl to; idle = λ q l m. absurd (omega arith) }

  pub pass_turn : {sought : Bool} {from to i : ℕ} → Passed sought from to i → from < i → Idle s sought (i - 1) → Passed sought from to (i - 1)
  pass_turn {sought} {from} {to} {i} v h e = record { least = omega arith; most = omega (arith, v.most); idle = λ q l m. part q l m (dec_lt q i) }
    where
      part : (q : ℕ) → i - 1 ≤ q → q < to → Dec (q < i) → Idle s sought q
      part q l m (yes k) = let z : q ≡ i - 1 = omega arith in rw z e
      part q l m (no n) = v.idle q (omega arith) m

  -- they say no more of what is found
  pub passed_any : {from i b : ℕ} {places : List ℕ} {f : Found} {sought : Bool} → from ≤ i → i ≤ b → is_some f.last ≡ not sought
      → ((q : ℕ) → from ≤ q → q < i → Idle s sought q) → Finds s i b places f → Finds s from b places f
  passed_any {from} {i} {b} {places} {f} {sought} h l k e v = passed s h l (λ q u m. (e q u m).kept) (which sought k e) v
    where
      which : (x : Bool) → is_some f.last ≡ not x → ((q : ℕ) → from ≤ q → q < i → Idle s x q)
          → ((q : ℕ) → from ≤ q → q < i → under s q ≡ false) ⊎ (is_some f.last ≡ true)
      which true t o = inl (λ q u m. (o q u m).not_over refl)
      which false t o = inr t
