-- The tests over quotes laid, by their numbers, are those of the last list of n. Assumes nothing.
use mathlib.Core.Path.{◌≡◌, refl, ap, ◌∙◌}
use mathlib.Core.Bool.{Bool, true, false, ◌&&◌, ◌||◌, not, cond}
use mathlib.Core.Logic.{⊎_elim}
use mathlib.Core.List.{List, [], ◌∷◌, map}
use Prim.Native.Nat.{ℕ, zero, suc, ◌+◌, ◌-◌, ◌*◌, ◌%◌, ◌<◌, ◌≤◌, max}
use native.Mathlib.Omega.{arith}
use lib.Dec.{ltb}
use lib.ListN.{length, get_or, take, drop, length-drop}
use lib.Seq.{get_or-take, length-take-le, take_all}
use borrow.Author.Tests.{lt-ltb, le-ltb}
use Rattle.lists.specs.Lists.{keep, filter, any, run, between}
use Rattle.lists.proofs.Filters.{any_append}
use Rattle.lists.proofs.Runs.{run_snoc, any_same}
use Rattle.dominance.specs.declared.Comparison.{Comparison}
use Rattle.dominance.specs.Compared.{compared}
use Rattle.dominance.specs.Renewal.{quote_at, renewed}
use Rattle.dominance.proofs.Comparing.{dominates_by, no_worse_by, some_better_same}
use Rattle.dominance.proofs.Renewal.{renewed_later, renewed_earlier}
use Rattle.skyline.specs.Skyline.{window_start, dominated_in, skyline}
use Rattle.model.specs.Reference.{opening, skyline_of}
use Rattle.drill_model.specs.Turns.{First, Second}
use Rattle.drill_model.specs.Drill.{Held, no_quote, is_first, fed_book, last_list, first_stands}
use Rattle.drill_model.proofs.Below.{below_or_not}
use Rattle.drill_model.proofs.Hands.{length_mapped, get_or_mapped}
use Rattle.drill_turns.specs.declared.game.Rules.{Rules}
use Rattle.drill_turns.specs.Numbers.{numbered, won_by, over_at, dominated_at}

-- some element that passes both tests
any_filter : {A : Type 0} (f g : A → Bool) (l : List A) → any g (filter f l) ≡ any (λ x. f x && g x) l
unfolding any filter
any_filter f g [] = refl
any_filter f g (x ∷ l) = go (f x) (any_filter f g l)
  where
    go : (b : Bool) → any g (filter f l) ≡ any (λ y. f y && g y) l → any g (keep b x (filter f l)) ≡ (b && g x) || any (λ y. f y && g y) l
    go true e = ap (λ r. g x || r) e
    go false e = e

-- one number more of a run is tested
pub any_more : (f : ℕ → Bool) (a k : ℕ) → any f (run a (suc k)) ≡ any f (run a k) || f (a + k)
unfolding any
any_more f a k = ap (any f) (run_snoc a k) ∙ any_append f (run a k) ((a + k) ∷ []) ∙ last (any f (run a k)) (f (a + k))
  where
    last : (b c : Bool) → b || (c || false) ≡ b || c
    last true c = refl
    last false true = refl
    last false false = refl

-- a run tested from one number further on
pub any_shifted : (f : ℕ → Bool) (a k : ℕ) → any f (run (suc a) k) ≡ any (λ i. f (suc i)) (run a k)
unfolding any run
any_shifted f a zero = refl
any_shifted f a (suc k) = ap (λ r. f (suc a) || r) (any_shifted f (suc a) k)

-- a part from a place on is all that stands there
rest_whole : (x : ℕ) (l : List ℕ) → take (length l - x) (drop x l) ≡ drop x l
rest_whole x l = take_all (length l - x) (drop x l) (omega (arith, length-drop x l))

-- only the first d columns are compared
compared_columns : (d directions : ℕ) (p q : List ℕ) → compared d directions (take d p) (take d q) ≡ compared d directions p q
unfolding compared
compared_columns d directions p q =
    let left : (i : ℕ) → i < d → get_or (take d p) i 0 ≡ get_or p i 0 = λ i h. get_or-take d p i 0 h in
    let right : (i : ℕ) → i < d → get_or (take d q) i 0 ≡ get_or q i 0 = λ i h. get_or-take d q i 0 h in
    rw (some_better_same d directions (take d p) p (take d q) q left right, some_better_same d directions (take d q) q (take d p) p right left)

-- no column is worse, and one is better or the quote is later: it is over the other
module _ (d directions : ℕ) (quotes : List (List ℕ)) (j i : ℕ) where
  abbrev found : Bool × Bool
  found = let c = compared d directions (quote_at quotes (suc j)) (quote_at quotes (suc i)) in (c.better, c.worse)

  over_compared : renewed d directions quotes (suc j) (suc i) ≡ not found.1 && (found.0 || ltb i j)
  over_compared = ⊎_elim
      (λ (h : i < j). renewed_later d directions quotes (suc j) (suc i) (omega arith)
      ∙ no_worse_by d directions (quote_at quotes (suc j)) (quote_at quotes (suc i))
      ∙ rw (lt-ltb i j h) (later found.1 found.0))
      (λ (h : j ≤ i). renewed_earlier d directions quotes (suc j) (suc i) (omega arith)
      ∙ dominates_by d directions (quote_at quotes (suc j)) (quote_at quotes (suc i))
      ∙ rw (le-ltb i j h) (earlier found.1 found.0))
      (below_or_not i j)
    where
      later : (w b : Bool) → not w ≡ not w && (b || true)
      later true b = refl
      later false true = refl
      later false false = refl

      earlier : (w b : Bool) → b && not w ≡ not w && (b || false)
      earlier true true = refl
      earlier true false = refl
      earlier false true = refl
      earlier false false = refl

module _ (cells : List ℕ) (rules : Rules) (laid : List ℕ) where
  abbrev d : ℕ
  d = rules.dimensions

  -- what the comparison of two quotes by their numbers says
  pub over_found : (j i x y : ℕ) {r : Comparison} → x ≡ 6 * (get_or laid j 0 % 8) → y ≡ 6 * (get_or laid i 0 % 8)
      → r ≡ compared d rules.directions (take (length cells - x) (drop x cells)) (drop y cells)
      → not r.worse && (r.better || ltb i j) ≡ over_at cells rules laid j i
  unfolding over_at
  over_found j i x y ex ey e = rw (e, rest_whole x cells, ex, ey)

  module _ (count : ℕ) (room : count ≤ length laid) where
    abbrev held : List Held
    held = map (numbered d cells) (take count laid)

    abbrev quotes : List (List ℕ)
    quotes = map (λ q. q.columns) held

    taken : length (take count laid) ≡ count
    taken = length-take-le count laid room

    counted : length quotes ≡ count
    counted = length_mapped (λ (q : Held). q.columns) held ∙ length_mapped (numbered d cells) (take count laid) ∙ taken

    held_at : (i : ℕ) → i < count → (w : Held) → get_or held i w ≡ numbered d cells (get_or laid i 0)
    held_at i h w =
        get_or_mapped (numbered d cells) w 0 i (take count laid) (omega (arith, taken)) ∙ ap (numbered d cells) (get_or-take count laid i 0 h)

    quote_at_lem : (i : ℕ) → i < count → quote_at quotes (suc i) ≡ take d (drop (6 * (get_or laid i 0 % 8)) cells)
    unfolding quote_at numbered
    quote_at_lem i h =
        let here : suc i - 1 ≡ i = omega arith in
        rw here
        (get_or_mapped (λ (q : Held). q.columns) [] no_quote i held (omega (arith, length_mapped (numbered d cells) (take count laid), taken))
        ∙ ap (λ (q : Held). q.columns) (held_at i h no_quote))

    side_at : (i : ℕ) → i < count → is_first (get_or held i no_quote).side ≡ ltb (get_or laid i 0 % 8) 4
    unfolding is_first numbered
    side_at i h = ap (λ (q : Held). is_first q.side) (held_at i h no_quote) ∙ go (ltb (get_or laid i 0 % 8) 4)
      where
        go : (b : Bool) → is_first (cond b First Second) ≡ b
        go true = refl
        go false = refl

    over_at_lem : (j i : ℕ) → j < count → i < count → renewed d rules.directions quotes (suc j) (suc i) ≡ over_at cells rules laid j i
    unfolding over_at
    over_at_lem j i u v =
        over_compared d rules.directions quotes j i
        ∙ rw (
          quote_at_lem j u,
          quote_at_lem i v,
          compared_columns d rules.directions (drop (6 * (get_or laid j 0 % 8)) cells)
              (drop (6 * (get_or laid i 0 % 8)) cells),
        )

    -- the window of n begins behind this place
    abbrev from : ℕ
    from = count - rules.n

    window_run : between (window_start (length quotes) rules.n) (length quotes) ≡ run (suc from) (count - from)
    unfolding between window_start
    window_run =
        let start : max 1 (length quotes + 1 - rules.n) ≡ suc from = omega (arith, counted) in
        let size : suc (length quotes) - suc from ≡ count - from = omega (arith, counted) in
        rw (start, size)

    abbrev D : ℕ → ℕ → Bool
    D = renewed d rules.directions quotes

    dominated_at_lem : (i : ℕ) → i < count
        → dominated_in D (window_start (length quotes) rules.n) (length quotes) (suc i) ≡ dominated_at cells rules laid from (count - from) i
    unfolding dominated_in dominated_at
    dominated_at_lem i h =
        rw window_run
        (any_shifted (λ q. D q (suc i)) from (count - from)
        ∙ any_same (λ j. D (suc j) (suc i)) (λ j. over_at cells rules laid j i) from (count - from) (λ j u v. over_at_lem j i (omega arith) h))

    -- the first side has won: one of its quotes is laid in the window, and none of the window is over it
    pub won_by_lem : won_by cells rules (take count laid)
        ≡ any (λ i. not (dominated_at cells rules laid from (count - from) i) && ltb (get_or laid i 0 % 8) 4) (run from (count - from))
    unfolding won_by first_stands last_list fed_book opening skyline_of skyline
    won_by_lem =
        any_filter (λ p. not (dominated_in D (window_start (length quotes) rules.n) (length quotes) p)) (λ p. is_first (get_or held (p - 1) no_quote).side)
        (between (window_start (length quotes) rules.n) (length quotes))
        ∙ rw window_run
        (any_shifted (λ p. not (dominated_in D (window_start (length quotes) rules.n) (length quotes) p) && is_first
        (get_or held (p - 1) no_quote).side) from (count - from)
        ∙ any_same _ _ from (count - from) (λ i u v.
        let here : suc i - 1 ≡ i = omega arith in
        let h : i < count = omega arith in
        rw (here, dominated_at_lem i h, side_at i h)))
