-- The strategy is a way of choosing: a map from the replies so far to a place that wins for every order of replies. Assumes nothing.
use mathlib.Core.Path.{◌≡◌, refl}
use mathlib.Core.Bool.{Bool, true, ◌&&◌}
use mathlib.Core.Logic.{◌⊎◌, inl, inr}
use mathlib.Core.List.{List, [], ◌∷◌}
use Prim.Native.Nat.{ℕ, zero, suc, ◌+◌, ◌<◌, ◌≤◌}
use native.Mathlib.Omega.{arith}
use lib.Dec.{ltb}
use lib.ListN.{length}
use borrow.Author.Tests.{ltb-true, lt-ltb}
use Rattle.lists.proofs.Booleans.{and_left, and_right, both}
use Rattle.drill_model.specs.Turns.{Side, First, Second, left, laying, layer, some_below, each_below, Wins, judged, wins}
use Rattle.drill_model.specs.Ways.{Way, once_laid, once_replied, Order, done, next, won_by, WinningWay}
use Rattle.drill_model.proofs.Below.{below_or_not, some_at, some_found, each_at, each_all}
use Rattle.drill_model.proofs.Hands.{length_left, some_order}
use Rattle.drill_model.proofs.Judged.{wins_judged, judged_wins}

module _ {Q : Type 0} (none : Q) (won : List Q → Bool) where
  -- the way wins for every order in which the second hand can be laid, with k quotes in hand
  abbrev WinsBy : ℕ → Side → Way → List Q → List Q → List Q → Type 0
  WinsBy k turn way first second laid = (order : List ℕ) → Order second order → won_by none won k turn way order first second laid ≡ true

  -- a way that lays at this place first, and then goes on by another way
  abbrev lays_at : ℕ → Way → Way
  lays_at i rest zero replies = i
  lays_at i rest (suc count) replies = rest count replies

  -- a way that goes on by the way for the first reply
  abbrev answers : (ℕ → Way) → Way
  answers rest count [] = 0
  answers rest count (reply ∷ replies) = rest reply count replies

  -- the way for each reply that there is
  module _ (k : ℕ) (first second laid : List Q)
      (ways : (i : ℕ) → i < length second → (way : Way) × WinsBy k First way first (left i second) (laying none i second laid)) where
    chosen : (i : ℕ) → (i < length second) ⊎ (length second ≤ i) → Way
    chosen i (inl h) = (ways i h).0
    chosen i (inr h) = λ count replies. 0

    chosen_wins : (i : ℕ) (d : (i < length second) ⊎ (length second ≤ i)) → i < length second
        → WinsBy k First (chosen i d) first (left i second) (laying none i second laid)
    unfolding chosen
    chosen_wins i (inl h) u = (ways i h).1
    chosen_wins i (inr h) u = absurd (omega arith)

  -- with k quotes in hand, what is judged to win has a way that wins for every order
  abbrev HasWay : ℕ → Type 0
  HasWay k = (turn : Side) (first second laid : List Q) → k ≡ length first + length second
      → judged none won k turn first second laid ≡ true → (way : Way) × WinsBy k turn way first second laid

  way_of_first : (k : ℕ) → HasWay k → (turn : Side) (first second laid : List Q) → layer turn first second ≡ First
      → suc k ≡ length first + length second
      → some_below (λ i. judged none won k Second (left i first) second (laying none i first laid)) (length first) ≡ true
      → (way : Way) × WinsBy (suc k) turn way first second laid
  unfolding won_by
  way_of_first k has turn first second laid l h e =
      let t = some_found (λ i. judged none won k Second (left i first) second (laying none i first laid)) (length first) e in
      let rest = has Second (left t.0 first) second (laying none t.0 first laid) (omega (arith, t.1, length_left t.0 first t.1)) t.2 in
      (lays_at t.0 rest.0, λ order o. rw l (both (ltb t.0 (length first)) _ (lt-ltb t.0 (length first) t.1) (rest.1 order o)))

  module _ (k : ℕ) (turn : Side) (first : List Q) (y : Q) (second laid : List Q) (l : layer turn first (y ∷ second) ≡ Second) where
    abbrev Replies : Type 0
    Replies = (i : ℕ) → i < length (y ∷ second) → (way : Way) × WinsBy k First way first (left i (y ∷ second)) (laying none i (y ∷ second) laid)

    abbrev answering : Replies → Way
    answering ways = answers (λ i. chosen k first (y ∷ second) laid ways i (below_or_not i (length (y ∷ second))))

    answering_wins : (ways : Replies) → WinsBy (suc k) turn (answering ways) first (y ∷ second) laid
    unfolding won_by
    answering_wins ways _ (next {order = order} i u o) =
        rw l (chosen_wins k first (y ∷ second) laid ways i (below_or_not i (length (y ∷ second))) u order o)

    way_of_second : HasWay k → suc k ≡ length first + length (y ∷ second)
        → each_below (λ i. judged none won k First first (left i (y ∷ second)) (laying none i (y ∷ second) laid)) (length (y ∷ second)) ≡ true
        → (way : Way) × WinsBy (suc k) turn way first (y ∷ second) laid
    way_of_second has h e =
        let ways : Replies = λ i u. has First first (left i (y ∷ second)) (laying none i (y ∷ second) laid)
        (omega (arith, length_left i (y ∷ second) u))
        (each_at (λ i. judged none won k First first (left i (y ∷ second)) (laying none i (y ∷ second) laid)) (length (y ∷ second)) i e u) in
        (answering ways, answering_wins ways)

  has_way : (k : ℕ) → HasWay k
  unfolding judged layer won_by
  has_way zero turn first second laid h e = (λ count replies. 0, λ order o. e)
  has_way (suc k) First (x ∷ first) second laid h e = way_of_first k (has_way k) First (x ∷ first) second laid refl h e
  has_way (suc k) First [] [] laid h e = absurd (omega arith)
  has_way (suc k) First [] (y ∷ second) laid h e = way_of_second k First [] y second laid refl (has_way k) h e
  has_way (suc k) Second [] [] laid h e = absurd (omega arith)
  has_way (suc k) Second (x ∷ first) [] laid h e = way_of_first k (has_way k) Second (x ∷ first) [] laid refl h e
  has_way (suc k) Second first (y ∷ second) laid h e = way_of_second k Second first y second laid refl (has_way k) h e

  -- with k quotes in hand, a way that wins for every order is judged to win
  abbrev Judges : ℕ → Type 0
  Judges k = (turn : Side) (way : Way) (first second laid : List Q) → k ≡ length first + length second
      → WinsBy k turn way first second laid → judged none won k turn first second laid ≡ true

  judged_first : (k : ℕ) → Judges k → (turn : Side) (way : Way) (first second laid : List Q) → layer turn first second ≡ First
      → suc k ≡ length first + length second → WinsBy (suc k) turn way first second laid
      → some_below (λ i. judged none won k Second (left i first) second (laying none i first laid)) (length first) ≡ true
  unfolding won_by
  judged_first k judges turn way first second laid l h w =
      let i = way 0 [] in
      let later : (order : List ℕ) → Order second order
      → ltb i (length first) && won_by none won k Second (once_laid way) order (left i first) second (laying none i first laid) ≡ true
      = λ order o. rw l at (w order o) in
      let some = some_order second in
      let u : i < length first = ltb-true i (length first) (and_left (ltb i (length first)) _ (later some.0 some.1)) in
      some_at (λ i. judged none won k Second (left i first) second (laying none i first laid)) (length first) i u
      (judges Second (once_laid way) (left i first) second (laying none i first laid) (omega (arith, length_left i first u))
      (λ order o. and_right (ltb i (length first)) _ (later order o)))

  judged_second : (k : ℕ) → Judges k → (turn : Side) (way : Way) (first second laid : List Q) → layer turn first second ≡ Second
      → suc k ≡ length first + length second → WinsBy (suc k) turn way first second laid
      → each_below (λ i. judged none won k First first (left i second) (laying none i second laid)) (length second) ≡ true
  unfolding won_by
  judged_second k judges turn way first second laid l h w =
      each_all (λ i. judged none won k First first (left i second) (laying none i second laid)) (length second)
      (λ i u. judges First (once_replied i way) first (left i second) (laying none i second laid) (omega (arith, length_left i second u))
      (λ order o. rw l at (w (i ∷ order) (next i u o))))

  way_judged : (k : ℕ) → Judges k
  unfolding judged layer won_by
  way_judged zero turn way [] [] laid h w = w [] done
  way_judged zero turn way [] (y ∷ second) laid h w = absurd (omega arith)
  way_judged zero turn way (x ∷ first) second laid h w = absurd (omega arith)
  way_judged (suc k) First way (x ∷ first) second laid h w = judged_first k (way_judged k) First way (x ∷ first) second laid refl h w
  way_judged (suc k) First way [] [] laid h w = absurd (omega arith)
  way_judged (suc k) First way [] (y ∷ second) laid h w = judged_second k (way_judged k) First way [] (y ∷ second) laid refl h w
  way_judged (suc k) Second way [] [] laid h w = absurd (omega arith)
  way_judged (suc k) Second way (x ∷ first) [] laid h w = judged_first k (way_judged k) Second way (x ∷ first) [] laid refl h w
  way_judged (suc k) Second way first (y ∷ second) laid h w = judged_second k (way_judged k) Second way first (y ∷ second) laid refl h w

  -- a way of choosing that wins for every order of replies exists exactly if the strategy does
  pub way_of_wins : {turn : Side} {first second laid : List Q} → Wins none won turn first second laid → WinningWay none won turn first second laid
  way_of_wins {turn} {first} {second} {laid} w =
      let k = length first + length second in
      let found = has_way k turn first second laid refl (wins_judged none won w k refl) in
      record { way = found.0; wins = found.1 }

  pub wins_of_way : {turn : Side} {first second laid : List Q} → WinningWay none won turn first second laid → Wins none won turn first second laid
  wins_of_way {turn} {first} {second} {laid} w =
      let k = length first + length second in
      judged_wins none won k turn first second laid refl (way_judged k turn w.way first second laid refl w.wins)

  pub wins_iff_way : (turn : Side) (first second laid : List Q)
      → (Wins none won turn first second laid → WinningWay none won turn first second laid)
      × (WinningWay none won turn first second laid → Wins none won turn first second laid)
  wins_iff_way turn first second laid = (way_of_wins, wins_of_way)
