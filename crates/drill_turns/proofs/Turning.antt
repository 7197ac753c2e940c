-- The turns, place by place: what each laying is judged by, the passes over the places of a hand, and what they come to. Assumes nothing.
use mathlib.Core.Path.{◌≡◌, refl, sym, ap, ◌∙◌}
use mathlib.Core.Bool.{Bool, true, false, not}
use mathlib.Core.List.{List, []}
use Prim.Native.Nat.{ℕ, suc, ◌+◌, ◌<◌, ◌≤◌}
use native.Mathlib.Omega.{arith}
use native.Mathlib.Numerals.{add-one}
use lib.Dec.{ltb, eqb}
use Rattle.std.specs.Prelude.{Option, Some, None}
use Rattle.std.specs.Option.{is_some}
use lib.ListN.{length}
use borrow.Author.Tests.{ltb-true, ltb-false, ne_eqb}
use Rattle.lists.specs.Lists.{run}
use Rattle.lists.proofs.Booleans.{both, neither}
use Rattle.drill_model.specs.Turns.{First, Second, left, laying, some_below, each_below, wins, keeps, best_place}
use Rattle.drill_model.proofs.Below.{least_none, least_at, each_not}
use Rattle.drill_model.proofs.Turned.{first_by_place, alone_by_place, pass_first, second_by_each, over_by_list}
use Rattle.drill_turns.specs.declared.game.Rules.{Rules}
use Rattle.drill_turns.specs.Numbers.{won_by}
use Rattle.drill_turns.specs.declared.game.Play.{Play}
use Rattle.drill_turns.specs.declared.game.Side as Code
use Rattle.drill_turns.specs.declared.game.Side.TheVariants as Code'
use Rattle.drill_turns.specs.Plays.{numbers_of, laid_numbers, first_hand, second_hand, laid_in, LaidFirst, LaidSecond, side_of, layer_by, place_number, place_in, wins_on, wins_in}
use Rattle.drill_turns.proofs.Playing.{length_numbers}

length_first : (p : Play) → length (first_hand p) ≡ p.first.count
unfolding first_hand
length_first p = length_numbers p.first.count p.first.numbers

length_second : (p : Play) → length (second_hand p) ≡ p.second.count
unfolding second_hand
length_second p = length_numbers p.second.count p.second.numbers

no_first : (p : Play) → p.first.count ≡ 0 → first_hand p ≡ []
unfolding first_hand numbers_of run
no_first p e = rw e

no_second : (p : Play) → p.second.count ≡ 0 → second_hand p ≡ []
unfolding second_hand numbers_of run
no_second p e = rw e

-- whether a place was found, by its number
pub found_is : (r : Option ℕ) → is_some r ≡ not (eqb (place_number r) 0)
found_is None = refl
found_is (Some i) = sym (ap not (ne_eqb (suc i) 0 (λ z. omega arith)))

module _ (cells : List ℕ) (rules : Rules) (p : Play) where
  -- laying the quote at a place keeps the win
  abbrev pub keeps_at : ℕ → Bool
  keeps_at = keeps 0 (won_by cells rules) (first_hand p) (second_hand p) (laid_in p)

  -- the first side wins after the second's laying of the quote at a place
  abbrev pub wins_after : ℕ → Bool
  wins_after i = wins 0 (won_by cells rules) First (first_hand p) (left i (second_hand p)) (laying 0 i (second_hand p) (laid_in p))

  -- the first side lays: it has a quote in hand, and it is its turn or the other has none
  pub on_first : (turn : Code.Side) → layer_by (ltb 0 p.first.count) (ltb 0 p.second.count) turn ≡ Some Code'.First
      → wins_on cells rules (side_of turn) p ≡ not (eqb (place_in cells rules p) 0)
  unfolding wins_on place_in
  on_first turn e = go (ltb 0 p.first.count) (ltb 0 p.second.count) refl refl turn e
    where
      go : (x y : Bool) → ltb 0 p.first.count ≡ x → ltb 0 p.second.count ≡ y → (turn : Code.Side) → layer_by x y turn ≡ Some Code'.First
          → wins_on cells rules (side_of turn) p ≡ not (eqb (place_in cells rules p) 0)
      go true y f g Code'.First e =
          let h = ltb-true 0 p.first.count f in
          first_by_place 0 (won_by cells rules) (first_hand p) (second_hand p) (laid_in p) (omega (arith, length_first p))
      go true true f g Code'.Second e = cc
      go true false f g Code'.Second e =
          let h = ltb-true 0 p.first.count f in
          let z = ltb-false 0 p.second.count g in
          rw (no_second p (omega arith)) (alone_by_place 0 (won_by cells rules) (first_hand p) (laid_in p) (omega (arith, length_first p)))
      go false true f g turn e = cc
      go false false f g turn e = cc

  -- the second side lays: so it has a quote in hand
  pub second_lays : (turn : Code.Side) → layer_by (ltb 0 p.first.count) (ltb 0 p.second.count) turn ≡ Some Code'.Second → 0 < p.second.count
  second_lays turn e = go (ltb 0 p.first.count) (ltb 0 p.second.count) refl refl e
    where
      go : (x y : Bool) → ltb 0 p.first.count ≡ x → ltb 0 p.second.count ≡ y → layer_by x y turn ≡ Some Code'.Second → 0 < p.second.count
      go x true f g e = ltb-true 0 p.second.count g
      go true false f g e = cc
      go false false f g e = cc

  pub on_second : (turn : Code.Side) → layer_by (ltb 0 p.first.count) (ltb 0 p.second.count) turn ≡ Some Code'.Second
      → wins_on cells rules (side_of turn) p ≡ wins_in cells rules p
  unfolding wins_on wins_in
  on_second Code'.Second e = refl
  on_second Code'.First e = go (ltb 0 p.first.count) (ltb 0 p.second.count) refl refl e
    where
      go : (x y : Bool) → ltb 0 p.first.count ≡ x → ltb 0 p.second.count ≡ y → layer_by x y Code'.First ≡ Some Code'.Second
          → wins_on cells rules First p ≡ wins_in cells rules p
      go true true f g e = cc
      go true false f g e = cc
      go false y f g e =
          let z = ltb-false 0 p.first.count f in
          rw (no_first p (omega arith)) (pass_first 0 (won_by cells rules) (second_hand p) (laid_in p))

  -- neither lays: both hands are empty, and the last list decides
  pub on_list : (turn : Code.Side) → layer_by (ltb 0 p.first.count) (ltb 0 p.second.count) turn ≡ None
      → wins_on cells rules (side_of turn) p ≡ won_by cells rules (laid_numbers p.laid)
  unfolding wins_on laid_in
  on_list turn e = go (ltb 0 p.first.count) (ltb 0 p.second.count) refl refl turn e
    where
      go : (x y : Bool) → ltb 0 p.first.count ≡ x → ltb 0 p.second.count ≡ y → (turn : Code.Side) → layer_by x y turn ≡ None
          → wins_on cells rules (side_of turn) p ≡ won_by cells rules (laid_numbers p.laid)
      go true true f g turn e = cc
      go true false f g turn e = cc
      go false true f g turn e = cc
      go false false f g Code'.First e =
          let y = ltb-false 0 p.first.count f in
          let z = ltb-false 0 p.second.count g in
          rw (no_first p (omega arith), no_second p (omega arith))
          (pass_first 0 (won_by cells rules) [] (laid_in p) ∙ over_by_list 0 (won_by cells rules) (laid_in p))
      go false false f g Code'.Second e =
          let y = ltb-false 0 p.first.count f in
          let z = ltb-false 0 p.second.count g in
          rw (no_first p (omega arith), no_second p (omega arith)) (over_by_list 0 (won_by cells rules) (laid_in p))

  -- laying the quote at a place comes to the other side's turn
  pub keeps_on : (i : ℕ) (next : Play) → LaidFirst p i next → keeps_at i ≡ wins_on cells rules Second next
  unfolding keeps wins_on
  keeps_on i next a = rw (a.first, a.second, a.laid)

  pub after_on : (i : ℕ) (next : Play) → LaidSecond p i next → wins_after i ≡ wins_on cells rules First next
  unfolding wins_on
  after_on i next a = rw (a.first, a.second, a.laid)

  -- no place below i keeps the win
  pub record Trying (i : ℕ) : Type 0 where
    pub within : i ≤ p.first.count
    pub none : some_below keeps_at i ≡ false

  pub start_try : Trying 0
  unfolding some_below
  start_try = record { within = omega arith; none = refl }

  module _ (i : ℕ) (s : Trying i) where
    pub more_try : i < p.first.count → keeps_at i ≡ false → Trying (i + 1)
    unfolding some_below
    more_try h e = record { within = omega arith; none = rw (add-one i) (neither (some_below keeps_at i) (keeps_at i) s.none e) }

    pub found_try : i < p.first.count → keeps_at i ≡ true → suc i ≡ place_in cells rules p
    unfolding place_in best_place
    found_try h e = sym (least_at keeps_at (length (first_hand p)) i (omega (arith, length_first p)) s.none e)

    pub end_try : p.first.count ≤ i → 0 ≡ place_in cells rules p
    unfolding place_in best_place
    end_try h =
        let e : i ≡ length (first_hand p) = omega (arith, s.within, length_first p) in
        sym (least_none keeps_at (length (first_hand p)) (rw e at s.none))

  -- the first side wins after each of the places below i
  pub record Facing (i : ℕ) : Type 0 where
    pub within : i ≤ p.second.count
    pub each : each_below wins_after i ≡ true

  pub start_face : Facing 0
  unfolding each_below
  start_face = record { within = omega arith; each = refl }

  module _ (i : ℕ) (s : Facing i) where
    pub more_face : i < p.second.count → wins_after i ≡ true → Facing (i + 1)
    unfolding each_below
    more_face h e = record { within = omega arith; each = rw (add-one i) (both (each_below wins_after i) (wins_after i) s.each e) }

    pub lost_face : i < p.second.count → wins_after i ≡ false → false ≡ wins_in cells rules p
    unfolding wins_in
    lost_face h e = sym (second_by_each 0 (won_by cells rules) (first_hand p) (second_hand p) (laid_in p) (omega (arith, length_second p))
        ∙ each_not wins_after (length (second_hand p)) i (omega (arith, length_second p)) e)

    pub end_face : 0 < p.second.count → p.second.count ≤ i → true ≡ wins_in cells rules p
    unfolding wins_in
    end_face u h =
        let e : i ≡ length (second_hand p) = omega (arith, s.within, length_second p) in
        sym (second_by_each 0 (won_by cells rules) (first_hand p) (second_hand p) (laid_in p) (omega (arith, length_second p)) ∙ rw e at s.each)
