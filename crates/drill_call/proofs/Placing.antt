-- The quotes of both hands by their numbers are the hands of the drill, so the place that the turns find is the drill's. Assumes nothing.
use mathlib.Core.Path.{◌≡◌, sym, ap, ap₂, ◌∙◌}
use mathlib.Core.List.{List, [], ◌++◌, map}
use Prim.Native.Nat.{ℕ, ◌+◌, ◌*◌, ◌%◌, ◌<◌, ◌≤◌}
use native.Mathlib.Omega.{arith}
use lib.ListN.{length, take, drop, length-drop}
use lib.Seq.{drop-append-le, take-append-le, drop-append-add}
use borrow.Author.Tests.{lt-ltb, le-ltb}
use Rattle.lists.specs.Lists.{run}
use Rattle.lists.proofs.Filters.{map_map}
use Rattle.lists.proofs.Members.{map_same_mem}
use Rattle.lists.proofs.Runs.{of_run, run_from, length_run}
use Rattle.drill_model.specs.Turns.{First, Second, best_place}
use Rattle.drill_model.specs.Drill.{Held, held, no_quote, hand_of, first_stands, drill_place}
use Rattle.drill_model.proofs.Hands.{length_mapped}
use Rattle.drill_model.proofs.Turned.{best_mapped}
use Rattle.drill_model.proofs.Drilled.{place_within}
use Rattle.drill_turns.specs.declared.game.Rules.{Rules}
use Rattle.drill_turns.specs.Numbers.{numbered, won_by}
use Rattle.drill_turns.specs.declared.game.Play.{Play}
use Rattle.drill_turns.specs.Plays.{place_number, Started, place_in}
use Rattle.std.specs.Prelude.{Option, Some, None, IfSome}
use Rattle.drill_call.specs.declared.Hand.{Hand}
use Rattle.drill_call.specs.Drills.{quotes_of, Small}

module _ (d : ℕ) (a b : List ℕ) (narrow : d ≤ 6) (long : length a ≡ 24) where
  -- a number below 4 is a quote of the first hand
  number_first : (i : ℕ) → i < 4 → numbered d (a ++ b) i ≡ held First (take d (drop (6 * i) a))
  unfolding numbered
  number_first i h =
      let same : i % 8 ≡ i = omega arith in
      let room : d ≤ length (drop (6 * i) a) = omega (arith, length-drop (6 * i) a) in
      rw (same, lt-ltb i 4 h, drop-append-le (6 * i) a b (omega arith), take-append-le d (drop (6 * i) a) b room)

  -- the four numbers behind them are those of the second
  number_second : (i : ℕ) → i < 4 → numbered d (a ++ b) (4 + i) ≡ held Second (take d (drop (6 * i) b))
  unfolding numbered
  number_second i h =
      let same : (4 + i) % 8 ≡ 4 + i = omega arith in
      let at : 6 * (4 + i) ≡ length a + 6 * i = omega arith in
      rw (same, le-ltb (4 + i) 4 (omega arith), at, drop-append-add a b (6 * i))

  hand_first : (count : ℕ) → count ≤ 4 → map (numbered d (a ++ b)) (run 0 count) ≡ hand_of First (map (λ i. take d (drop (6 * i) a)) (run 0 count))
  unfolding hand_of
  hand_first count h =
      map_same_mem (numbered d (a ++ b)) (λ i. held First (take d (drop (6 * i) a))) (run 0 count)
      (λ i m. number_first i (omega (arith, (of_run 0 count i m).1)))
      ∙ sym (map_map (held First) (λ i. take d (drop (6 * i) a)) (run 0 count))

  hand_second : (count : ℕ) → count ≤ 4 → map (numbered d (a ++ b)) (run 4 count) ≡ hand_of Second (map (λ i. take d (drop (6 * i) b)) (run 0 count))
  unfolding hand_of
  hand_second count h =
      ap (map (numbered d (a ++ b))) (run_from 4 0 count)
      ∙ map_map (numbered d (a ++ b)) (λ i. 4 + i) (run 0 count)
      ∙ map_same_mem (λ i. numbered d (a ++ b) (4 + i)) (λ i. held Second (take d (drop (6 * i) b))) (run 0 count)
      (λ i m. number_second i (omega (arith, (of_run 0 count i m).1)))
      ∙ sym (map_map (held Second) (λ i. take d (drop (6 * i) b)) (run 0 count))

module _ (rules : Rules) (first second : Hand) (small : Small rules first second) where
  abbrev place : ℕ
  place =
      drill_place rules.dimensions rules.capacity rules.directions rules.n (quotes_of rules.dimensions first)
      (quotes_of rules.dimensions second)

  -- the place that the turns find
  turns_place : length first.cells ≡ 24 → (play : Play) → Started first.count second.count play
      → place_in (first.cells ++ second.cells) rules play ≡ place
  unfolding place_in drill_place quotes_of won_by
  turns_place long play s =
      rw (s.first, s.second, s.laid)
      (sym (best_mapped (numbered rules.dimensions (first.cells ++ second.cells)) no_quote 0
      (first_stands rules.dimensions rules.capacity rules.directions rules.n) (run 0 first.count) (run 4 second.count) [])
      ∙ ap₂ (λ (x y : List Held). best_place no_quote (first_stands rules.dimensions rules.capacity rules.directions rules.n) x y [])
      (hand_first rules.dimensions first.cells second.cells small.narrow long first.count small.firsts)
      (hand_second rules.dimensions first.cells second.cells small.narrow long second.count small.seconds))

  pub found_place : {cells : List ℕ} {r : ℕ} → (cells ≡ first.cells ++ second.cells) × (length first.cells ≡ 24) → (play : Play)
      → Started first.count second.count play → r ≡ place_in cells rules play → r ≡ place
  found_place j play s e = e ∙ rw j.0 (turns_place j.1 play s)

  length_quotes : length (quotes_of rules.dimensions first) ≡ first.count
  unfolding quotes_of
  length_quotes = length_mapped (λ i. take rules.dimensions (drop (6 * i) first.cells)) (run 0 first.count) ∙ length_run 0 first.count

  -- it is at most 4, and 0 for an empty hand
  pub place_most : place ≤ first.count
  place_most =
      omega (
        arith,
        length_quotes,
        place_within rules.dimensions rules.capacity rules.directions rules.n (quotes_of rules.dimensions first)
            (quotes_of rules.dimensions second),
      )

  pub place_empty : first.count ≡ 0 → 0 ≡ place
  place_empty e = omega (arith, place_most)

-- a place that was found is one of a hand of four
pub place_below : (r : Option ℕ) → place_number r ≤ 4 → IfSome r (λ i. i < 4)
place_below None h = tt
place_below (Some i) h = omega arith
